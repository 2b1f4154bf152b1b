-- The lines of a dump.
use Rattle.std.specs.Prelude.{Bool, ◌&&◌, ◌||◌, int_lt, if◌then◌else◌, List, [], ◌∷◌, ◌++◌, map, flat_map, length, unwrap_or}
use Rattle.std.specs.Option.{option_map_or}
use Rattle.std.specs.List.{list_any}
use Rattle.sb_log.specs.declared.entries.Entry.{Entry}
use Rattle.sb_log.specs.declared.entries.Op.{Op}
use Rattle.sb_model.specs.Sides.{same_name, Making, sides, ops_of}
use Rattle.sb_log.specs.declared.definitions.QueueDef.{QueueDef}
use Rattle.sb_log.specs.declared.entries.Op.TheVariants.{Put}
use Rattle.sb_log.specs.declared.steps.DumpLine.{DumpLine}
use Rattle.std.specs.Cmp.Lexicographic.{slice_cmp}
use Rattle.std.specs.Ordering.{nat_cmp, is_lt}
use Rattle.sb_model.specs.Messages.{is_cleaned, outgoing}
use Rattle.sb_model.specs.Catalog.{queues, is_on}
use Rattle.sb_model.specs.Items.{waiting}
use Rattle.sb_model.specs.States.{state_of}
use Rattle.sb_model.specs.Groups.{group_of, level_of}
use Rattle.sb_model.specs.Transactions.{Key, same_key}
use Rattle.sb_model.specs.Rows.{rows_of}
use Rattle.sb_model.specs.Sorting.{in_order}
use Rattle.sb_log.specs.declared.steps.DumpLine.TheVariants as line

abbrev pub queue_line : List Entry → QueueDef → DumpLine
queue_line log def = line.Queue def.name (is_on log def) (length (waiting log def.name))

abbrev pub side_line : List Entry → Making → List DumpLine
side_line log m =
    if is_cleaned log m.side then []
    else line.Side m.handle (state_of log m.side) (unwrap_or (group_of log m.side) m.group) (level_of log m.side) (length (outgoing log m.side)) ∷ []

abbrev pub put_key : Op → List Key
put_key (Put table key n body) = record { table = table; key = key } ∷ []
put_key _ = []

-- each key once, the first of it
abbrev pub distinct : List Key → List Key → List Key
distinct seen [] = []
distinct seen (k ∷ ks) = if list_any (same_key k) seen then distinct seen ks else k ∷ distinct (k ∷ seen) ks

abbrev pub key_before : Key → Key → Bool
key_before a b = is_lt (slice_cmp nat_cmp a.table b.table) || (same_name a.table b.table && int_lt a.key b.key)

abbrev pub row_line : List Entry → Key → List DumpLine
row_line log k = option_map_or (λ r. line.Row k.table k.key r ∷ []) (rows_of log k.table k.key) []

abbrev pub dump : List Entry → List DumpLine
dump log =
    map (queue_line log) (queues log) ++ flat_map (side_line log) (sides log)
    ++ flat_map (row_line log) (in_order key_before (distinct [] (flat_map put_key (ops_of log))))
