-- Whether an instance has work left for readers.
use Rattle.std.specs.Prelude.{pos, Bool, false, not, ◌&&◌, ◌||◌, int_lt, is_none}
use Rattle.std.specs.Option.{option_map_or}
use Rattle.std.specs.List.{list_any, list_all}
use Rattle.sb_log.specs.declared.definitions.QueueDef.{QueueDef}
use Rattle.sb_model.specs.Catalog.{queues, is_on}
use Rattle.sb_model.specs.Instance.{Part, has_name}
use Rattle.sb_model.specs.Statements.{is_any_reader, start_pick}

abbrev pub has_activation : QueueDef → Bool
has_activation def = option_map_or (λ a. a.on && int_lt (pos 0) a.readers) def.activation false

abbrev pub is_queue_settled : Part → QueueDef → Bool
is_queue_settled p def =
    not (has_activation def) || not (is_on p.log def) || has_name p.held def.name || is_none (start_pick p def)

abbrev pub is_part_settled : Part → Bool
is_part_settled p = not (list_any is_any_reader p.open_txns) && (not p.up || list_all (is_queue_settled p) (queues p.log))
