-- A rollback, and the poison message handling that it may call for.
use Rattle.std.specs.Prelude.{ℕ, Bool, false, not, ◌&&◌, ◌||◌, ◌==◌, ◌+◌, if◌then◌else◌, List, [], ◌∷◌, ◌++◌, Some, None, map, filter, flat_map, find, fold, is_none}
use Rattle.std.specs.Option.{option_eq, option_map_or}
use Rattle.sb_log.specs.declared.entries.Entry.{Entry}
use Rattle.sb_log.specs.declared.requests.Reply.{Reply}
use Rattle.sb_log.specs.declared.steps.Answer.{Answer}
use Rattle.sb_model.specs.Sides.{Bytes, same_name}
use Rattle.sb_log.specs.declared.entries.Entry.TheVariants.{QueueSet}
use Rattle.sb_log.specs.declared.definitions.QueueDef.{QueueDef}
use Rattle.sb_model.specs.Catalog.{queues, is_on}
use Rattle.sb_model.specs.Transactions.{OpenTransaction, Owner, Session, Reader}
use Rattle.sb_model.specs.Instance.{Luck, Part, Count, Done, append, has_name, queue_taken, without_counts, no_room}
use Rattle.sb_log.specs.declared.requests.Reply.TheVariants as reply

abbrev pub count_of : List Count → Bytes → ℕ
count_of counts q = option_map_or (λ c. c.number) (find (λ c. same_name c.queue q) counts) 0

abbrev pub set_count : List Count → Bytes → ℕ → List Count
set_count counts q n = record { queue = q; number = n } ∷ without_counts counts (q ∷ [])

-- the queues that a transaction received from, in order of definition
abbrev pub queues_of : Part → OpenTransaction → List QueueDef
queues_of p o = filter (λ def. has_name (flat_map queue_taken o.ops) def.name) (queues p.log)

-- this rollback is the queue's fifth
abbrev pub is_fifth : Part → QueueDef → Bool
is_fifth p def = count_of p.counts def.name == 4

-- it turns the queue off, if the journal has room
abbrev pub disables : Part → QueueDef → Bool
disables p def = is_fifth p def && def.poison && is_on p.log def

abbrev pub off_entry : QueueDef → Entry
off_entry def = QueueSet def.name false

abbrev pub off_entries : Part → OpenTransaction → List Entry
off_entries p o = map off_entry (filter (disables p) (queues_of p o))

-- the queues that are left held, as poison handling is off or the journal has no room
abbrev pub is_held_by : Bool → Part → QueueDef → Bool
is_held_by room p def = is_fifth p def && (not def.poison || (disables p def && not room))

abbrev pub count_after : Bool → Part → List Count → QueueDef → List Count
count_after room p counts def =
    set_count counts def.name (if is_held_by room p def then 0 else count_of p.counts def.name + 1)

-- a wait for a transaction that ended is over
abbrev pub released : ℕ → OpenTransaction → OpenTransaction
released tx o = if option_eq ◌==◌ o.waits_for (Some tx) then record o { waits_for = None } else o

abbrev pub without_open : List OpenTransaction → ℕ → List OpenTransaction
without_open u tx = map (released tx) (filter (λ o. not (o.tx == tx)) u)

abbrev pub has_room : Part → OpenTransaction → Bool
has_room p o = is_none (no_room p (off_entries p o))

-- the instance after the rollback, before its entries
abbrev pub rolled_back : Bool → Part → OpenTransaction → Part
rolled_back room p o = record p {
  open_txns = without_open p.open_txns o.tx;
  counts = fold (count_after room p) p.counts (queues_of p o);
  held = p.held ++ map (λ def. def.name) (filter (is_held_by room p) (queues_of p o));
}

-- a reader that ends without having received leaves its queue held
abbrev pub end_owner : Owner → OpenTransaction → Part → Part
end_owner (Session n) o p = p
end_owner (Reader n q) o p = if has_name (flat_map queue_taken o.ops) q then p else record p { held = p.held ++ q ∷ [] }

abbrev pub off_names : Part → OpenTransaction → List Bytes
off_names p o = if has_room p o then map (λ def. def.name) (filter (disables p) (queues_of p o)) else []

abbrev pub roll_back_with : Luck → Part → OpenTransaction → (Reply → Answer) → Done
roll_back_with luck p o told =
    append luck p (if has_room p o then off_entries p o else []) (told (reply.RolledBack o.tx (off_names p o)))
    (end_owner o.owner o (rolled_back (has_room p o) p o))
