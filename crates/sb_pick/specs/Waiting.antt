-- What waits in the queues of an instance.
use Rattle.std.specs.Prelude.{ℕ, Bool, not, ◌==◌, if◌then◌else◌, List, [], ◌∷◌, ◌++◌, Option, None, Some, filter, map}
use Rattle.std.specs.List.{list_any}
use Rattle.sb_log.specs.declared.definitions.Ddl.TheVariants.{Queue}
use Rattle.sb_log.specs.declared.entries.Entry.{Entry}
use Rattle.sb_log.specs.declared.entries.Entry.TheVariants.{Defined}
use Rattle.sb_log.specs.declared.identifiers.Handle.{Handle}
use Rattle.sb_log.specs.declared.identifiers.SideId.{SideId}
use Rattle.sb_log.specs.declared.messages.Item.{Item}
use Rattle.sb_model.specs.Sides.{Bytes, same_name, same_side}

-- a message in a queue, with the handle, the group and the level of its side
pub record Waiting : Type 0 where
  pub item : Item
  pub handle : Handle
  pub queue : Bytes
  pub group : Handle
  pub level : ℕ

-- what waits in the order of arrival, the queues that are known, and how many more messages fit without memory
pub record Queued : Type 0 where
  pub waiting : List Waiting
  pub queues : List Bytes
  pub spare : ℕ

abbrev pub waiting_of : Item → Handle → Bytes → Handle → ℕ → Waiting
waiting_of item handle queue group level = record { item = item; handle = handle; queue = queue; group = group; level = level }

abbrev pub is_known : List Bytes → Bytes → Bool
is_known queues q = list_any (same_name q) queues

-- the name of the queue that an entry defines
abbrev pub queue_defined : Entry → Option Bytes
queue_defined (Defined (Queue def)) = Some def.name
queue_defined _ = None

-- the known queues and this one
abbrev pub with_queue : List Bytes → Bytes → List Bytes
with_queue queues q = if is_known queues q then queues else queues ++ q ∷ []

abbrev pub with_defined : List Bytes → Option Bytes → List Bytes
with_defined queues None = queues
with_defined queues (Some q) = with_queue queues q

-- the queues that are known once the entry may come
abbrev pub known_after : List Bytes → Entry → List Bytes
known_after queues entry = with_defined queues (queue_defined entry)

-- all but the item with the number
abbrev pub without_item : ℕ → List Waiting → List Waiting
without_item number waiting = filter (λ w. not (w.item.number == number)) waiting

-- all but the items of the side
abbrev pub without_side : SideId → List Waiting → List Waiting
without_side side waiting = filter (λ w. not (same_side w.item.side side)) waiting

abbrev pub in_group : Handle → Waiting → Waiting
in_group g w = waiting_of w.item w.handle w.queue g w.level

-- the items of the side are in the group
abbrev pub regrouped : SideId → Handle → List Waiting → List Waiting
regrouped side g waiting = map (λ w. if same_side w.item.side side then in_group g w else w) waiting
