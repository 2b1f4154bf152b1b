-- What the fields of queues say.
use Rattle.std.specs.Prelude.{◌≡◌, ℕ, ◌<◌, ◌-◌, List, [], All, length, map, slice_index_or, vec_capacity, vec_len}
use Rattle.sb_model.specs.Sides.{Bytes}
use Rattle.sb_pick.specs.Waiting.{Queued, Waiting, waiting_of}
use Rattle.sb_pick.specs.declared.stored.Stored.{Stored}
use Rattle.sb_pick.specs.declared.queues.Queues.TheInside.{Inside}

abbrev pub name_at : List Bytes → ℕ → Bytes
name_at names place = slice_index_or names place []

-- a stored message, in a queue
abbrev pub seen_in : Bytes → Stored → Waiting
seen_in q stored = waiting_of stored.item stored.handle q stored.group stored.level

-- the same, in the queue at its place
abbrev pub seen : List Bytes → Stored → Waiting
seen names stored = seen_in (name_at names stored.place) stored

abbrev pub queued : Inside → Queued
queued queues = record {
  waiting = map (seen queues.names.items) queues.waiting.items;
  queues = queues.names.items;
  spare = vec_capacity queues.waiting - vec_len queues.waiting;
}

-- there is a name at each place
abbrev pub ArePlaced : List Bytes → List Stored → Type 0
ArePlaced names waiting = All (λ stored. stored.place < length names) waiting

abbrev pub IsSound : Inside → Type 0
IsSound queues = ArePlaced queues.names.items queues.waiting.items

-- what stood at a place stands there yet
abbrev pub KeepsPlaces : List Bytes → List Bytes → Type 0
KeepsPlaces old new = (place : ℕ) → place < length old → (place < length new) × (name_at new place ≡ name_at old place)
