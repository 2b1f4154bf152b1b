-- The candidates as they are gathered: one look at each message that waits.
use Rattle.std.specs.Prelude.{ℕ, Bool, ◌&&◌, ◌||◌, ◌==◌, nat_lt, if◌then◌else◌, List, [], ◌∷◌, Option, None, Some, filter, map}
use Rattle.sb_log.specs.declared.entries.Op.{Op}
use Rattle.sb_log.specs.declared.identifiers.Handle.{Handle}
use Rattle.sb_log.specs.declared.requests.Filter.{Filter}
use Rattle.sb_log.specs.declared.seen.Picked.{Picked}
use Rattle.sb_model.specs.Sides.{Bytes, same_id}
use Rattle.sb_pick.specs.Picked.{admits, group_after, is_free_for, is_left, moved, stands_in, up_to}
use Rattle.sb_pick.specs.Waiting.{Waiting}
use Rattle.sb_pick.specs.declared.candidates.Candidate.{Candidate}

-- what its place in the order and its group depend on
abbrev pub brief : Waiting → Candidate
brief w = record { number = w.item.number; group = w.group; level = w.level }

-- the message as the transaction sees it, where it is left, stands in the queue and is admitted
abbrev pub offered : Bytes → Filter → List Op → Waiting → Option Candidate
offered q filter_by ops w =
    if stands_in q w && is_left ops w && admits filter_by w.handle (group_after ops w) then Some (brief (moved ops w)) else None

abbrev pub is_free : (Handle → Option ℕ) → ℕ → Candidate → Bool
is_free holder tx c = is_free_for tx (holder c.group)

abbrev pub stands_before : Candidate → Candidate → Bool
stands_before a b = nat_lt b.level a.level || ((a.level == b.level) && nat_lt a.number b.number)

abbrev pub is_of_group : Handle → Candidate → Bool
is_of_group g c = same_id c.group g

-- the group of the first, and the first numbers of that group
abbrev pub chosen : Option ℕ → List Candidate → Picked
chosen top [] = record { group = None; items = [] }
chosen top (first ∷ rest) = record {
  group = Some first.group;
  items = map (λ c. c.number) (up_to top (filter (is_of_group first.group) (first ∷ rest)));
}
