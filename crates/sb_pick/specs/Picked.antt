-- What a RECEIVE picks of what waits.
use Rattle.std.specs.Prelude.{ℕ, Bool, true, false, not, ◌&&◌, ◌||◌, ◌==◌, nat_lt, List, [], ◌∷◌, Option, None, Some, filter, flat_map, map, take, unwrap_or}
use Rattle.std.specs.List.{last_or, list_any}
use Rattle.sb_log.specs.declared.entries.Op.{Op}
use Rattle.sb_log.specs.declared.entries.Op.TheVariants.{Cleanup, End, Took}
use Rattle.sb_log.specs.declared.identifiers.Handle.{Handle}
use Rattle.sb_log.specs.declared.messages.Item.{Item}
use Rattle.sb_log.specs.declared.requests.Filter.{Filter}
use Rattle.sb_log.specs.declared.requests.Filter.TheVariants as filters
use Rattle.sb_log.specs.declared.seen.Picked.{Picked}
use Rattle.sb_model.specs.Groups.{group_moved}
use Rattle.sb_model.specs.Sides.{Bytes, same_id, same_name, same_side}
use Rattle.sb_model.specs.Sorting.{in_order}
use Rattle.sb_pick.specs.Waiting.{Waiting, in_group}

-- the operation takes the item, or ends or cleans up its side
abbrev pub withdraws : Item → Op → Bool
withdraws item (Took queue number) = number == item.number
withdraws item (End side last) = same_side side item.side
withdraws item (Cleanup side) = same_side side item.side
withdraws item _ = false

abbrev pub is_left : List Op → Waiting → Bool
is_left ops w = not (list_any (withdraws w.item) ops)

-- the group of the side's last move, else its own
abbrev pub group_after : List Op → Waiting → Handle
group_after ops w = unwrap_or (last_or None (flat_map (group_moved w.item.side) ops)) w.group

abbrev pub moved : List Op → Waiting → Waiting
moved ops w = in_group (group_after ops w) w

-- what waits, as a transaction with these operations sees it
abbrev pub after : List Op → List Waiting → List Waiting
after ops waiting = map (moved ops) (filter (is_left ops) waiting)

-- the filter admits messages with this handle and group
abbrev pub admits : Filter → Handle → Handle → Bool
admits filters.All handle group = true
admits (filters.Side wanted) handle group = same_id handle wanted
admits (filters.Group wanted) handle group = same_id group wanted

-- nobody holds it, or the transaction itself does
abbrev pub is_free_for : ℕ → Option ℕ → Bool
is_free_for tx None = true
is_free_for tx (Some holder) = holder == tx

abbrev pub stands_in : Bytes → Waiting → Bool
stands_in q w = same_name w.queue q

-- the messages in the queue that the filter admits and whose group no other transaction holds
abbrev pub candidates : Bytes → Filter → (Handle → Option ℕ) → ℕ → List Waiting → List Waiting
candidates q filter_by holder tx waiting =
    filter (λ w. stands_in q w && admits filter_by w.handle w.group && is_free_for tx (holder w.group)) waiting

-- by level, high first, then by number
abbrev pub before : Waiting → Waiting → Bool
before a b = nat_lt b.level a.level || ((a.level == b.level) && nat_lt a.item.number b.item.number)

-- all of a list, or so many from its front
abbrev pub up_to : {A : Type 0} → Option ℕ → List A → List A
up_to None xs = xs
up_to (Some n) xs = take n xs

-- the group of the first, and the first numbers of that group; no group where there is no first
abbrev pub of_first : Option ℕ → List Waiting → Picked
of_first top [] = record { group = None; items = [] }
of_first top (first ∷ rest) = record {
  group = Some first.group;
  items = map (λ w. w.item.number) (up_to top (filter (λ w. same_id w.group first.group) (first ∷ rest)));
}

-- what a transaction picks that has done these operations
abbrev pub picked : Bytes → Option ℕ → Filter → List Op → (Handle → Option ℕ) → ℕ → List Waiting → Picked
picked q top filter_by ops holder tx waiting = of_first top (in_order before (candidates q filter_by holder tx (after ops waiting)))
