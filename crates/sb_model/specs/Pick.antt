-- What RECEIVE and GET CONVERSATION GROUP pick.
use Rattle.std.specs.Prelude.{ℕ, Bool, true, false, ◌&&◌, ◌||◌, ◌==◌, nat_lt, List, [], ◌∷◌, Option, Some, None, filter, take, option_map}
use Rattle.std.specs.Option.{option_eq, option_map_or}
use Rattle.sb_log.specs.declared.identifiers.Handle.{Handle}
use Rattle.sb_log.specs.declared.entries.Entry.{Entry}
use Rattle.sb_log.specs.declared.messages.Item.{Item}
use Rattle.sb_log.specs.declared.requests.Filter.{Filter}
use Rattle.sb_model.specs.Sides.{Bytes, same_side, same_id, side_of}
use Rattle.sb_model.specs.Items.{waiting}
use Rattle.sb_model.specs.Groups.{group_of, level_of}
use Rattle.sb_model.specs.Sorting.{in_order}
use Rattle.sb_model.specs.Transactions.{view, OpenTransaction, is_free}
use Rattle.sb_log.specs.declared.requests.Filter.TheVariants as filters

-- the filter admits the item
abbrev pub passes : List Entry → Filter → Item → Bool
passes log filters.All item = true
passes log (filters.Side handle) item = option_eq same_side (side_of log handle) (Some item.side)
passes log (filters.Group g) item = option_eq same_id (group_of log item.side) (Some g)

-- the item's group is free for the transaction
abbrev pub is_free_item : List Entry → List OpenTransaction → ℕ → Item → Bool
is_free_item log u tx item = option_map_or (λ g. is_free u g tx) (group_of log item.side) false

-- W: the waiting items that the filter admits and whose group is free
abbrev pub candidates : List Entry → List OpenTransaction → ℕ → Bytes → Filter → List Item
candidates log u tx q filter_by = filter (λ item. passes log filter_by item && is_free_item log u tx item) (waiting log q)

-- by level, high first, then by number
abbrev pub item_before : List Entry → Item → Item → Bool
item_before log a b =
    nat_lt (level_of log b.side) (level_of log a.side) || ((level_of log a.side == level_of log b.side) && nat_lt a.number b.number)

-- what RECEIVE picks: a group and its items
pub record Pick : Type 0 where
  pub group : Handle
  pub items : List Item

abbrev pub first_items : Option ℕ → List Item → List Item
first_items None xs = xs
first_items (Some n) xs = take n xs

abbrev pub pick_group : List Entry → Option ℕ → List Item → Item → Option Pick
pick_group log n sorted first =
    option_map (λ g. record { group = g; items = first_items n (filter (λ item. option_eq same_id (group_of log item.side) (Some g)) sorted) })
    (group_of log first.side)

abbrev pub pick_first : List Entry → Option ℕ → List Item → Option Pick
pick_first log n [] = None
pick_first log n (first ∷ rest) = pick_group log n (first ∷ rest) first

-- the pick in a view
abbrev pub pick_in : List Entry → List OpenTransaction → ℕ → Bytes → Option ℕ → Filter → Option Pick
pick_in log u tx q n filter_by = pick_first log n (in_order (item_before log) (candidates log u tx q filter_by))

-- nothing, or the group of the first admitted item and its first n admitted items
abbrev pub pick : List Entry → List OpenTransaction → ℕ → Bytes → Option ℕ → Filter → Option Pick
pick log u tx q n filter_by = pick_in (view log u tx) u tx q n filter_by
