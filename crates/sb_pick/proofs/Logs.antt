-- A pick of what waits by a log is the pick by the log.
use Rattle.std.proofs.Common.{◌≡◌, ℕ, Bool, true, false, not, ◌&&◌, List, [], ◌∷◌, map, refl, ap, sym, ◌∙◌}
use Rattle.std.specs.Prelude.{Option, None, Some, IsTrue, filter, flat_map, option_and_then, option_map, unwrap_or}
use Rattle.std.specs.List.{AllByRecursion, last_or}
use Rattle.std.specs.Option.{option_eq, option_map_or}
use Rattle.std.proofs.lemmas.Simd.{map-map}
use Rattle.sb_log.specs.declared.entries.Entry.{Entry}
use Rattle.sb_log.specs.declared.entries.Op.{Op}
use Rattle.sb_log.specs.declared.identifiers.Handle.{Handle}
use Rattle.sb_log.specs.declared.identifiers.SideId.{SideId}
use Rattle.sb_log.specs.declared.messages.Item.{Item}
use Rattle.sb_log.specs.declared.requests.Filter.{Filter}
use Rattle.sb_log.specs.declared.requests.Filter.TheVariants as filters
use Rattle.sb_log.specs.declared.seen.Picked.{Picked}
use Rattle.sb_model.specs.Catalog.{service_queue}
use Rattle.sb_model.specs.Groups.{group_moved, group_of}
use Rattle.sb_model.specs.Items.{is_taken, items, own_end, waiting, waits_at, waits_in}
use Rattle.sb_model.specs.Messages.{is_cleaned, is_ended}
use Rattle.sb_model.specs.Pick.{candidates as log_candidates, first_items, is_free_item, item_before, passes, pick_first, pick_in}
use Rattle.sb_model.specs.Sides.{Bytes, Making, made, ops_of, same_id, same_name}
use Rattle.sb_model.specs.Sorting.{in_order}
use Rattle.sb_model.specs.Transactions.{OpenTransaction, is_free, with_ops}
use Rattle.sb_pick.specs.Of.{HandlesDiffer, HoldsAs, IsOf, numbered, placed}
use Rattle.sb_pick.specs.Picked.{admits, after, before, candidates, is_free_for, of_first, picked, stands_in, up_to}
use Rattle.sb_pick.specs.Waiting.{Waiting, is_known}
use Rattle.sb_pick.proofs.Each.{all_in_order, all_passed, filter_both, filter_of, filter_same, filter_where}
use Rattle.sb_pick.proofs.Handles.{found_by_handle}
use Rattle.sb_pick.proofs.Lists.{filter-map, in_order-map, up_to-map}
use Rattle.sb_pick.proofs.Views.{view_is}

-- ---- an item that waits has a side that is made

abbrev waits_by : (Bytes → Option Bytes) → SideId → Option Making → Bool → Bool → Bool → Bytes → Bool
waits_by queue_of_service s o is_out ended cleaned q =
    option_eq same_name (option_and_then (λ header. queue_of_service (own_end s header)) (option_map (λ m. m.header) o)) (Some q)
    && not is_out && not ended && not cleaned

no_side : (log : List Entry) (q : Bytes) (item : Item) → made log item.side ≡ None → waits_in log q item ≡ true → false ≡ true
unfolding waits_at
no_side log q item e h =
    sym (ap (λ o. waits_by (service_queue log) item.side o (is_taken log item.number) (is_ended log item.side) (is_cleaned log item.side) q) e)
    ∙ h

and_assoc : (a b c : Bool) → (a && b && c) ≡ (a && (b && c))
and_assoc true b c = refl
and_assoc false b c = refl

module _ (log : List Entry) (u : List OpenTransaction) (tx : ℕ) (q : Bytes) (holder : Handle → Option ℕ) (differ : HandlesDiffer log) (holds : HoldsAs u tx holder) where
  abbrev group_in : Item → Handle
  group_in item = unwrap_or (group_of log item.side) item.side.conversation

  abbrev may_pick : Filter → Waiting → Bool
  may_pick filter_by w = admits filter_by w.handle w.group && is_free_for tx (holder w.group)

  abbrev may_pick_item : Filter → Item → Bool
  may_pick_item filter_by item = passes log filter_by item && is_free_item log u tx item

  passes_as : (filter_by : Filter) (item : Item) (m : Making) (g : Handle) → made log item.side ≡ Some m → group_of log item.side ≡ Some g → admits filter_by m.handle g ≡ passes log filter_by item
  passes_as filters.All item m g e is = refl
  passes_as (filters.Side handle) item m g e is = sym (found_by_handle log differ item.side m handle e)
  passes_as (filters.Group wanted) item m g e is = ap (λ o. option_eq same_id o (Some wanted)) (sym is)

  tests_agree : (filter_by : Filter) (item : Item) (m : Making) (g : Handle) → made log item.side ≡ Some m → group_of log item.side ≡ Some g →
      may_pick filter_by (placed log q item) ≡ may_pick_item filter_by item
  tests_agree filter_by item m g e is =
      ap (λ o. admits filter_by (option_map_or (λ n. n.handle) o item.side.conversation) (group_in item) && is_free_for tx (holder (group_in item))) e
      ∙ ap (λ o. let own : Handle = unwrap_or o item.side.conversation in admits filter_by m.handle own && is_free_for tx (holder own)) is
      ∙ ap (λ t. t && is_free_for tx (holder g)) (passes_as filter_by item m g e is)
      ∙ ap (λ t. passes log filter_by item && t) (holds g ∙ ap (λ o. option_map_or (λ h. is_free u h tx) o false) (sym is))

  agree : (filter_by : Filter) (item : Item) → waits_in log q item ≡ true → may_pick filter_by (placed log q item) ≡ may_pick_item filter_by item
  agree filter_by item h = by (made log item.side) refl
    where
      by : (o : Option Making) → made log item.side ≡ o → may_pick filter_by (placed log q item) ≡ may_pick_item filter_by item
      by None e = let no : false ≡ true = no_side log q item e h in cc
      by (Some m) e =
          tests_agree filter_by item m (unwrap_or (last_or None (flat_map (group_moved item.side) (ops_of log))) m.group) e
          (ap (option_map (λ n. unwrap_or (last_or None (flat_map (group_moved item.side) (ops_of log))) n.group)) e)

  candidates_agree : (filter_by : Filter) (ws : List Waiting) → filter (stands_in q) ws ≡ map (placed log q) (waiting log q) →
      candidates q filter_by holder tx ws ≡ map (placed log q) (log_candidates log u tx q filter_by)
  candidates_agree filter_by ws e =
      filter_same (λ w. stands_in q w && admits filter_by w.handle w.group && is_free_for tx (holder w.group)) (λ w. stands_in q w && may_pick filter_by w) ws
      (λ w. and_assoc (stands_in q w) (admits filter_by w.handle w.group) (is_free_for tx (holder w.group)))
      ∙ sym (filter_both (may_pick filter_by) (stands_in q) ws)
      ∙ ap (filter (may_pick filter_by)) e
      ∙ filter-map (placed log q) (may_pick filter_by) (waiting log q)
      ∙ ap (map (placed log q)) (filter_where (λ item. may_pick filter_by (placed log q item)) (may_pick_item filter_by) (waits_in log q) (items log) (agree filter_by))

  -- ---- the first and its group

  abbrev HasGroup : Item → Type 0
  HasGroup item = group_of log item.side ≡ Some (group_in item)

  grouped : (test : Handle → Bool) (o : Option Handle) (none : Handle) → option_map_or test o false ≡ true → o ≡ Some (unwrap_or o none)
  grouped test None none h = cc
  grouped test (Some g) none h = refl

  second_true : (a b : Bool) → (a && b) ≡ true → b ≡ true
  second_true true b e = e
  second_true false b e = cc

  picked_has_group : (filter_by : Filter) (item : Item) → may_pick_item filter_by item ≡ true → HasGroup item
  picked_has_group filter_by item h =
      grouped (λ g. is_free u g tx) (group_of log item.side) item.side.conversation (second_true (passes log filter_by item) (is_free_item log u tx item) h)

  first_up_to : (top : Option ℕ) (xs : List Item) → up_to top xs ≡ first_items top xs
  first_up_to None xs = refl
  first_up_to (Some n) xs = refl

  numbers_agree : (top : Option ℕ) (g : Handle) (sorted : List Item) → AllByRecursion HasGroup sorted →
      map (λ w. w.item.number) (up_to top (filter (λ w. same_id w.group g) (map (placed log q) sorted)))
      ≡ map (λ item. item.number) (first_items top (filter (λ item. option_eq same_id (group_of log item.side) (Some g)) sorted))
  numbers_agree top g sorted all =
      let same : List Item = filter (λ item. same_id (group_in item) g) sorted in
      ap (λ (ws : List Waiting). map (λ w. w.item.number) (up_to top ws)) (filter-map (placed log q) (λ w. same_id w.group g) sorted)
      ∙ ap (map (λ w. w.item.number)) (up_to-map (placed log q) top same)
      ∙ map-map (λ w. w.item.number) (placed log q) (up_to top same)
      ∙ ap (map (λ item. item.number)) (first_up_to top same)
      ∙ ap (λ xs. map (λ item. item.number) (first_items top xs))
      (filter_of HasGroup (λ item. same_id (group_in item) g) (λ item. option_eq same_id (group_of log item.side) (Some g))
      (λ item is. ap (λ o. option_eq same_id o (Some g)) (sym is)) sorted all)

  abbrev of_group : Handle → List ℕ → Picked
  of_group g numbers = record { group = Some g; items = numbers }

  firsts_agree : (top : Option ℕ) (sorted : List Item) → AllByRecursion HasGroup sorted → of_first top (map (placed log q) sorted) ≡ numbered (pick_first log top sorted)
  firsts_agree top [] all = refl
  firsts_agree top (first ∷ rest) all =
      ap (of_group (group_in first)) (numbers_agree top (group_in first) (first ∷ rest) all)
      ∙ ap (λ o. numbered (option_map (λ g. record { group = g; items = first_items top (filter (λ item. option_eq same_id (group_of log item.side) (Some g)) (first ∷ rest)) }) o)) (sym all.0)

  pub pick_agrees : (top : Option ℕ) (filter_by : Filter) (ws : List Waiting) → filter (stands_in q) ws ≡ map (placed log q) (waiting log q) →
      of_first top (in_order before (candidates q filter_by holder tx ws)) ≡ numbered (pick_in log u tx q top filter_by)
  pick_agrees top filter_by ws e =
      let found : List Item = log_candidates log u tx q filter_by in
      ap (λ cs. of_first top (in_order before cs)) (candidates_agree filter_by ws e)
      ∙ ap (of_first top) (in_order-map (placed log q) before found)
      ∙ firsts_agree top (in_order (item_before log) found)
      (all_in_order HasGroup (item_before log) found (all_passed HasGroup (may_pick_item filter_by) (picked_has_group filter_by) (waiting log q)))

-- what a transaction picks of what waits is the pick by its view
pub picks_by_log : (log : List Entry) (queues : List Bytes) (ws : List Waiting) (u : List OpenTransaction) (tx : ℕ) (ops : List Op) (holder : Handle → Option ℕ) (q : Bytes) (top : Option ℕ) (filter_by : Filter) →
    IsOf log queues ws → HandlesDiffer (with_ops log tx ops) → HoldsAs u tx holder → IsTrue (is_known queues q) →
    picked q top filter_by ops holder tx ws ≡ numbered (pick_in (with_ops log tx ops) u tx q top filter_by)
picks_by_log log queues ws u tx ops holder q top filter_by is differ holds known =
    pick_agrees (with_ops log tx ops) u tx q holder differ holds top filter_by (after ops ws) ((view_is log queues ws tx ops is).waiting q known)
