-- What a RECEIVE gives of the items that it may take.
use Rattle.std.proofs.Common.{◌≡◌, ℕ, List, [], ◌∷◌, map, refl, ap, sym, ◌∙◌, Bor}
use Rattle.std.specs.Prelude.{Option, None, Some, filter, option_map, slice_get}
use Rattle.std.specs.Option.{option_copied, option_eq}
use Rattle.std.proofs.lemmas.Simd.{map-map}
use Rattle.sb_log.specs.declared.identifiers.Handle.{Handle}
use Rattle.sb_log.specs.declared.entries.Entry.{Entry}
use Rattle.sb_log.specs.declared.messages.Item.{Item}
use Rattle.sb_log.specs.declared.messages.ReceivedItem.{ReceivedItem}
use Rattle.sb_log.specs.declared.requests.Filter.{Filter}
use Rattle.sb_model.specs.Sides.{Bytes, same_id}
use Rattle.sb_model.specs.Groups.{group_of}
use Rattle.sb_model.specs.Pick.{candidates, first_items, item_before, pick, pick_first}
use Rattle.sb_model.specs.Sorting.{in_order}
use Rattle.sb_instance.specs.Candidates.{Placed, given, given_by, placed, placed_before, placed_seen}
use Rattle.sb_instance.specs.Giving.{is_of_group, up_to}
use Rattle.sb_instance.specs.declared.candidates.Candidate.{Candidate}
use Rattle.sb_instance.proofs.Placing.{filter-map, in_order-map, up_to-map}

-- what is given of the group of the first, if it has one
abbrev pub given_of : Option ℕ → List Placed → Option Handle → List ReceivedItem
given_of limit ps None = []
given_of limit ps (Some g) = map given (up_to limit (filter (is_of_group g) ps))

abbrev pub given_from : Option ℕ → List Placed → List ReceivedItem
given_from limit [] = []
given_from limit (p ∷ ps) = given_of limit (p ∷ ps) p.group

first_up_to : (limit : Option ℕ) (items : List Item) → up_to limit items ≡ first_items limit items
first_up_to None items = refl
first_up_to (Some n) items = refl

given_first : (log : List Entry) (limit : Option ℕ) (sorted : List Item) → given_from limit (map (placed log) sorted) ≡ given_by log (pick_first log limit sorted)
given_first log limit [] = refl
given_first log limit (first ∷ rest) = of_group (group_of log first.side)
  where
    of_group : (group : Option Handle) → given_of limit (map (placed log) (first ∷ rest)) group ≡ given_by log (option_map (λ g. record { group = g; items = first_items limit (filter (λ item. option_eq same_id (group_of log item.side) (Some g)) (first ∷ rest)) }) group)
    of_group None = refl
    of_group (Some g) =
        let kept : List Item = filter (λ item. is_of_group g (placed log item)) (first ∷ rest) in
        ap (λ (ps : List Placed). map given (up_to limit ps)) (filter-map (placed log) (is_of_group g) (first ∷ rest))
        ∙ ap (map given) (up_to-map (placed log) limit kept)
        ∙ map-map given (placed log) (up_to limit kept)
        ∙ ap (map (λ item. given (placed log item))) (first_up_to limit kept)

-- the candidates in order tell what is picked
pub picks : (log : List Entry) (q : Bytes) (limit : Option ℕ) (filter_by : Filter) (found sorted : List Placed) → found ≡ map (placed log) (candidates log [] 0 q filter_by) → sorted ≡ in_order placed_before found → given_from limit sorted ≡ given_by log (pick log [] 0 q limit filter_by)
picks log q limit filter_by found sorted are_found are_sorted =
    ap (given_from limit) (are_sorted ∙ ap (in_order placed_before) are_found ∙ in_order-map (placed log) placed_before (candidates log [] 0 q filter_by))
    ∙ given_first log limit (in_order (item_before log) (candidates log [] 0 q filter_by))

-- none is given where there is no first, or it has no group
pub given_none : (limit : Option ℕ) (xs ys : List Candidate) (first : Option (Bor Candidate)) → ys ≡ xs → ((x : Bor Candidate) → first ≡ Some x → ⊥) → option_copied first ≡ slice_get ys 0 → [] ≡ given_from limit (map placed_seen xs)
given_none limit [] ys first same isnt e = refl
given_none limit (x ∷ xs) ys None same isnt e = cc (ap (λ (l : List Candidate). slice_get l 0) same)
given_none limit (x ∷ xs) ys (Some first) same isnt e = absurd (isnt first refl)

given_first_of : (limit : Option ℕ) (xs : List Candidate) (first : Candidate) → Some first ≡ slice_get xs 0 → given_of limit (map placed_seen xs) first.group ≡ given_from limit (map placed_seen xs)
given_first_of limit [] first e = cc
given_first_of limit (x ∷ xs) first e =
    let same : first ≡ x = cc in
    ap (λ (c : Candidate). given_of limit (map placed_seen (x ∷ xs)) c.group) same

none_of : (limit : Option ℕ) (ps : List Placed) (group : Option Handle) → ((g : Handle) → group ≡ Some g → ⊥) → [] ≡ given_of limit ps group
none_of limit ps None isnt = refl
none_of limit ps (Some g) isnt = absurd (isnt g refl)

pub given_ungrouped : (limit : Option ℕ) (xs ys : List Candidate) (first : Candidate) → ys ≡ xs → Some first ≡ slice_get ys 0 → ((g : Handle) → first.group ≡ Some g → ⊥) → [] ≡ given_from limit (map placed_seen xs)
given_ungrouped limit xs ys first same e isnt =
    none_of limit (map placed_seen xs) first.group isnt
    ∙ given_first_of limit xs first (e ∙ ap (λ (l : List Candidate). slice_get l 0) same)

-- what is given of the group of the first
pub given_grouped : (limit asked : Option ℕ) (xs ys zs : List Candidate) (first : Candidate) (g : Handle) → ys ≡ xs → zs ≡ xs → asked ≡ limit → Some first ≡ slice_get ys 0 → first.group ≡ Some g → map given (up_to asked (filter (is_of_group g) (map placed_seen zs))) ≡ given_from limit (map placed_seen xs)
given_grouped limit asked xs ys zs first g same sorted is e grouped =
    ap (λ (l : List Candidate). given_of asked (map placed_seen l) (Some g)) sorted
    ∙ ap (λ (n : Option ℕ). given_of n (map placed_seen xs) (Some g)) is
    ∙ ap (given_of limit (map placed_seen xs)) (sym grouped)
    ∙ given_first_of limit xs first (e ∙ ap (λ (l : List Candidate). slice_get l 0) same)
