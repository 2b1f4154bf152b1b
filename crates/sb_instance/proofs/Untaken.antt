-- The items that a RECEIVE may take, found one by one.
use Rattle.std.proofs.Common.{◌≡◌, ℕ, ◌+◌, ◌<◌, ◌≤◌, Bool, true, false, not, ◌&&◌, cond, Option, Some, None, List, [], ◌∷◌, ◌++◌, map, length, get_or, drop, refl, sym, ap, ◌∙◌, append_assoc, arith}
use Rattle.std.proofs.Math.Bool.{and_assoc, and-true, and-false}
use Rattle.std.proofs.lemmas.List.{at_drop_more, map-append}
use Rattle.std.specs.Prelude.{filter, is_some, slice_index_or}
use Rattle.std.specs.Option.{option_eq, option_map_or}
use Rattle.std.specs.List.{cons_option}
use Rattle.sb_log.specs.declared.identifiers.Handle.{Handle}
use Rattle.sb_log.specs.declared.entries.Entry.{Entry}
use Rattle.sb_log.specs.declared.entries.Entry.TheVariants.{Accepted, Fired, Expired}
use Rattle.sb_log.specs.declared.messages.Item.{Item}
use Rattle.sb_log.specs.declared.requests.Filter.{Filter}
use Rattle.sb_log.specs.declared.requests.Filter.TheVariants as filters
use Rattle.sb_model.specs.Sides.{Bytes, same_name}
use Rattle.sb_model.specs.Messages.{is_ended, is_cleaned}
use Rattle.sb_model.specs.Groups.{group_of}
use Rattle.sb_model.specs.Items.{is_taken, item_of, items_from, next_number, queue_of, taken, waits_at, waits_in}
use Rattle.sb_model.specs.Pick.{is_free_item, passes}
use Rattle.sb_model.specs.Transactions.{is_free}
use Rattle.sb_scan.specs.declared.item.SeenItem.{SeenItem}
use Rattle.sb_scan.specs.Shown.{item_seen}
use Rattle.sb_instance.specs.declared.facts.Facts.{Facts}
use Rattle.sb_instance.specs.declared.candidates.Candidate.{Candidate}
use Rattle.sb_instance.specs.Candidates.{AreMarks, facts_of, is_admitted, passes_side, placed, placed_seen}
use Rattle.sb_instance.specs.Untaken.{candidate_of, untaken}

-- the item waits, the filter admits it, and its group is free
abbrev pub may_be_taken : List Entry → Bytes → Filter → Item → Bool
may_be_taken log q f item = waits_in log q item && (passes log f item && is_free_item log [] 0 item)

-- those of these items that wait, that the filter admits and whose group is free
abbrev pub admitted : List Entry → Bytes → Filter → List Item → List Item
admitted log q f its = filter (λ item. passes log f item && is_free_item log [] 0 item) (filter (waits_in log q) its)

-- a filter over a filter takes up one element
filter_twice : {A : Type 0} (p w : A → Bool) (x : A) (xs : List A) → filter p (filter w (x ∷ xs)) ≡ cond (w x && p x) (x ∷ []) [] ++ filter p (filter w xs)
filter_twice p w x xs = by_first (w x)
  where
    by_second : (c : Bool) → cond c (x ∷ filter p (filter w xs)) (filter p (filter w xs)) ≡ cond c (x ∷ []) [] ++ filter p (filter w xs)
    by_second true = refl
    by_second false = refl

    by_first : (b : Bool) → filter p (cond b (x ∷ filter w xs) (filter w xs)) ≡ cond (b && p x) (x ∷ []) [] ++ filter p (filter w xs)
    by_first true = by_second (p x)
    by_first false = refl

passes_alike : (log : List Entry) (f : Filter) (item : Item) → passes_side log f item.side ≡ passes log f item
passes_alike log filters.All item = refl
passes_alike log (filters.Side handle) item = refl
passes_alike log (filters.Group g) item = refl

-- where no transaction is open, each group is free
free_alike : (o : Option Handle) → is_some o ≡ option_map_or (λ g. is_free [] g 0) o false
free_alike None = refl
free_alike (Some g) = refl

regroup : (a t e c p g : Bool) → (a && e && c && p && g && t) ≡ (a && t && e && c && (p && g))
regroup false t e c p g = refl
regroup true false e c p g = and-false (e && c && p && g)
regroup true true e c p g = and-true (e && c && p && g) ∙ and_assoc (e && c) p g

-- what is known of a side, with the mark of an item, tells whether the item may be taken
may_be_taken_alike : (log : List Entry) (q : Bytes) (f : Filter) (item : Item) (mark : Bool) → mark ≡ is_taken log item.number → (is_admitted log q f item.side && not mark) ≡ may_be_taken log q f item
unfolding waits_at
may_be_taken_alike log q f item mark e =
    rw (e, passes_alike log f item, free_alike (group_of log item.side))
    (regroup (option_eq same_name (queue_of log item.side) (Some q)) (not (is_taken log item.number)) (not (is_ended log item.side)) (not (is_cleaned log item.side))
    (passes log f item) (is_free_item log [] 0 item))

-- the item is shown with what its side has
shown : (log : List Entry) (q : Bytes) (f : Filter) (item : SeenItem) (b : Bool) →
    map placed_seen (cond b (candidate_of (facts_of log q f item.side) item ∷ []) []) ≡ map (placed log) (cond b (item_seen item ∷ []) [])
shown log q f item true = refl
shown log q f item false = refl

untaken_alike : (log : List Entry) (q : Bytes) (f : Filter) (marks : List Bool) (facts : Facts) (item : SeenItem) → facts ≡ facts_of log q f item.side →
    slice_index_or marks item.number false ≡ is_taken log item.number →
    map placed_seen (untaken marks facts item) ≡ map (placed log) (cond (may_be_taken log q f (item_seen item)) (item_seen item ∷ []) [])
untaken_alike log q f marks facts item known marked =
    rw known
    (ap (λ b. map placed_seen (cond b (candidate_of (facts_of log q f item.side) item ∷ []) []))
    (may_be_taken_alike log q f (item_seen item) (slice_index_or marks item.number false) marked)
    ∙ shown log q f item (may_be_taken log q f (item_seen item)))

-- with the item taken up, what is found and what is left stay the same together
pub found_more : (log : List Entry) (q : Bytes) (f : Filter) (marks : List Bool) (facts : Facts) (item : SeenItem) (found : List Candidate) (rest : List Item) →
    facts ≡ facts_of log q f item.side → slice_index_or marks item.number false ≡ is_taken log item.number →
    map placed_seen (found ++ untaken marks facts item) ++ map (placed log) (admitted log q f rest)
    ≡ map placed_seen found ++ map (placed log) (admitted log q f (item_seen item ∷ rest))
found_more log q f marks facts item found rest known marked =
    ap (λ xs. xs ++ map (placed log) (admitted log q f rest)) (map-append placed_seen found (untaken marks facts item))
    ∙ append_assoc (map placed_seen found) (map placed_seen (untaken marks facts item)) (map (placed log) (admitted log q f rest))
    ∙ ap (λ xs. map placed_seen found ++ xs)
    (ap (λ xs. xs ++ map (placed log) (admitted log q f rest)) (untaken_alike log q f marks facts item known marked)
    ∙ sym (map-append (placed log) (cond (may_be_taken log q f (item_seen item)) (item_seen item ∷ []) []) (admitted log q f rest))
    ∙ ap (map (placed log)) (sym (filter_twice (λ it. passes log f it && is_free_item log [] 0 it) (waits_in log q) (item_seen item) rest)))

-- the items from an entry on are the one that it brings, and those from the next on
pub items_more : (n : ℕ) (log : List Entry) (i : ℕ) (e : Entry) (o : Option Item) → i < length log → e ≡ get_or log i e → o ≡ item_of n e →
    items_from n (drop i log) ≡ cons_option o (items_from (next_number n o) (drop (i + 1) log))
items_more n log i e o h at is =
    at_drop_more (items_from n) log i e h ∙ ap (λ x. items_from n (x ∷ drop (i + 1) log)) (sym at)
    ∙ ap (λ x. cons_option x (items_from (next_number n x) (drop (i + 1) log))) (sym is)

-- an item has the number that it was given
pub number_is : (n : ℕ) (e : Entry) (item : Item) → Some item ≡ item_of n e → item.number ≡ n
number_is n (Accepted side number new content) item h = cc
number_is n (Fired side) item h = cc
number_is n (Expired side) item h = cc
number_is n _ item h = cc

-- an entry that brings an item: what is found and what is left stay the same together
pub with_item : (log : List Entry) (q : Bytes) (f : Filter) (marks : List Bool) (facts : Facts) (item : SeenItem) (found after : List Candidate) (n i : ℕ) (e : Entry) →
    i < length log → e ≡ get_or log i e → n ≤ i + 1 → length marks ≡ length log + 1 → AreMarks (taken log) marks →
    Some (item_seen item) ≡ item_of n e → facts ≡ facts_of log q f item.side → after ≡ found ++ untaken marks facts item →
    map placed_seen after ++ map (placed log) (admitted log q f (items_from (n + 1) (drop (i + 1) log)))
    ≡ map placed_seen found ++ map (placed log) (admitted log q f (items_from n (drop i log)))
with_item log q f marks facts item found after n i e h at few enough are is known pushed =
    let number : item.number ≡ n = number_is n e (item_seen item) is in
    let marked : slice_index_or marks item.number false ≡ is_taken log item.number = are item.number (omega arith) in
    ap (λ xs. map placed_seen xs ++ map (placed log) (admitted log q f (items_from (n + 1) (drop (i + 1) log)))) pushed
    ∙ found_more log q f marks facts item found (items_from (n + 1) (drop (i + 1) log)) known marked
    ∙ ap (λ xs. map placed_seen found ++ map (placed log) (admitted log q f xs)) (sym (items_more n log i e (Some (item_seen item)) h at is))

-- an entry that brings none
pub without_item : (log : List Entry) (q : Bytes) (f : Filter) (found : List Candidate) (n i : ℕ) (e : Entry) →
    i < length log → e ≡ get_or log i e → None ≡ item_of n e →
    map placed_seen found ++ map (placed log) (admitted log q f (items_from n (drop (i + 1) log)))
    ≡ map placed_seen found ++ map (placed log) (admitted log q f (items_from n (drop i log)))
without_item log q f found n i e h at is =
    ap (λ xs. map placed_seen found ++ map (placed log) (admitted log q f xs)) (sym (items_more n log i e None h at is))
