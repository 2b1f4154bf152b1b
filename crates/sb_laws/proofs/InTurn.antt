-- What a side receives are its items in turn, and the items with numbers are the messages that it accepted.
use Rattle.std.proofs.Common.{◌≡◌, ℕ, Bool, true, false, List, [], ◌∷◌, ◌++◌, ◌+◌, ◌-◌, Option, Some, None, refl, sym, ◌∙◌, ap, subst, length, length-append, arith, cond, inl, inr, map, append_assoc, append-nil}
use Rattle.std.specs.Prelude.{filter, filter_map, slice_get, ◌⊎◌, ◌==◌, ◌||◌, nat_le}
use Rattle.std.specs.List.{list_any, cons_option, AllByRecursion}
use Rattle.std.proofs.lemmas.Bool.{eqb-true}
use Rattle.std.proofs.lemmas.Bool.Decides.{nat_tests}
use Rattle.std.proofs.lemmas.Option.{same_Some}
use Rattle.std.proofs.lemmas.List.Elements.{filter_map-append}
use Rattle.sb_log.specs.declared.identifiers.SideId.{SideId}
use Rattle.sb_log.specs.declared.identifiers.Who.{Who}
use Rattle.sb_log.specs.declared.entries.Entry.{Entry}
use Rattle.sb_log.specs.declared.entries.Entry.TheVariants.{Defined, Txn, Accepted, Acked, Fired, Expired, QueueSet}
use Rattle.sb_log.specs.declared.entries.NewSide.{NewSide}
use Rattle.sb_log.specs.declared.messages.Content.{Content}
use Rattle.sb_log.specs.declared.messages.Item.{Item}
use Rattle.sb_model.specs.Sides.{same_side}
use Rattle.sb_model.specs.Messages.{accepted, contents_accepted}
use Rattle.sb_model.specs.Items.{items, items_from, taken, message_of}
use Rattle.sb_model.specs.Survival.{IsPrefixOf}
use Rattle.sb_model.specs.Wire.{Wired}
use Rattle.sb_model.specs.Logs.{is_allowed, are_allowed_after, is_made_allowed, WellFormed}
use Rattle.sb_model.specs.Links.{Logs, Linked, TakenInOrder, numbers_of, is_item_of, items_received, CountsFrom, IsPartners, ReceivesInTurn, DeliversInTurn}
use Rattle.sb_laws.proofs.Sides.{sides_same, both_left, both_right}
use Rattle.sb_laws.proofs.Growth.{contents_accepted-append}
use Rattle.sb_laws.proofs.Grow.{all_weaker, all_left}
use Rattle.sb_laws.proofs.OnceLemmas.{found, mine, AreFound, items_found, found_numbers, number_among, prefix-filter}

clash : {P : Type 0} → true ≡ false → P
clash e = cc

abbrev of : SideId → Item → Bool
of s item = same_side item.side s

-- ---- the items that are received begin those of the side

-- the number of an item of the side leads to one
mine_found : (xs zs : List Item) (s : SideId) (n : ℕ) → AreFound xs zs → list_any (λ m. m == n) (numbers_of s zs) ≡ true → (z : Item) × (found xs n ≡ Some z) × (same_side z.side s ≡ true)
mine_found xs [] s n h e = clash (sym e)
mine_found xs (z ∷ zs) s n h e = by_side (same_side z.side s) refl e (mine_found xs zs s n h.1)
  where
    by_number : (b : Bool) → (z.number == n) ≡ b → same_side z.side s ≡ true → (b || list_any (λ m. m == n) (numbers_of s zs)) ≡ true → (list_any (λ m. m == n) (numbers_of s zs) ≡ true → (y : Item) × (found xs n ≡ Some y) × (same_side y.side s ≡ true)) → (y : Item) × (found xs n ≡ Some y) × (same_side y.side s ≡ true)
    by_number true f g i rest = (z, subst (λ k. found xs k ≡ Some z) (eqb-true z.number n f) h.0, g)
    by_number false f g i rest = rest i

    by_side : (b : Bool) → same_side z.side s ≡ b → list_any (λ m. m == n) (map (λ item. item.number) (cond b (z ∷ filter (of s) zs) (filter (of s) zs))) ≡ true →
        (list_any (λ m. m == n) (numbers_of s zs) ≡ true → (y : Item) × (found xs n ≡ Some y) × (same_side y.side s ≡ true)) → (y : Item) × (found xs n ≡ Some y) × (same_side y.side s ≡ true)
    by_side true f g rest = by_number (z.number == n) refl f g rest
    by_side false f g rest = rest g

filter_got : (xs : List Item) (s : SideId) (ns : List ℕ) → AreFound xs xs → filter (of s) (filter_map (found xs) ns) ≡ filter_map (found xs) (filter (mine xs s) ns)
filter_got xs s [] h = refl
filter_got xs s (n ∷ ns) h = by_found (found xs n) refl (mine xs s n) refl (filter_got xs s ns h)
  where
    same : (x : Item) (c b : Bool) → found xs n ≡ Some x → same_side x.side s ≡ c → mine xs s n ≡ b → c ≡ b
    same x true true e f g = refl
    same x false false e f g = refl
    same x true false e f g = clash (sym (number_among s n x xs e f) ∙ g)
    same x false true e f g = let z = mine_found xs xs s n h g in clash (sym (ap (λ y. same_side y.side s) (same_Some x z.0 (sym e ∙ z.1)) ∙ z.2) ∙ f)

    skip : (b : Bool) → found xs n ≡ None → filter_map (found xs) (cond b (n ∷ filter (mine xs s) ns) (filter (mine xs s) ns)) ≡ filter_map (found xs) (filter (mine xs s) ns)
    skip true e = skipped (found xs n) e
      where
        skipped : (o : Option Item) → o ≡ None → cons_option o (filter_map (found xs) (filter (mine xs s) ns)) ≡ filter_map (found xs) (filter (mine xs s) ns)
        skipped None f = refl
        skipped (Some x) f = cc
    skip false e = refl

    by_found : (o : Option Item) → found xs n ≡ o → (b : Bool) → mine xs s n ≡ b → filter (of s) (filter_map (found xs) ns) ≡ filter_map (found xs) (filter (mine xs s) ns) →
        filter (of s) (cons_option o (filter_map (found xs) ns)) ≡ filter_map (found xs) (cond b (n ∷ filter (mine xs s) ns) (filter (mine xs s) ns))
    by_found None e b g rest = rest ∙ sym (skip b e)
    by_found (Some x) e b g rest = by_side (same_side x.side s) refl b (same x (same_side x.side s) b e refl g)
      where
        put : (l : List Item) → l ≡ filter_map (found xs) (filter (mine xs s) ns) → x ∷ l ≡ filter_map (found xs) (n ∷ filter (mine xs s) ns)
        put l f = ap (λ z. x ∷ z) f ∙ ap (λ o. cons_option o (filter_map (found xs) (filter (mine xs s) ns))) (sym e)

        by_side : (c : Bool) → same_side x.side s ≡ c → (d : Bool) → same_side x.side s ≡ d →
            cond c (x ∷ filter (of s) (filter_map (found xs) ns)) (filter (of s) (filter_map (found xs) ns)) ≡ filter_map (found xs) (cond d (n ∷ filter (mine xs s) ns) (filter (mine xs s) ns))
        by_side true f true k = put (filter (of s) (filter_map (found xs) ns)) rest
        by_side false f false k = rest
        by_side true f false k = clash (sym f ∙ k)
        by_side false f true k = clash (sym k ∙ f)

-- what a side received begins its items
pub received_first : (log : List Entry) (s : SideId) → TakenInOrder log → IsPrefixOf (items_received log s) (filter (of s) (items log))
received_first log s order =
    let h = order s in (
      filter_map (found (items log)) h.0,
      ap (λ l. l ++ filter_map (found (items log)) h.0) (filter_got (items log) s (taken log) (items_found log))
          ∙ sym (filter_map-append (found (items log)) (filter (is_item_of log s) (taken log)) h.0)
          ∙ ap (filter_map (found (items log))) h.1
          ∙ found_numbers (items log) (items log) s (items_found log),
    )

-- ---- the items of a side, by their sequence numbers

abbrev sequences : List Item → List ℕ
sequences its = filter (λ n. nat_le 1 n) (map (λ item. item.sequence) its)

-- an item's message is the one accepted with its number
abbrev IsAccepted : List Content → Item → Type 0
IsAccepted cs item = (item.sequence ≡ 0) ⊎ ((c : Content) × (slice_get cs (item.sequence - 1) ≡ Some c) × (message_of c ≡ item.message))

-- the side's items among those of the entries `log`, which stand behind `before`
record InTurn (s : SideId) (before log : List Entry) (its : List Item) : Type 0 where
  counted : CountsFrom (accepted before s + 1) (sequences its)
  are_accepted : AllByRecursion (IsAccepted (contents_accepted (before ++ log) s)) its

place_behind : {X : Type 0} (xs : List X) (y : X) (ys : List X) → slice_get (xs ++ y ∷ ys) (length xs) ≡ Some y
place_behind [] y ys = refl
place_behind (x ∷ xs) y ys = place_behind xs y ys

-- an entry with which the side accepts nothing
past_entry : (s : SideId) (before : List Entry) (e : Entry) (log : List Entry) (its : List Item) → contents_accepted (e ∷ []) s ≡ [] → InTurn s (before ++ e ∷ []) log its → InTurn s before (e ∷ log) its
past_entry s before e log its none h = record {
  counted = subst (λ n. CountsFrom (n + 1) (sequences its)) same h.counted;
  are_accepted = subst (λ l. AllByRecursion (IsAccepted (contents_accepted l s)) its) (append_assoc before (e ∷ []) log) h.are_accepted;
}
  where
    same : accepted (before ++ e ∷ []) s ≡ accepted before s
    same = ap length (contents_accepted-append before (e ∷ []) s ∙ ap (λ l. contents_accepted before s ++ l) none ∙ append-nil (contents_accepted before s))

-- an item without a number
put_quiet : (s : SideId) (before log : List Entry) (item : Item) (its : List Item) (c : Bool) → item.sequence ≡ 0 → InTurn s before log its → InTurn s before log (cond c (item ∷ its) its)
put_quiet s before log item its true quiet h = record {
  counted = subst (λ k. CountsFrom (accepted before s + 1) (cond (nat_le 1 k) (k ∷ sequences its) (sequences its))) (sym quiet) h.counted;
  are_accepted = (inl quiet, h.are_accepted);
}
put_quiet s before log item its false quiet h = h

-- an accepted message
put_accepted : (s side : SideId) (before log : List Entry) (k n : ℕ) (m : Option NewSide) (c : Content) (its : List Item) (b : Bool) → same_side side s ≡ b → k ≡ accepted before side + 1 →
    InTurn s (before ++ Accepted side k m c ∷ []) log its →
    InTurn s before (Accepted side k m c ∷ log) (cond b (record { number = n; side = side; sequence = k; message = message_of c } ∷ its) its)
put_accepted s side before log k n m c its false e number h = past_entry s before (Accepted side k m c) log its (ap (λ b. cond b (c ∷ []) [] ++ []) e) h
put_accepted s side before log k n m c its true e number h =
    let a : ℕ = accepted before s in
    let same : side ≡ s = sides_same side s e in
    let is : k ≡ accepted before s + 1 = subst (λ z. k ≡ accepted before z + 1) same number in
    let one : contents_accepted (Accepted side k m c ∷ []) s ≡ c ∷ [] = ap (λ b. cond b (c ∷ []) [] ++ []) e in
    let more : accepted (before ++ Accepted side k m c ∷ []) s ≡ accepted before s + 1 = ap length (contents_accepted-append before (Accepted side k m c ∷ []) s ∙ ap (λ l. contents_accepted before s ++ l) one) ∙ length-append (contents_accepted before s) (c ∷ []) in
    let whole : contents_accepted (before ++ Accepted side k m c ∷ log) s ≡ contents_accepted before s ++ c ∷ contents_accepted log s =
    contents_accepted-append before (Accepted side k m c ∷ log) s ∙ ap (λ b. contents_accepted before s ++ (cond b (c ∷ []) [] ++ contents_accepted log s)) e in
    record {
      counted = subst (λ b. CountsFrom (accepted before s + 1) (cond b (k ∷ sequences its) (sequences its))) (sym (some k (accepted before s) is)) (is, subst (λ j. CountsFrom (j + 1) (sequences its)) more h.counted);
      are_accepted = (
        inr (c, subst (λ l. slice_get l (k - 1) ≡ Some c) (sym whole) (subst (λ j. slice_get (contents_accepted before s ++ c ∷ contents_accepted log s) j ≡ Some c) (back k (accepted before s) is) (place_behind (contents_accepted before s) c (contents_accepted log s))), refl),
        subst (λ l. AllByRecursion (IsAccepted (contents_accepted l s)) its) (append_assoc before (Accepted side k m c ∷ []) log) h.are_accepted,
      );
    }
  where
    some : (j i : ℕ) → j ≡ i + 1 → nat_le 1 j ≡ true
    some j i f = grind (arith, nat_tests)

    back : (j i : ℕ) → j ≡ i + 1 → i ≡ j - 1
    back j i f = omega (arith, f)

items_turn : (s : SideId) (before log : List Entry) (n : ℕ) → are_allowed_after before log ≡ true → InTurn s before log (filter (of s) (items_from n log))
items_turn s before [] n e = record { counted = tt; are_accepted = tt }
items_turn s before (Accepted side k m c ∷ log) n e =
    let first : is_allowed before (Accepted side k m c) ≡ true = both_left (is_allowed before (Accepted side k m c)) (are_allowed_after (before ++ Accepted side k m c ∷ []) log) e in
    put_accepted s side before log k n m c (filter (of s) (items_from (n + 1) log)) (same_side side s) refl (eqb-true k (accepted before side + 1) (both_right (is_made_allowed before side m) (k == accepted before side + 1) first))
    (items_turn s (before ++ Accepted side k m c ∷ []) log (n + 1) (both_right (is_allowed before (Accepted side k m c)) (are_allowed_after (before ++ Accepted side k m c ∷ []) log) e))
items_turn s before (Fired side ∷ log) n e = put_quiet s before (Fired side ∷ log) _ (filter (of s) (items_from (n + 1) log)) (same_side side s) refl
    (past_entry s before (Fired side) log _ refl (items_turn s (before ++ Fired side ∷ []) log (n + 1) (both_right (is_allowed before (Fired side)) (are_allowed_after (before ++ Fired side ∷ []) log) e)))
items_turn s before (Expired side ∷ log) n e = put_quiet s before (Expired side ∷ log) _ (filter (of s) (items_from (n + 1) log)) (same_side side s) refl
    (past_entry s before (Expired side) log _ refl (items_turn s (before ++ Expired side ∷ []) log (n + 1) (both_right (is_allowed before (Expired side)) (are_allowed_after (before ++ Expired side ∷ []) log) e)))
items_turn s before (Defined d ∷ log) n e = past_entry s before (Defined d) log _ refl (items_turn s (before ++ Defined d ∷ []) log n (both_right (is_allowed before (Defined d)) (are_allowed_after (before ++ Defined d ∷ []) log) e))
items_turn s before (Txn tx ops ∷ log) n e = past_entry s before (Txn tx ops) log _ refl (items_turn s (before ++ Txn tx ops ∷ []) log n (both_right (is_allowed before (Txn tx ops)) (are_allowed_after (before ++ Txn tx ops ∷ []) log) e))
items_turn s before (Acked a b c ∷ log) n e = past_entry s before (Acked a b c) log _ refl (items_turn s (before ++ Acked a b c ∷ []) log n (both_right (is_allowed before (Acked a b c)) (are_allowed_after (before ++ Acked a b c ∷ []) log) e))
items_turn s before (QueueSet q on ∷ log) n e = past_entry s before (QueueSet q on) log _ refl (items_turn s (before ++ QueueSet q on ∷ []) log n (both_right (is_allowed before (QueueSet q on)) (are_allowed_after (before ++ QueueSet q on ∷ []) log) e))

-- ---- what is received

counts_first : (n : ℕ) (xs ys : List ℕ) → CountsFrom n (xs ++ ys) → CountsFrom n xs
counts_first n [] ys h = tt
counts_first n (x ∷ xs) ys h = (h.0, counts_first (n + 1) xs ys h.1)

prefix_map : {X Y : Type 0} (f : X → Y) (xs ys : List X) → IsPrefixOf xs ys → IsPrefixOf (map f xs) (map f ys)
prefix_map {X = X} f xs ys h = (map f h.0, joined xs h.0 ∙ ap (map f) h.1)
  where
    joined : (vs ws : List X) → map f vs ++ map f ws ≡ map f (vs ++ ws)
    joined [] ws = refl
    joined (v ∷ vs) ws = ap (λ l. f v ∷ l) (joined vs ws)

pub in_turn : (logs : Logs) (wire : List Wired) (x : Who) (s : SideId) → Linked logs wire → WellFormed (logs x) → ReceivesInTurn logs x s
in_turn logs wire x s h formed =
    let first : IsPrefixOf (items_received (logs x) s) (filter (of s) (items (logs x))) = received_first (logs x) s (h.taken_in_order x) in
    let turn : InTurn s [] (logs x) (filter (of s) (items (logs x))) = items_turn s [] (logs x) 1 formed in
    let numbers : IsPrefixOf (sequences (items_received (logs x) s)) (sequences (filter (of s) (items (logs x)))) =
    prefix-filter (λ n. nat_le 1 n) (map (λ item. item.sequence) (items_received (logs x) s)) (map (λ item. item.sequence) (filter (of s) (items (logs x))))
    (prefix_map (λ item. item.sequence) (items_received (logs x) s) (filter (of s) (items (logs x))) first) in
    record {
      counted = counts_first 1 (sequences (items_received (logs x) s)) numbers.0 (subst (CountsFrom 1) (sym numbers.1) turn.counted);
      partners = all_weaker (IsAccepted (contents_accepted (logs x) s)) (IsPartners logs s) partner_of (items_received (logs x) s)
          (all_left (IsAccepted (contents_accepted (logs x) s)) (items_received (logs x) s) first.0 (subst (AllByRecursion (IsAccepted (contents_accepted (logs x) s))) (sym first.1) turn.are_accepted));
    }
  where
    partner_of : (item : Item) → IsAccepted (contents_accepted (logs x) s) item → IsPartners logs s item
    partner_of item (inl e) = inl e
    partner_of item (inr k) = let came = h.accepted_from x s (item.sequence - 1) k.0 k.1 in inr (came.far, k.0, came.place, k.2)

-- every side receives in turn
pub delivers_in_turn : (logs : Logs) (wire : List Wired) → Linked logs wire → ((x : Who) → WellFormed (logs x)) → DeliversInTurn logs
delivers_in_turn logs wire h formed x s has = in_turn logs wire x s h (formed x)
