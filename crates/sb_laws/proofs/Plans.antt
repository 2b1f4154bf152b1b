-- What each plan owes its transaction: the groups that it locks are free, it concerns only sides whose group it locks, it sends on no side that ended, and it takes the first items.
use Rattle.std.proofs.Common.{◌≡◌, ℕ, Bool, true, false, List, [], ◌∷◌, ◌++◌, ◌+◌, ◌*◌, ◌/◌, ◌%◌, ◌^◌, ◌≤◌, ◌<◌, Option, Some, None, Result, Ok, Err, refl, sym, ◌∙◌, ap, subst, length, arith, cond, inl, inr, append-nil, map}
use Rattle.std.specs.Prelude.{filter, flat_map, not, IsTrue, ◌==◌, ◌&&◌, ◌||◌, nat_lt, nat_le, is_some, option_map}
use Rattle.std.specs.Option.{option_eq, option_map_or}
use Rattle.std.specs.List.{list_any, AllByRecursion}
use Rattle.std.proofs.lemmas.Bool.{eq-eqb}
use Rattle.std.proofs.lemmas.Bool.Decides.{nat_tests}
use Rattle.std.proofs.lemmas.Nat.{div-mul-add, mod-mul-add}
use Rattle.sb_log.specs.declared.identifiers.Handle.{Handle}
use Rattle.sb_log.specs.declared.identifiers.SideId.{SideId}
use Rattle.sb_log.specs.declared.identifiers.Who.{Who}
use Rattle.sb_log.specs.declared.entries.Entry.{Entry}
use Rattle.sb_log.specs.declared.entries.Entry.TheVariants.{Defined, Txn, Accepted, Acked, Fired, Expired, QueueSet}
use Rattle.sb_log.specs.declared.entries.Op.{Op}
use Rattle.sb_log.specs.declared.entries.Op.TheVariants.{Begin}
use Rattle.sb_log.specs.declared.messages.Item.{Item}
use Rattle.sb_log.specs.declared.messages.Header.{Header}
use Rattle.sb_log.specs.declared.refusals.Refusal.{Refusal}
use Rattle.sb_log.specs.declared.requests.Filter.{Filter}
use Rattle.sb_log.specs.declared.requests.Filter.TheVariants as filters
use Rattle.sb_model.specs.Sides.{Bytes, same_side, same_id, same_name, is_home, tag, tag_of, id}
use Rattle.sb_model.specs.Sides.{side_of, ops_of}
use Rattle.sb_model.specs.Messages.{is_ended, is_cleaned}
use Rattle.sb_model.specs.Items.{items, items_from, taken, taken_by, waiting, waits_in, waits_at, queue_of, is_taken}
use Rattle.sb_model.specs.Groups.{group_of, level_of}
use Rattle.sb_model.specs.Sorting.{in_order}
use Rattle.sb_model.specs.Acceptance.{instance_id}
use Rattle.sb_model.specs.Transactions.{OpenTransaction, with_ops, is_free}
use Rattle.sb_model.specs.Pick.{Pick, passes, is_free_item, candidates, item_before, first_items, pick_first, pick_in}
use Rattle.sb_model.specs.Instance.{low_half}
use Rattle.sb_model.specs.Refusals.{need, refuse_if, unless_refused}
use Rattle.sb_model.specs.Replies.{took}
use Rattle.sb_model.specs.Links.{EndsForGood, SilentAfter, sends_on}
use Rattle.sb_model.specs.Logs.{is_op_allowed, is_item}
use Rattle.sb_model.specs.Catalog.{find_queue}
use Rattle.sb_laws.proofs.Allowed.{AllowedIn, AllowedTake, ops_from_view, both_true, has_handle}
use Rattle.sb_laws.proofs.Sides.{sides_same, ids_same, both_right}
use Rattle.sb_laws.proofs.Grow.{all_weaker, shuts, ended_join, or_true_left, or_false}
use Rattle.sb_laws.proofs.Taking.{InOrder, Rising, Picks, IsOwn, IsBySide, KeepsOrder, of, has, numbers, is_mine, own_numbers, picks_side, in_order_picked, all_filter, all_first_items, all_in_order}
use Rattle.sb_laws.proofs.Views.{items_view, touches}
use Rattle.sb_model.specs.Sides.{Making}
use Rattle.sb_laws.proofs.Opens.{IsCounted, LogOk, AreWithin, Holds, IsNewBegin, PlanOk}

clash : {P : Type 0} → true ≡ false → P
clash e = cc

-- ---- results

pub err_ok : {X P : Type 0} (r : Refusal) (y : X) → ◌≡◌ {A = Result X Refusal} (Err r) (Ok y) → P
err_ok r y e = cc

pub ok_ok : {X : Type 0} (x y : X) → ◌≡◌ {A = Result X Refusal} (Ok x) (Ok y) → x ≡ y
ok_ok x y e = cc

pub need_ok : {X Y : Type 0} (o : Option X) (r : Refusal) (rest : X → Result Y Refusal) (y : Y) → need o r rest ≡ Ok y → (x : X) × (o ≡ Some x) × (rest x ≡ Ok y)
need_ok None r rest y e = err_ok r y e
need_ok (Some x) r rest y e = (x, refl, e)

pub refuse_ok : {X : Type 0} (b : Bool) (r : Refusal) (rest : Result X Refusal) (y : X) → refuse_if b r rest ≡ Ok y → (b ≡ false) × (rest ≡ Ok y)
refuse_ok true r rest y e = err_ok r y e
refuse_ok false r rest y e = (refl, e)

pub unless_ok : {X : Type 0} (o : Option Refusal) (rest : Result X Refusal) (y : X) → unless_refused o rest ≡ Ok y → (o ≡ None) × (rest ≡ Ok y)
unless_ok None rest y e = (refl, e)
unless_ok (Some r) rest y e = err_ok r y e

pub map_none : {X Y : Type 0} (f : X → Y) (o : Option X) → option_map f o ≡ None → o ≡ None
map_none f None e = refl
map_none f (Some x) e = cc

pub map_some : {X Y : Type 0} (f : X → Y) (o : Option X) (y : Y) → option_map f o ≡ Some y → (x : X) × (o ≡ Some x) × (f x ≡ y)
map_some f None y e = cc
map_some f (Some x) y e = (x, refl, some_some e)
  where
    some_some : Some (f x) ≡ Some y → f x ≡ y
    some_some g = cc

-- ---- handles that are drawn

tag_drawn : (x : Who) (n : ℕ) → n < 2 ^ 64 → (tag x * 2 ^ 64 + n) / 2 ^ 64 ≡ tag x
tag_drawn x n h = div-mul-add (tag x) (2 ^ 64) n h

low_drawn : (x : Who) (n : ℕ) → n < 2 ^ 64 → (tag x * 2 ^ 64 + n) % 2 ^ 64 ≡ n
low_drawn x n h = mod-mul-add (tag x) (2 ^ 64) n h

pub low_is : (n : ℕ) → n < 2 ^ 64 → n % 2 ^ 64 ≡ n
low_is n h = ap (λ k. k % 2 ^ 64) (none_before n) ∙ mod-mul-add 0 (2 ^ 64) n h
  where
    none_before : (k : ℕ) → k ≡ 0 + k
    none_before k = omega arith

pub drawn_home : (x : Who) (n : ℕ) → n < 2 ^ 64 → IsTrue (is_home x (id ((instance_id x).0 + (n + 0) % 2 ^ 64)))
drawn_home x n h =
    let same : (n + 0) % 2 ^ 64 ≡ n = ap (λ k. k % 2 ^ 64) (add_none n) ∙ low_is n h in
    eq-eqb (tag_of (id ((instance_id x).0 + (n + 0) % 2 ^ 64))) (tag x) (ap (λ k. (tag x * 2 ^ 64 + k) / 2 ^ 64) same ∙ tag_drawn x n h)
  where
    add_none : (k : ℕ) → k + 0 ≡ k
    add_none k = omega arith

pub drawn_low : (x : Who) (n : ℕ) → n < 2 ^ 64 → low_half ((instance_id x).0 + (n + 0) % 2 ^ 64) ≡ n
drawn_low x n h =
    let same : (n + 0) % 2 ^ 64 ≡ n = ap (λ k. k % 2 ^ 64) (add_none n) ∙ low_is n h in
    ap (λ k. (tag x * 2 ^ 64 + k) % 2 ^ 64) same ∙ low_drawn x n h
  where
    add_none : (k : ℕ) → k + 0 ≡ k
    add_none k = omega arith

-- a handle that is drawn is that of no side which is counted
pub drawn_new : (x : Who) (n : ℕ) → n < 2 ^ 64 → (ms : List Making) → AllByRecursion (IsCounted x n) ms → list_any (has_handle (id ((instance_id x).0 + (n + 0) % 2 ^ 64))) ms ≡ false
drawn_new x n lt [] h = refl
drawn_new x n lt (m ∷ ms) h = or_false (same_id m.handle (id ((instance_id x).0 + (n + 0) % 2 ^ 64))) (list_any (has_handle (id ((instance_id x).0 + (n + 0) % 2 ^ 64))) ms)
    (by_test (same_id m.handle (id ((instance_id x).0 + (n + 0) % 2 ^ 64))) refl) (drawn_new x n lt ms h.1)
  where
    not_below : (j k : ℕ) → j ≡ k → j < k → ⊥
    not_below j k e less = absurd (omega (arith, e, less))

    by_test : (b : Bool) → same_id m.handle (id ((instance_id x).0 + (n + 0) % 2 ^ 64)) ≡ b → same_id m.handle (id ((instance_id x).0 + (n + 0) % 2 ^ 64)) ≡ false
    by_test false e = e
    by_test true e =
        let same : m.handle ≡ id ((instance_id x).0 + (n + 0) % 2 ^ 64) = ids_same m.handle (id ((instance_id x).0 + (n + 0) % 2 ^ 64)) e in
        absurd (not_below (low_half ((instance_id x).0 + (n + 0) % 2 ^ 64)) n (drawn_low x n lt) (subst (λ z. low_half z.0 < n) same (h.0.1 (subst (λ z. IsTrue (is_home x z)) (sym same) (drawn_home x n lt)))))

-- ---- items

pub items_rising : (n : ℕ) (log : List Entry) → Rising n (items_from n log)
items_rising n [] = tt
items_rising n (Accepted a b c d ∷ log) = (omega arith, items_rising (n + 1) log)
items_rising n (Fired a ∷ log) = (omega arith, items_rising (n + 1) log)
items_rising n (Expired a ∷ log) = (omega arith, items_rising (n + 1) log)
items_rising n (Defined a ∷ log) = items_rising n log
items_rising n (Txn a b ∷ log) = items_rising n log
items_rising n (Acked a b c ∷ log) = items_rising n log
items_rising n (QueueSet a b ∷ log) = items_rising n log

rising_least : (low : ℕ) (xs : List Item) → Rising low xs → AllByRecursion (λ i. low ≤ i.number) xs
rising_least low [] h = tt
rising_least low (x ∷ xs) h = (h.0, all_weaker (λ i. x.number + 1 ≤ i.number) (λ i. low ≤ i.number) (λ i le. let k = h.0 in omega (arith, le, k)) xs (rising_least (x.number + 1) xs h.1))

items_below : (n top : ℕ) (log : List Entry) → n + length (items_from n log) ≤ top + 1 → AllByRecursion (λ i. i.number ≤ top) (items_from n log)
items_below n top [] h = tt
items_below n top (Accepted a b c d ∷ log) h = (omega (arith, h), items_below (n + 1) top log (omega (arith, h)))
items_below n top (Fired a ∷ log) h = (omega (arith, h), items_below (n + 1) top log (omega (arith, h)))
items_below n top (Expired a ∷ log) h = (omega (arith, h), items_below (n + 1) top log (omega (arith, h)))
items_below n top (Defined a ∷ log) h = items_below n top log h
items_below n top (Txn a b ∷ log) h = items_below n top log h
items_below n top (Acked a b c ∷ log) h = items_below n top log h
items_below n top (QueueSet a b ∷ log) h = items_below n top log h

-- ---- what a plan owes, over its view

pub record PlanFacts (x : Who) (seen_log : List Entry) (opens : List OpenTransaction) (next high tx : ℕ) (ops : List Op) (groups : List Handle) : Type 0 where
  pub few : high ≤ next + 2
  pub free : AllByRecursion (λ g. is_free opens g tx ≡ true) groups
  pub held : (s : SideId) → list_any (touches (items seen_log) s) ops ≡ true → Holds seen_log ops groups s
  pub begins_new : AllByRecursion (IsNewBegin x next high) ops
  pub ended : EndsForGood (ops_of seen_log ++ ops)
  pub in_order : InOrder (items seen_log) (taken seen_log ++ flat_map taken_by ops)
  pub within : AreWithin (items seen_log) (flat_map taken_by ops)
  pub allowed : AllowedIn seen_log ops

pub plan_from_facts : (x : Who) (log seen_log : List Entry) (opens : List OpenTransaction) (next high tx : ℕ) (before ops : List Op) (groups : List Handle) →
    seen_log ≡ with_ops log tx before → PlanFacts x seen_log opens next high tx ops groups → PlanOk x log opens next high tx before ops groups
plan_from_facts x log seen_log opens next high tx before ops groups e facts = go (subst (λ l. PlanFacts x l opens next high tx ops groups) e facts)
  where
    same : items (with_ops log tx before) ≡ items log
    same = items_view log tx before

    go : PlanFacts x (with_ops log tx before) opens next high tx ops groups → PlanOk x log opens next high tx before ops groups
    go f = record {
      free = f.free;
      held = λ s h. f.held s (subst (λ its. list_any (touches its s) ops ≡ true) (sym same) h);
      begins_new = f.begins_new;
      ended = f.ended;
      in_order = subst (λ its. InOrder its (taken (with_ops log tx before) ++ flat_map taken_by ops)) same f.in_order;
      within = subst (λ its. AreWithin its (flat_map taken_by ops)) same f.within;
      allowed = ops_from_view log tx before ops f.allowed;
    }

module _ (x : Who) (V : List Entry) (U : List OpenTransaction) (next high tx : ℕ) (ok : LogOk x V) (few : high ≤ next + 2) where
  abbrev Facts : List Op → List Handle → Type 0
  Facts ops groups = PlanFacts x V U next high tx ops groups

  abbrev pub IsPlain : Op → Type 0
  IsPlain op = ((s : SideId) → touches (items V) s op ≡ false) × ((s : SideId) → sends_on s op ≡ false) × (taken_by op ≡ []) × IsNewBegin x next high op

  plain_touch : (s : SideId) (ops : List Op) → AllByRecursion IsPlain ops → list_any (touches (items V) s) ops ≡ false
  plain_touch s [] h = refl
  plain_touch s (op ∷ ops) h = or_false (touches (items V) s op) (list_any (touches (items V) s) ops) (h.0.0 s) (plain_touch s ops h.1)

  plain_send : (s : SideId) (ops : List Op) → AllByRecursion IsPlain ops → list_any (sends_on s) ops ≡ false
  plain_send s [] h = refl
  plain_send s (op ∷ ops) h = or_false (sends_on s op) (list_any (sends_on s) ops) (h.0.1 s) (plain_send s ops h.1)

  plain_take : (ops : List Op) → AllByRecursion IsPlain ops → flat_map taken_by ops ≡ []
  plain_take [] h = refl
  plain_take (op ∷ ops) h = ap (λ l. l ++ flat_map taken_by ops) h.0.2 ∙ plain_take ops h.1

  not_taking : (ops : List Op) → flat_map taken_by ops ≡ [] → InOrder (items V) (taken V ++ flat_map taken_by ops) × AreWithin (items V) (flat_map taken_by ops)
  not_taking ops e = (
    subst (InOrder (items V)) (sym (ap (λ l. taken V ++ l) e ∙ append-nil (taken V))) ok.in_order,
    subst (AreWithin (items V)) (sym e) tt,
  )

  -- operations on rows, or none
  pub plain_facts : (ops : List Op) (groups : List Handle) → AllowedIn V ops → AllByRecursion IsPlain ops → EndsForGood ops → AllByRecursion (λ g. is_free U g tx ≡ true) groups → Facts ops groups
  plain_facts ops groups allowed h ends free = record {
    few = few;
    free = free;
    held = λ s e. clash (sym e ∙ plain_touch s ops h);
    begins_new = all_weaker IsPlain (IsNewBegin x next high) (λ op k. k.3) ops h;
    ended = ended_join (ops_of V) ops ok.sound.ended ends (λ s e. plain_send s ops h);
    in_order = (not_taking ops (plain_take ops h)).0;
    within = (not_taking ops (plain_take ops h)).1;
    allowed = allowed;
  }

  -- one operation on a side whose group is locked
  pub side_facts : (op : Op) (s : SideId) (g : Handle) (groups : List Handle) → is_op_allowed V op ≡ true → ((t : SideId) → touches (items V) t op ≡ true → s ≡ t) → group_of V s ≡ Some g → list_any (same_id g) groups ≡ true →
      AllByRecursion (λ k. is_free U k tx ≡ true) groups → ((t : SideId) → sends_on t op ≡ true → list_any (shuts t) (ops_of V) ≡ false) → SilentAfter op [] → taken_by op ≡ [] → IsNewBegin x next high op → Facts (op ∷ []) groups
  side_facts op s g groups allowed only at held free silent last none new = record {
    few = few;
    free = free;
    held = λ t e. inr (g, ap (group_of V) (sym (only t (first_or (touches (items V) t op) e))) ∙ at, held);
    begins_new = (new, tt);
    ended = ended_join (ops_of V) (op ∷ []) ok.sound.ended (last, tt) (λ t e. or_false (sends_on t op) false (quiet t e (sends_on t op) refl) refl);
    in_order = (not_taking (op ∷ []) (ap (λ l. l ++ []) none)).0;
    within = (not_taking (op ∷ []) (ap (λ l. l ++ []) none)).1;
    allowed = inl (op, refl, allowed);
  }
    where
      first_or : (b : Bool) → (b || false) ≡ true → b ≡ true
      first_or true e = refl
      first_or false e = e

      quiet : (t : SideId) → list_any (shuts t) (ops_of V) ≡ true → (b : Bool) → sends_on t op ≡ b → sends_on t op ≡ false
      quiet t e false f = f
      quiet t e true f = clash (sym e ∙ silent t f)

  -- a new dialog
  pub begin_facts : (handle g : Handle) (header : Header) → is_op_allowed V (Begin handle g header) ≡ true → IsNewBegin x next high (Begin handle g header) → is_free U g tx ≡ true → Facts (Begin handle g header ∷ []) (g ∷ [])
  begin_facts handle g header allowed new free = record {
    few = few;
    free = (free, tt);
    held = λ s e. inl e;
    begins_new = (new, tt);
    ended = ended_join (ops_of V) (Begin handle g header ∷ []) ok.sound.ended (tt, tt) (λ s e. refl);
    in_order = (not_taking (Begin handle g header ∷ []) refl).0;
    within = (not_taking (Begin handle g header ∷ []) refl).1;
    allowed = inl (Begin handle g header, refl, allowed);
  }

  -- ---- a pick

  takes_are : (q : Bytes) (ps : List Item) → flat_map taken_by (map (took q) ps) ≡ numbers ps
  takes_are q [] = refl
  takes_are q (p ∷ ps) = ap (λ l. p.number ∷ l) (takes_are q ps)

  take_sends : (s : SideId) (q : Bytes) (ps : List Item) → list_any (sends_on s) (map (took q) ps) ≡ false
  take_sends s q [] = refl
  take_sends s q (p ∷ ps) = take_sends s q ps

  take_ends : (q : Bytes) (ps : List Item) → EndsForGood (map (took q) ps)
  take_ends q [] = tt
  take_ends q (p ∷ ps) = (tt, take_ends q ps)

  take_new : (q : Bytes) (ps : List Item) → AllByRecursion (IsNewBegin x next high) (map (took q) ps)
  take_new q [] = tt
  take_new q (p ∷ ps) = (tt, take_new q ps)

  all_map_number : (P : ℕ → Type 0) (ps : List Item) → AllByRecursion (λ i. P i.number) ps → AllByRecursion P (numbers ps)
  all_map_number P [] h = tt
  all_map_number P (p ∷ ps) h = (h.0, all_map_number P ps h.1)

  -- items that are the log's own, of one group
  pick_facts : (q : Bytes) (g : Handle) (ps : List Item) → is_some (find_queue V q) ≡ true → AllByRecursion (λ i. 1 ≤ i.number) ps → is_free U g tx ≡ true → AllByRecursion (IsOwn (items V)) ps → AllByRecursion (λ i. i.number ≤ length (items V)) ps →
      AllByRecursion (λ i. group_of V i.side ≡ Some g) ps → Picks (items V) (taken V) ps → Facts (map (took q) ps) (g ∷ [])
  pick_facts q g ps named first free own below grouped picks = record {
    few = few;
    free = (free, tt);
    held = λ s e. inr (g, in_group s ps own grouped e, or_true_left (same_id g g) false (id_same g));
    begins_new = take_new q ps;
    ended = ended_join (ops_of V) (map (took q) ps) ok.sound.ended (take_ends q ps) (λ s e. take_sends s q ps);
    in_order = subst (λ l. InOrder (items V) (taken V ++ l)) (sym (takes_are q ps))
        (in_order_picked 1 (items V) (taken V) ps (items_rising 1 V) own picks ok.in_order);
    within = subst (AreWithin (items V)) (sym (takes_are q ps)) (all_map_number (λ n. n ≤ length (items V)) ps below);
    allowed = inr (takes ps first below);
  }
    where
      id_same : (k : Handle) → same_id k k ≡ true
      id_same k = eq-eqb k.0 k.0 refl

      is_most : (j k : ℕ) → j ≤ k → nat_le j k ≡ true
      is_most j k le = grind (arith, nat_tests)

      takes : (zs : List Item) → AllByRecursion (λ i. 1 ≤ i.number) zs → AllByRecursion (λ i. i.number ≤ length (items V)) zs → AllByRecursion (AllowedTake V) (map (took q) zs)
      takes [] a b = tt
      takes (z ∷ zs) a b = (both_true (is_some (find_queue V q)) (is_item V z.number) named (both_true (nat_le 1 z.number) (nat_le z.number (length (items V))) (is_most 1 z.number a.0) (is_most z.number (length (items V)) b.0)), takes zs a.1 b.1)

      in_group : (s : SideId) (zs : List Item) → AllByRecursion (IsOwn (items V)) zs → AllByRecursion (λ i. group_of V i.side ≡ Some g) zs → list_any (touches (items V) s) (map (took q) zs) ≡ true → group_of V s ≡ Some g
      in_group s [] a b e = clash (sym e)
      in_group s (z ∷ zs) a b e = by_test (is_mine (items V) s z.number) refl (in_group s zs a.1 b.1)
        where
          by_test : (c : Bool) → is_mine (items V) s z.number ≡ c → (list_any (touches (items V) s) (map (took q) zs) ≡ true → group_of V s ≡ Some g) → group_of V s ≡ Some g
          by_test true f rest = ap (group_of V) (sym (sides_same z.side s (sym (a.0 s) ∙ f))) ∙ b.0
          by_test false f rest = rest (sym (ap (λ d. d || list_any (touches (items V) s) (map (took q) zs)) f) ∙ e)

  pass_side : Filter → SideId → Bool
  pass_side filters.All s = true
  pass_side (filters.Side handle) s = option_eq same_side (side_of V handle) (Some s)
  pass_side (filters.Group g) s = option_eq same_id (group_of V s) (Some g)

  passes_side : (f : Filter) (i : Item) → passes V f i ≡ pass_side f i.side
  unfolding pass_side
  passes_side filters.All i = refl
  passes_side (filters.Side handle) i = refl
  passes_side (filters.Group g) i = refl

  abbrev cands : Bytes → Filter → List Item
  cands q f = candidates V U tx q f

  abbrev in_group_of : Handle → Item → Bool
  in_group_of g i = option_eq same_id (group_of V i.side) (Some g)

  free_side : SideId → Bool
  free_side s = option_map_or (λ g. is_free U g tx) (group_of V s) false

  open_side : Bytes → SideId → Bool
  open_side q s = option_eq same_name (queue_of V s) (Some q) && (not (is_ended V s) && not (is_cleaned V s))

  waits_is : (q : Bytes) (i : Item) → waits_in V q i ≡ (open_side q i.side && not (has (taken V) i.number))
  unfolding open_side waits_at
  waits_is q i = regroup (option_eq same_name (queue_of V i.side) (Some q)) (not (is_taken V i.number)) (not (is_ended V i.side)) (not (is_cleaned V i.side))
    where
      and_swap : (a b : Bool) → (a && b) ≡ (b && a)
      and_swap true true = refl
      and_swap true false = refl
      and_swap false true = refl
      and_swap false false = refl

      and_false : (a : Bool) → (a && false) ≡ false
      and_false true = refl
      and_false false = refl

      regroup : (a t e c : Bool) → (((a && t) && e) && c) ≡ ((a && (e && c)) && t)
      regroup false t e c = refl
      regroup true true e c = and_swap true (e && c) ∙ refl
      regroup true false e c = sym (and_false (e && c))

  by_side : (q : Bytes) (f : Filter) (g : Handle) (t : SideId) →
      IsBySide t (taken V) (λ i. waits_in V q i && ((passes V f i && is_free_item V U tx i) && in_group_of g i))
      (open_side q t && ((pass_side f t && free_side t) && option_eq same_id (group_of V t) (Some g)))
  unfolding free_side
  by_side q f g t i own =
      let same : i.side ≡ t = sides_same i.side t own in
      ap (λ b. b && ((passes V f i && is_free_item V U tx i) && in_group_of g i)) (waits_is q i)
      ∙ ap (λ b. (open_side q i.side && not (has (taken V) i.number)) && ((b && is_free_item V U tx i) && in_group_of g i)) (passes_side f i)
      ∙ ap (λ s. (open_side q s && not (has (taken V) i.number)) && ((pass_side f s && option_map_or (λ k. is_free U k tx) (group_of V s) false) && option_eq same_id (group_of V s) (Some g))) same
      ∙ regroup (open_side q t) (not (has (taken V) i.number)) ((pass_side f t && free_side t) && option_eq same_id (group_of V t) (Some g))
    where
      and_swap : (a b : Bool) → (a && b) ≡ (b && a)
      and_swap true true = refl
      and_swap true false = refl
      and_swap false true = refl
      and_swap false false = refl

      regroup : (a n r : Bool) → ((a && n) && r) ≡ ((a && r) && n)
      regroup false n r = refl
      regroup true n r = and_swap n r

  keeps : (t : SideId) → KeepsOrder (of t) (item_before V)
  keeps t a b oa ob lt =
      let same : b.side ≡ a.side = sides_same b.side t ob ∙ sym (sides_same a.side t oa) in
      ap (λ s. nat_lt (level_of V a.side) (level_of V s) || ((level_of V s == level_of V a.side) && nat_lt b.number a.number)) same
      ∙ none (level_of V a.side) (level_of V a.side == level_of V a.side) a.number b.number lt
    where
      none : (l : ℕ) (e : Bool) (m n : ℕ) → m < n → (nat_lt l l || (e && nat_lt n m)) ≡ false
      none l e m n h = or_false (nat_lt l l) (e && nat_lt n m) (itself l) (ap (λ b. e && b) (above m n h) ∙ and_none e)
        where
          itself : (k : ℕ) → nat_lt k k ≡ false
          itself k = grind (arith, nat_tests)

          above : (j k : ℕ) → j < k → nat_lt k j ≡ false
          above j k q = grind (arith, nat_tests)

          and_none : (b : Bool) → (b && false) ≡ false
          and_none true = refl
          and_none false = refl

  all_passed : (p : Item → Bool) (zs : List Item) → AllByRecursion (λ i. p i ≡ true) (filter p zs)
  all_passed p [] = tt
  all_passed p (z ∷ zs) = by_test (p z) refl (all_passed p zs)
    where
      by_test : (b : Bool) → p z ≡ b → AllByRecursion (λ i. p i ≡ true) (filter p zs) → AllByRecursion (λ i. p i ≡ true) (cond b (z ∷ filter p zs) (filter p zs))
      by_test true e rest = (e, rest)
      by_test false e rest = rest

  grouped_is : (o : Option Handle) (g : Handle) → option_eq same_id o (Some g) ≡ true → o ≡ Some g
  grouped_is None g e = clash (sym e)
  grouped_is (Some k) g e = ap Some (ids_same k g e)

  -- of the log's items, whatever a filter, a sort and a beginning leave
  through : (P : Item → Type 0) (q : Bytes) (f : Filter) (n : Option ℕ) (g : Handle) → AllByRecursion P (items V) →
      AllByRecursion P (first_items n (filter (in_group_of g) (in_order (item_before V) (cands q f))))
  through P q f n g h = all_first_items P n (filter (in_group_of g) (in_order (item_before V) (cands q f)))
      (all_filter P (in_group_of g) (in_order (item_before V) (cands q f)) (all_in_order P (item_before V) (cands q f)
      (all_filter P (λ i. passes V f i && is_free_item V U tx i) (waiting V q) (all_filter P (waits_in V q) (items V) h))))

  picked_facts : (q : Bytes) (f : Filter) (n : Option ℕ) (g : Handle) → is_some (find_queue V q) ≡ true → is_free U g tx ≡ true →
      Facts (map (took q) (first_items n (filter (in_group_of g) (in_order (item_before V) (cands q f))))) (g ∷ [])
  picked_facts q f n g named free = pick_facts q g (first_items n (filter (in_group_of g) (in_order (item_before V) (cands q f)))) named
      (through (λ i. 1 ≤ i.number) q f n g (rising_least 1 (items V) (items_rising 1 V))) free
      (through (IsOwn (items V)) q f n g (own_numbers 1 (items V) (items_rising 1 V)))
      (through (λ i. i.number ≤ length (items V)) q f n g (items_below 1 (length (items V)) V (omega arith)))
      (all_first_items (λ i. group_of V i.side ≡ Some g) n (filter (in_group_of g) (in_order (item_before V) (cands q f)))
      (all_weaker (λ i. in_group_of g i ≡ true) (λ i. group_of V i.side ≡ Some g) (λ i e. grouped_is (group_of V i.side) g e) (filter (in_group_of g) (in_order (item_before V) (cands q f)))
      (all_passed (in_group_of g) (in_order (item_before V) (cands q f)))))
      (λ t. picks_side 1 (items V) (taken V) t (item_before V) (waits_in V q) (λ i. passes V f i && is_free_item V U tx i) (in_group_of g)
      (open_side q t && ((pass_side f t && free_side t) && option_eq same_id (group_of V t) (Some g))) n (items_rising 1 V) (keeps t) (by_side q f g t))

  cand_free : (q : Bytes) (f : Filter) → AllByRecursion (λ i. is_free_item V U tx i ≡ true) (in_order (item_before V) (cands q f))
  cand_free q f = all_in_order (λ i. is_free_item V U tx i ≡ true) (item_before V) (cands q f)
      (all_weaker (λ i. (passes V f i && is_free_item V U tx i) ≡ true) (λ i. is_free_item V U tx i ≡ true) (λ i e. both_right (passes V f i) (is_free_item V U tx i) e) (cands q f)
      (all_passed (λ i. passes V f i && is_free_item V U tx i) (waiting V q)))

  -- what a pick gives is free, and its items are the first
  pub record PickIs (q : Bytes) (n : Option ℕ) (f : Filter) (p : Pick) : Type 0 where
    pub free : is_free U p.group tx ≡ true
    pub items_are : p.items ≡ first_items n (filter (in_group_of p.group) (in_order (item_before V) (cands q f)))

  pub pick_is : (q : Bytes) (n : Option ℕ) (f : Filter) (p : Pick) → pick_in V U tx q n f ≡ Some p → PickIs q n f p
  pick_is q n f p e = from (in_order (item_before V) (cands q f)) refl e (cand_free q f)
    where
      from : (zs : List Item) → in_order (item_before V) (cands q f) ≡ zs → pick_first V n zs ≡ Some p → AllByRecursion (λ i. is_free_item V U tx i ≡ true) (in_order (item_before V) (cands q f)) → PickIs q n f p
      from [] g h free = absurd (none h)
        where
          none : None ≡ Some p → ⊥
          none k = cc
      from (z ∷ zs) g h free =
          let got = map_some (λ k. record { group = k; items = first_items n (filter (in_group_of k) (z ∷ zs)) }) (group_of V z.side) p h in
          let first : is_free_item V U tx z ≡ true = (subst (AllByRecursion (λ i. is_free_item V U tx i ≡ true)) g free).0 in
          let same : got.0 ≡ p.group = ap (λ k. k.group) got.2 in
          record {
            free = ap (λ k. is_free U k tx) (sym same) ∙ sym (ap (λ o. option_map_or (λ k. is_free U k tx) o false) got.1) ∙ first;
            items_are = sym (ap (λ k. k.items) got.2) ∙ ap (λ k. first_items n (filter (in_group_of k) (z ∷ zs))) same ∙ ap (λ l. first_items n (filter (in_group_of p.group) l)) (sym g);
          }

  pub received_facts : (q : Bytes) (n : Option ℕ) (f : Filter) (p : Pick) → is_some (find_queue V q) ≡ true → pick_in V U tx q n f ≡ Some p → Facts (map (took q) p.items) (p.group ∷ [])
  received_facts q n f p named e =
      let is = pick_is q n f p e in
      subst (λ l. Facts (map (took q) l) (p.group ∷ [])) (sym is.items_are) (picked_facts q f n p.group named is.free)

  pub group_facts : (q : Bytes) (n : Option ℕ) (f : Filter) (p : Pick) → pick_in V U tx q n f ≡ Some p → Facts [] (p.group ∷ [])
  group_facts q n f p e = plain_facts [] (p.group ∷ []) (inr tt) tt tt ((pick_is q n f p e).free, tt)
