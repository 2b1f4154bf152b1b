-- The forms that a step of an instance takes: what each does to the open transactions by its acts.
use Rattle.std.proofs.Common.{◌≡◌, ℕ, Bool, true, false, List, [], ◌∷◌, ◌++◌, Option, Some, None, refl, sym, ◌∙◌, ap, subst, arith, cond, inl, inr, append-nil, map}
use Rattle.std.specs.Prelude.{filter, flat_map, find, not, ◌⊎◌, ◌==◌, ◌&&◌, ◌||◌}
use Rattle.std.specs.Option.{option_eq, option_map_or}
use Rattle.std.specs.List.{list_any, AllByRecursion}
use Rattle.std.proofs.lemmas.Bool.{eqb-true, eq-eqb}
use Rattle.std.proofs.lemmas.Bool.Decides.{nat_tests}
use Rattle.std.proofs.lemmas.List.Folds.{list_any-append}
use Rattle.std.proofs.lemmas.Option.{same_Some}
use Rattle.sb_log.specs.declared.identifiers.Handle.{Handle}
use Rattle.sb_log.specs.declared.identifiers.Who.{Who}
use Rattle.sb_log.specs.declared.entries.Entry.{Entry}
use Rattle.sb_log.specs.declared.entries.Entry.TheVariants.{Txn}
use Rattle.sb_log.specs.declared.entries.Op.{Op}
use Rattle.sb_model.specs.Sides.{same_id, same_who}
use Rattle.sb_model.specs.Transactions.{OpenTransaction, Owner, find_open, is_free}
use Rattle.sb_model.specs.Instance.{Part, down_with}
use Rattle.sb_model.specs.Replies.{Plan}
use Rattle.sb_model.specs.Rollbacks.{without_open, released}
use Rattle.sb_model.specs.Statements.{add_plan, with_plan, fresh_open, set_wait, txn_entries}
use Rattle.sb_model.specs.Histories.{Act, mark, Given, with_act, nothing_given, given_after, IsWholeTransaction}
use Rattle.sb_laws.proofs.Grow.{or_true_left, or_true_right, all_weaker}
use Rattle.sb_laws.specs.Waits.{HasNoCircle}
use Rattle.sb_laws.proofs.Circles.{no_circle_none, no_circle_without, no_circle_planned, no_circle_pushed}
use Rattle.sb_laws.proofs.Opens.{AreApart, Pairwise}
use Rattle.sb_laws.proofs.Acts.{who_self, AnyOf, Holds, Held, Through, Begins, so_far, ops_open, given_all, IsWholeBy, Effect, IsNoTxn, no_txns, given_one, not_shared, through_one}

clash : {P : Type 0} → true ≡ false → P
clash e = cc

-- an act of an instance on a transaction
abbrev pub act : Who → ℕ → List Handle → List Op → Bool → Bool → Act
act x tx groups ops commits ends = record { on = x; tx = tx; groups = groups; ops = ops; commits = commits; ends = ends }

abbrev pub ends_of : Who → List OpenTransaction → List Act
ends_of x opens = flat_map (λ o. mark x o.tx false true) opens

-- ---- what stays held

any_found : {X : Type 0} (P : X → Type 0) (q : X → Bool) (xs : List X) (x : X) → find q xs ≡ Some x → P x → AnyOf P xs
any_found P q [] x e h = cc
any_found {X = X} P q (y ∷ ys) x e h = by_test (q y) e (λ f. any_found P q ys x f h)
  where
    by_test : (b : Bool) → cond b (Some y) (find q ys) ≡ Some x → (find q ys ≡ Some x → AnyOf P ys) → P y ⊎ AnyOf P ys
    by_test true f rest = inl (subst P (sym (same_Some y x f)) h)
    by_test false f rest = inr (rest f)

any_map : {X : Type 0} (P Q : X → Type 0) (f : X → X) → ((x : X) → P x → Q (f x)) → (xs : List X) → AnyOf P xs → AnyOf Q (map f xs)
any_map P Q f g [] h = h
any_map P Q f g (x ∷ xs) (inl h) = inl (g x h)
any_map P Q f g (x ∷ xs) (inr h) = inr (any_map P Q f g xs h)

pub any_append : {X : Type 0} (P : X → Type 0) (xs ys : List X) → AnyOf P xs → AnyOf P (xs ++ ys)
any_append P [] ys h = absurd h
any_append P (x ∷ xs) ys (inl h) = inl h
any_append P (x ∷ xs) ys (inr h) = inr (any_append P xs ys h)

pub any_last : {X : Type 0} (P : X → Type 0) (xs : List X) (y : X) → P y → AnyOf P (xs ++ y ∷ [])
any_last P [] y h = inl h
any_last P (x ∷ xs) y h = inr (any_last P xs y h)

holds_released : (t tx : ℕ) (gs : List Handle) (o : OpenTransaction) → Holds tx gs o → Holds tx gs (released t o)
holds_released t tx gs o h = by_test (option_eq ◌==◌ o.waits_for (Some t))
  where
    by_test : (c : Bool) → Holds tx gs (cond c (record o { waits_for = None }) o)
    by_test true = h
    by_test false = h

held_without : (opens : List OpenTransaction) (t tx : ℕ) (gs : List Handle) → (t == tx) ≡ false → Held opens tx gs → Held (without_open opens t) tx gs
held_without opens t tx gs other h = any_map (Holds tx gs) (Holds tx gs) (released t) (holds_released t tx gs) (filter (λ o. not (o.tx == t)) opens) (left opens h)
  where
    turned : (m n : ℕ) → (m == n) ≡ false → (n == m) ≡ false
    turned m n e = grind (arith, nat_tests)

    left : (U : List OpenTransaction) → AnyOf (Holds tx gs) U → AnyOf (Holds tx gs) (filter (λ o. not (o.tx == t)) U)
    left [] k = k
    left (o ∷ U) (inl k) = by_test (o.tx == t) (subst (λ n. (n == t) ≡ false) (sym k.0) (turned t tx other))
      where
        by_test : (c : Bool) → c ≡ false → AnyOf (Holds tx gs) (cond (not c) (o ∷ filter (λ z. not (z.tx == t)) U) (filter (λ z. not (z.tx == t)) U))
        by_test true e = clash e
        by_test false e = inl k
    left (o ∷ U) (inr k) = by_test (o.tx == t) (left U k)
      where
        by_test : (c : Bool) → AnyOf (Holds tx gs) (filter (λ z. not (z.tx == t)) U) → AnyOf (Holds tx gs) (cond (not c) (o ∷ filter (λ z. not (z.tx == t)) U) (filter (λ z. not (z.tx == t)) U))
        by_test true rest = rest
        by_test false rest = inr rest

holds_added : (t : ℕ) (planned : Plan) (tx : ℕ) (gs : List Handle) (o : OpenTransaction) → Holds tx gs o → Holds tx gs (add_plan t planned o)
holds_added t planned tx gs o h = by_test (o.tx == t)
  where
    by_test : (c : Bool) → Holds tx gs (cond c (with_plan planned o) o)
    by_test true = (h.0, λ g e. list_any-append (same_id g) o.groups planned.groups ∙ or_true_left (list_any (same_id g) o.groups) (list_any (same_id g) planned.groups) (h.1 g e))
    by_test false = h

pub holds_waiting : (t on tx : ℕ) (gs : List Handle) (o : OpenTransaction) → Holds tx gs o → Holds tx gs (set_wait t on o)
holds_waiting t on tx gs o h = by_test (o.tx == t)
  where
    by_test : (c : Bool) → Holds tx gs (cond c (record o { waits_for = Some on }) o)
    by_test true = h
    by_test false = h

pub held_waiting : (opens : List OpenTransaction) (t on tx : ℕ) (gs : List Handle) → Held opens tx gs → Held (map (set_wait t on) opens) tx gs
held_waiting opens t on tx gs h = any_map (Holds tx gs) (Holds tx gs) (set_wait t on) (holds_waiting t on tx gs) opens h

-- ---- what is open

abbrev OpsOf : Option OpenTransaction → List Op
OpsOf o = option_map_or (λ z. z.ops) o []

-- a change of open transactions that leaves numbers, and the operations of this one
open_map : (f : OpenTransaction → OpenTransaction) (opens : List OpenTransaction) (tx : ℕ) → ((o : OpenTransaction) → (f o).tx ≡ o.tx) → ((o : OpenTransaction) → (o.tx == tx) ≡ true → (f o).ops ≡ o.ops) →
    ops_open opens tx ≡ ops_open (map f opens) tx
open_map f [] tx a b = refl
open_map f (o ∷ U) tx a b = by_test (o.tx == tx) refl (open_map f U tx a b)
  where
    by_test : (c : Bool) → (o.tx == tx) ≡ c → ops_open U tx ≡ ops_open (map f U) tx → OpsOf (cond c (Some o) (find_open U tx)) ≡ OpsOf (cond ((f o).tx == tx) (Some (f o)) (find_open (map f U) tx))
    by_test true e rest = sym (ap (λ d. OpsOf (cond d (Some (f o)) (find_open (map f U) tx))) (ap (λ n. n == tx) (a o) ∙ e) ∙ b o e)
    by_test false e rest = rest ∙ sym (ap (λ d. OpsOf (cond d (Some (f o)) (find_open (map f U) tx))) (ap (λ n. n == tx) (a o) ∙ e))

pub open_waiting : (opens : List OpenTransaction) (t on tx : ℕ) → ops_open opens tx ≡ ops_open (map (set_wait t on) opens) tx
open_waiting opens t on tx = open_map (set_wait t on) opens tx number (λ o e. same o)
  where
    number : (o : OpenTransaction) → (set_wait t on o).tx ≡ o.tx
    number o = by_test (o.tx == t)
      where
        by_test : (b : Bool) → (let z : OpenTransaction = cond b (record o { waits_for = Some on }) o in z.tx) ≡ o.tx
        by_test true = refl
        by_test false = refl

    same : (o : OpenTransaction) → (set_wait t on o).ops ≡ o.ops
    same o = by_test (o.tx == t)
      where
        by_test : (b : Bool) → (let z : OpenTransaction = cond b (record o { waits_for = Some on }) o in z.ops) ≡ o.ops
        by_test true = refl
        by_test false = refl

added_number : (t : ℕ) (planned : Plan) (o : OpenTransaction) → (add_plan t planned o).tx ≡ o.tx
added_number t planned o = by_test (o.tx == t)
  where
    by_test : (b : Bool) → (let z : OpenTransaction = cond b (with_plan planned o) o in z.tx) ≡ o.tx
    by_test true = refl
    by_test false = refl

open_others : (opens : List OpenTransaction) (t : ℕ) (planned : Plan) (tx : ℕ) → (t == tx) ≡ false → ops_open opens tx ≡ ops_open (map (add_plan t planned) opens) tx
open_others opens t planned tx other = open_map (add_plan t planned) opens tx (added_number t planned) same
  where
    apart : (m n k : ℕ) → (n == m) ≡ false → (k == m) ≡ true → (k == n) ≡ false
    apart m n k e f = grind (arith, nat_tests)

    same : (o : OpenTransaction) → (o.tx == tx) ≡ true → (add_plan t planned o).ops ≡ o.ops
    same o e = ap (λ b. let z : OpenTransaction = cond b (with_plan planned o) o in z.ops) (apart tx t o.tx other e)

open_added : (opens : List OpenTransaction) (tx : ℕ) (planned : Plan) (o : OpenTransaction) → find_open opens tx ≡ Some o → ops_open (map (add_plan tx planned) opens) tx ≡ ops_open opens tx ++ planned.ops
open_added [] tx planned o e = absurd (none e)
  where
    none : None ≡ Some o → ⊥
    none f = cc
open_added (h ∷ U) tx planned o e = by_test (h.tx == tx) refl e (open_added U tx planned o)
  where
    by_test : (c : Bool) → (h.tx == tx) ≡ c → cond c (Some h) (find_open U tx) ≡ Some o → (find_open U tx ≡ Some o → ops_open (map (add_plan tx planned) U) tx ≡ ops_open U tx ++ planned.ops) →
        OpsOf (cond (let z : OpenTransaction = cond c (with_plan planned h) h in z.tx == tx) (Some (cond c (with_plan planned h) h)) (find_open (map (add_plan tx planned) U) tx)) ≡ OpsOf (cond c (Some h) (find_open U tx)) ++ planned.ops
    by_test true f g rest = ap (λ d. OpsOf (cond d (Some (with_plan planned h)) (find_open (map (add_plan tx planned) U) tx))) f
    by_test false f g rest = ap (λ d. OpsOf (cond d (Some h) (find_open (map (add_plan tx planned) U) tx))) f ∙ rest g

open_without_other : (opens : List OpenTransaction) (t tx : ℕ) → (t == tx) ≡ false → ops_open opens tx ≡ ops_open (without_open opens t) tx
open_without_other opens t tx other = left opens ∙ open_map (released t) (filter (λ o. not (o.tx == t)) opens) tx number (λ o e. same o)
  where
    number : (o : OpenTransaction) → (released t o).tx ≡ o.tx
    number o = by_test (option_eq ◌==◌ o.waits_for (Some t))
      where
        by_test : (b : Bool) → (let z : OpenTransaction = cond b (record o { waits_for = None }) o in z.tx) ≡ o.tx
        by_test true = refl
        by_test false = refl

    same : (o : OpenTransaction) → (released t o).ops ≡ o.ops
    same o = by_test (option_eq ◌==◌ o.waits_for (Some t))
      where
        by_test : (b : Bool) → (let z : OpenTransaction = cond b (record o { waits_for = None }) o in z.ops) ≡ o.ops
        by_test true = refl
        by_test false = refl

    apart : (m n k : ℕ) → (n == m) ≡ false → (k == n) ≡ true → (k == m) ≡ false
    apart m n k e f = grind (arith, nat_tests)

    left : (U : List OpenTransaction) → ops_open U tx ≡ ops_open (filter (λ o. not (o.tx == t)) U) tx
    left [] = refl
    left (o ∷ U) = by_test (o.tx == t) refl (left U)
      where
        by_number : (c : Bool) → ops_open U tx ≡ ops_open (filter (λ z. not (z.tx == t)) U) tx → OpsOf (cond c (Some o) (find_open U tx)) ≡ OpsOf (cond c (Some o) (find_open (filter (λ z. not (z.tx == t)) U) tx))
        by_number true rest = refl
        by_number false rest = rest

        by_test : (b : Bool) → (o.tx == t) ≡ b → ops_open U tx ≡ ops_open (filter (λ z. not (z.tx == t)) U) tx →
            OpsOf (cond (o.tx == tx) (Some o) (find_open U tx)) ≡ ops_open (cond (not b) (o ∷ filter (λ z. not (z.tx == t)) U) (filter (λ z. not (z.tx == t)) U)) tx
        by_test true e rest = ap (λ d. OpsOf (cond d (Some o) (find_open U tx))) (apart tx t o.tx other e) ∙ rest
        by_test false e rest = by_number (o.tx == tx) rest

open_without_own : (opens : List OpenTransaction) (t : ℕ) → ops_open (without_open opens t) t ≡ []
open_without_own opens t = none opens
  where
    number : (o : OpenTransaction) → (released t o).tx ≡ o.tx
    number o = by_test (option_eq ◌==◌ o.waits_for (Some t))
      where
        by_test : (b : Bool) → (let z : OpenTransaction = cond b (record o { waits_for = None }) o in z.tx) ≡ o.tx
        by_test true = refl
        by_test false = refl

    none : (U : List OpenTransaction) → ops_open (map (released t) (filter (λ o. not (o.tx == t)) U)) t ≡ []
    none [] = refl
    none (o ∷ U) = by_test (o.tx == t) refl (none U)
      where
        by_test : (b : Bool) → (o.tx == t) ≡ b → ops_open (map (released t) (filter (λ z. not (z.tx == t)) U)) t ≡ [] → ops_open (map (released t) (cond (not b) (o ∷ filter (λ z. not (z.tx == t)) U) (filter (λ z. not (z.tx == t)) U))) t ≡ []
        by_test true e rest = rest
        by_test false e rest = ap (λ d. OpsOf (cond d (Some (released t o)) (find_open (map (released t) (filter (λ z. not (z.tx == t)) U)) t))) (ap (λ n. n == t) (number o) ∙ e) ∙ rest

pub open_pushed : (opens : List OpenTransaction) (o : OpenTransaction) (tx : ℕ) → o.ops ≡ [] → ops_open opens tx ≡ ops_open (opens ++ o ∷ []) tx
open_pushed [] o tx e = by_test (o.tx == tx)
  where
    by_test : (c : Bool) → [] ≡ option_map_or (λ z. z.ops) (cond c (Some o) None) []
    by_test true = sym e
    by_test false = refl
open_pushed (h ∷ U) o tx e = by_test (h.tx == tx) (open_pushed U o tx e)
  where
    by_test : (c : Bool) → ops_open U tx ≡ ops_open (U ++ o ∷ []) tx → option_map_or (λ z. z.ops) (cond c (Some h) (find_open U tx)) [] ≡ option_map_or (λ z. z.ops) (cond c (Some h) (find_open (U ++ o ∷ []) tx)) []
    by_test true rest = refl
    by_test false rest = rest

-- ---- all end

ends_on : (x : Who) (opens : List OpenTransaction) → AllByRecursion (λ a. a.on ≡ x) (ends_of x opens)
ends_on x [] = tt
ends_on x (o ∷ U) = (refl, ends_on x U)

ends_through : (x : Who) (tx : ℕ) (gs : List Handle) (opens : List OpenTransaction) (P : Type 0) → Held opens tx gs → Through x tx gs (ends_of x opens) P
ends_through x tx gs [] P h = absurd h
ends_through x tx gs (o ∷ U) P (inl h) = through_one x tx gs (act x o.tx [] [] false true) (ends_of x U) P refl (λ e. refl) (λ e. clash (sym (ap (λ b. b && true) (eq-eqb o.tx tx h.0)) ∙ e))
ends_through x tx gs (o ∷ U) P (inr h) = through_one x tx gs (act x o.tx [] [] false true) (ends_of x U) P refl (λ e. refl) (λ e. ends_through x tx gs U P h)

ends_begin : (x : Who) (after opens : List OpenTransaction) → Begins x after (ends_of x opens)
ends_begin x after [] = tt
ends_begin x after (o ∷ U) = (tt, ends_begin x after U)

ends_over : (x : Who) (t : ℕ) (g : Given) (opens : List OpenTransaction) → so_far g ≡ [] → so_far (given_all x t g (ends_of x opens)) ≡ []
ends_over x t g [] e = e
ends_over x t g (o ∷ U) e = ends_over x t (given_after x t g (act x o.tx [] [] false true)) U (given_one x t g (act x o.tx [] [] false true) refl ∙ by_test (o.tx == t))
  where
    by_test : (c : Bool) → cond c [] (so_far g) ≡ []
    by_test true = refl
    by_test false = e

ends_given : (x : Who) (t : ℕ) (g : Given) (opens : List OpenTransaction) → so_far g ≡ ops_open opens t → so_far (given_all x t g (ends_of x opens)) ≡ []
ends_given x t g [] e = e
ends_given x t g (o ∷ U) e = by_test (o.tx == t) refl e (λ z f. ends_given x t z U f)
  where
    by_test : (c : Bool) → (o.tx == t) ≡ c → so_far g ≡ OpsOf (cond c (Some o) (find_open U t)) → ((z : Given) → so_far z ≡ ops_open U t → so_far (given_all x t z (ends_of x U)) ≡ []) →
        so_far (given_all x t (given_after x t g (act x o.tx [] [] false true)) (ends_of x U)) ≡ []
    by_test true f k rest = ends_over x t (given_after x t g (act x o.tx [] [] false true)) U (given_one x t g (act x o.tx [] [] false true) refl ∙ ap (λ c. cond c [] (so_far g)) f)
    by_test false f k rest = rest (given_after x t g (act x o.tx [] [] false true)) (given_one x t g (act x o.tx [] [] false true) refl ∙ ap (λ c. cond c [] (so_far g)) f ∙ k)

not_its : (x : Who) (t : ℕ) (g : Given) (a : Act) → (a.tx == t) ≡ false → given_after x t g a ≡ g
not_its x t g a e = ap (λ c. cond (same_who a.on x && c) (with_act (cond g.over nothing_given g) a) g) e ∙ by_test (same_who a.on x)
  where
    by_test : (b : Bool) → cond (b && false) (with_act (cond g.over nothing_given g) a) g ≡ g
    by_test true = refl
    by_test false = refl

its_own : (x : Who) (t : ℕ) (g : Given) (a : Act) → a.on ≡ x → (a.tx == t) ≡ true → given_after x t g a ≡ with_act (cond g.over nothing_given g) a
its_own x t g a on e = ap (λ c. cond (same_who a.on x && c) (with_act (cond g.over nothing_given g) a) g) e ∙ ap (λ b. cond (b && true) (with_act (cond g.over nothing_given g) a) g) (ap (λ y. same_who y x) on ∙ who_self x)

ends_others : (x : Who) (t : ℕ) (g : Given) (opens : List OpenTransaction) → AllByRecursion (λ b. (b.tx == t) ≡ false) opens → given_all x t g (ends_of x opens) ≡ g
ends_others x t g [] h = refl
ends_others x t g (o ∷ U) h = ap (λ k. given_all x t k (ends_of x U)) (not_its x t g (act x o.tx [] [] false true) h.0) ∙ ends_others x t g U h.1

ends_own : (x : Who) (t : ℕ) (g : Given) (opens : List OpenTransaction) (o : OpenTransaction) → Pairwise AreApart opens → find_open opens t ≡ Some o →
    given_all x t g (ends_of x opens) ≡ with_act (cond g.over nothing_given g) (act x t [] [] false true)
ends_own x t g [] o p e = absurd (none e)
  where
    none : None ≡ Some o → ⊥
    none f = cc
ends_own x t g (h ∷ U) o p e = by_test (h.tx == t) refl e (λ f. ends_own x t g U o p.1 f)
  where
    apart : (m n k : ℕ) → (m == n) ≡ true → (m == k) ≡ false → (k == n) ≡ false
    apart m n k a b = grind (arith, nat_tests)

    by_test : (c : Bool) → (h.tx == t) ≡ c → cond c (Some h) (find_open U t) ≡ Some o → (find_open U t ≡ Some o → given_all x t g (ends_of x U) ≡ with_act (cond g.over nothing_given g) (act x t [] [] false true)) →
        given_all x t (given_after x t g (act x h.tx [] [] false true)) (ends_of x U) ≡ with_act (cond g.over nothing_given g) (act x t [] [] false true)
    by_test true f k rest = ends_others x t (given_after x t g (act x h.tx [] [] false true)) U (all_weaker (AreApart h) (λ b. (b.tx == t) ≡ false) (λ b r. apart h.tx t b.tx f r.txs) U p.0)
        ∙ its_own x t g (act x h.tx [] [] false true) refl f
    by_test false f k rest = ap (λ z. given_all x t z (ends_of x U)) (not_its x t g (act x h.tx [] [] false true) f) ∙ rest k

-- an instance goes down, with entries in doubt that are no transactions
pub effect_falls : (p : Part) (es : List Entry) → AllByRecursion IsNoTxn es → Effect p (down_with p es) (ends_of p.who p.open_txns) []
effect_falls p es none = record {
  ranked = λ k. no_circle_none;
  on = ends_on p.who p.open_txns;
  kept = λ tx gs h. ends_through p.who tx gs p.open_txns (Held [] tx gs) h;
  begun = ends_begin p.who [] p.open_txns;
  given = λ tx g e. ends_given p.who tx g p.open_txns e;
  whole = tt;
  doubt = inl (no_txns p.who p.open_txns (ends_of p.who p.open_txns) es none);
}

all_txn : (P : Entry → Type 0) (tx : ℕ) (ops : List Op) → P (Txn tx ops) → AllByRecursion P (txn_entries tx ops)
all_txn P tx [] h = tt
all_txn P tx (op ∷ ops) h = (h, tt)

so_far_is : (g : Given) → (let k : Given = cond g.over nothing_given g in k.ops) ≡ so_far g
so_far_is g = by_test g.over
  where
    by_test : (c : Bool) → (let k : Given = cond c nothing_given g in k.ops) ≡ cond c [] g.ops
    by_test true = refl
    by_test false = refl

or_second : (b : Bool) → (b || true) ≡ true
or_second true = refl
or_second false = refl

ops_found : (opens : List OpenTransaction) (o : OpenTransaction) → find_open opens o.tx ≡ Some o → ops_open opens o.tx ≡ o.ops
ops_found opens o e = ap OpsOf e

module _ (p : Part) (pairs : Pairwise AreApart p.open_txns) (o : OpenTransaction) (found : find_open p.open_txns o.tx ≡ Some o) where
  abbrev x : Who
  x = p.who

  abbrev U : List OpenTransaction
  U = p.open_txns

  -- a commit whose write fails
  pub effect_commit_falls : (es : List Entry) → AllByRecursion IsNoTxn es ⊎ (es ≡ txn_entries o.tx o.ops) → Effect p (down_with p es) (act p.who o.tx [] [] true false ∷ ends_of p.who p.open_txns) []
  effect_commit_falls es which = record {
    ranked = λ k. no_circle_none;
    on = (refl, ends_on x U);
    kept = λ tx gs h. through_one x tx gs (act x o.tx [] [] true false) (ends_of x U) (Held [] tx gs) refl (λ e. refl) (λ e. ends_through x tx gs U (Held [] tx gs) h);
    begun = (ends_through x o.tx [] U (Held [] o.tx []) (any_found (Holds o.tx []) (λ z. z.tx == o.tx) U o found (refl, λ g e. clash (sym e))), ends_begin x [] U);
    given = λ tx g e. ends_given x tx (given_after x tx g (act x o.tx [] [] true false)) U (given_one x tx g (act x o.tx [] [] true false) refl ∙ by_test (so_far g) (o.tx == tx) ∙ e);
    whole = tt;
    doubt = inl (by_which which);
  }
    where
      by_test : (ops : List Op) (c : Bool) → cond c (ops ++ []) ops ≡ ops
      by_test ops true = append-nil ops
      by_test ops false = refl

      entry_whole : IsWholeBy x U (act x o.tx [] [] true false ∷ ends_of x U) (Txn o.tx o.ops)
      entry_whole g e =
          let first : given_after x o.tx g (act x o.tx [] [] true false) ≡ with_act (cond g.over nothing_given g) (act x o.tx [] [] true false) = its_own x o.tx g (act x o.tx [] [] true false) refl (eq-eqb o.tx o.tx refl) in
          let whole : given_all x o.tx g (act x o.tx [] [] true false ∷ ends_of x U) ≡ with_act (with_act (cond g.over nothing_given g) (act x o.tx [] [] true false)) (act x o.tx [] [] false true) =
          ap (λ k. given_all x o.tx k (ends_of x U)) first ∙ ends_own x o.tx (with_act (cond g.over nothing_given g) (act x o.tx [] [] true false)) U o pairs found in
          subst (λ k. IsWholeTransaction k o.ops) (sym whole) (record {
            all = sym (append-nil ((let k : Given = cond g.over nothing_given g in k.ops) ++ []) ∙ append-nil (let k : Given = cond g.over nothing_given g in k.ops) ∙ so_far_is g ∙ e ∙ ops_found U o found);
            committed = or_true_left ((let k : Given = cond g.over nothing_given g in k.committed) || true) false (or_second (let k : Given = cond g.over nothing_given g in k.committed));
            over = refl;
          })

      by_which : AllByRecursion IsNoTxn es ⊎ (es ≡ txn_entries o.tx o.ops) → AllByRecursion (IsWholeBy x U (act x o.tx [] [] true false ∷ ends_of x U)) es
      by_which (inl none) = no_txns x U (act x o.tx [] [] true false ∷ ends_of x U) es none
      by_which (inr e) = subst (AllByRecursion (IsWholeBy x U (act x o.tx [] [] true false ∷ ends_of x U))) (sym e) (all_txn (IsWholeBy x U (act x o.tx [] [] true false ∷ ends_of x U)) o.tx o.ops entry_whole)

  -- the transaction ends, with a commit or without
  pub effect_ends : (q : Part) (commits : Bool) (added : List Entry) → q.open_txns ≡ without_open p.open_txns o.tx → q.doubt ≡ [] → AllByRecursion IsNoTxn added ⊎ ((commits ≡ true) × (added ≡ txn_entries o.tx o.ops)) →
      Effect p q (act p.who o.tx [] [] commits true ∷ []) added
  effect_ends q commits added opens doubt which = record {
    ranked = λ k. subst HasNoCircle (sym opens) (no_circle_without U o.tx k);
    on = (refl, tt);
    kept = λ tx gs h. through_one x tx gs (act x o.tx [] [] commits true) [] (Held q.open_txns tx gs) refl (λ e. refl)
        (λ e. subst (λ V. Held V tx gs) (sym opens) (held_without U o.tx tx gs (not_and (o.tx == tx) e) h));
    begun = (tt, tt);
    given = λ tx g e. given_one x tx g (act x o.tx [] [] commits true) refl ∙ by_test tx g (o.tx == tx) refl e ∙ ap (λ V. ops_open V tx) (sym opens);
    whole = by_which which;
    doubt = inl (subst (AllByRecursion (IsWholeBy x U (act x o.tx [] [] commits true ∷ []))) (sym doubt) tt);
  }
    where
      not_and : (b : Bool) → (b && true) ≡ false → b ≡ false
      not_and true e = e
      not_and false e = refl

      by_test : (tx : ℕ) (g : Given) (c : Bool) → (o.tx == tx) ≡ c → so_far g ≡ ops_open U tx → cond c [] (so_far g) ≡ ops_open (without_open U o.tx) tx
      by_test tx g true e f = sym (subst (λ t. ops_open (without_open U o.tx) t ≡ []) (eqb-true o.tx tx e) (open_without_own U o.tx))
      by_test tx g false e f = f ∙ open_without_other U o.tx tx e

      entry_whole : commits ≡ true → IsWholeBy x U (act x o.tx [] [] commits true ∷ []) (Txn o.tx o.ops)
      entry_whole c g e = subst (λ k. IsWholeTransaction k o.ops) (sym (its_own x o.tx g (act x o.tx [] [] commits true) refl (eq-eqb o.tx o.tx refl))) (record {
        all = sym (append-nil (let k : Given = cond g.over nothing_given g in k.ops) ∙ so_far_is g ∙ e ∙ ops_found U o found);
        committed = ap (λ b. (let k : Given = cond g.over nothing_given g in k.committed) || b) c ∙ or_second (let k : Given = cond g.over nothing_given g in k.committed);
        over = refl;
      })

      by_which : AllByRecursion IsNoTxn added ⊎ ((commits ≡ true) × (added ≡ txn_entries o.tx o.ops)) → AllByRecursion (IsWholeBy x U (act x o.tx [] [] commits true ∷ [])) added
      by_which (inl none) = no_txns x U (act x o.tx [] [] commits true ∷ []) added none
      by_which (inr k) = subst (AllByRecursion (IsWholeBy x U (act x o.tx [] [] commits true ∷ []))) (sym k.1) (all_txn (IsWholeBy x U (act x o.tx [] [] commits true ∷ [])) o.tx o.ops (entry_whole k.0))

  -- a plan in the transaction
  pub effect_planned : (q : Part) (planned : Plan) → q.open_txns ≡ map (add_plan o.tx planned) p.open_txns → q.doubt ≡ p.doubt → p.doubt ≡ [] → AllByRecursion (λ g. is_free p.open_txns g o.tx ≡ true) planned.groups →
      Effect p q (act p.who o.tx planned.groups planned.ops false false ∷ []) []
  effect_planned q planned opens doubt none free = record {
    ranked = λ k. subst HasNoCircle (sym opens) (no_circle_planned U o.tx planned k);
    on = (refl, tt);
    kept = λ tx gs h. through_one x tx gs (act x o.tx planned.groups planned.ops false false) [] (Held q.open_txns tx gs) refl
        (λ e. not_shared U tx gs (act x o.tx planned.groups planned.ops false false) free e h)
        (λ e. subst (λ V. Held V tx gs) (sym opens) (any_map (Holds tx gs) (Holds tx gs) (add_plan o.tx planned) (holds_added o.tx planned tx gs) U h));
    begun = (subst (λ V. Held V o.tx planned.groups) (sym opens) own, tt);
    given = λ tx g e. given_one x tx g (act x o.tx planned.groups planned.ops false false) refl ∙ by_test tx g (o.tx == tx) refl e ∙ ap (λ V. ops_open V tx) (sym opens);
    whole = tt;
    doubt = inl (subst (AllByRecursion (IsWholeBy x U (act x o.tx planned.groups planned.ops false false ∷ []))) (sym (doubt ∙ none)) tt);
  }
    where
      by_test : (tx : ℕ) (g : Given) (c : Bool) → (o.tx == tx) ≡ c → so_far g ≡ ops_open U tx → cond c (so_far g ++ planned.ops) (so_far g) ≡ ops_open (map (add_plan o.tx planned) U) tx
      by_test tx g true e f = subst (λ t. so_far g ≡ ops_open U t → so_far g ++ planned.ops ≡ ops_open (map (add_plan o.tx planned) U) t) (eqb-true o.tx tx e)
          (λ k. ap (λ l. l ++ planned.ops) k ∙ sym (open_added U o.tx planned o found)) f
      by_test tx g false e f = f ∙ open_others U o.tx planned tx e

      grown : Holds o.tx planned.groups (add_plan o.tx planned o)
      grown = subst (λ b. Holds o.tx planned.groups (cond b (with_plan planned o) o)) (sym (eq-eqb o.tx o.tx refl))
          (refl, λ g e. list_any-append (same_id g) o.groups planned.groups ∙ or_true_right (list_any (same_id g) o.groups) (list_any (same_id g) planned.groups) e)

      own : Held (map (add_plan o.tx planned) U) o.tx planned.groups
      own = any_map (λ z. z ≡ o) (Holds o.tx planned.groups) (add_plan o.tx planned) (λ z e. subst (λ k. Holds o.tx planned.groups (add_plan o.tx planned k)) (sym e) grown) U (any_found (λ z. z ≡ o) (λ z. z.tx == o.tx) U o found refl)

-- ---- a transaction of its own

module _ (p : Part) (next : ℕ) (below : AllByRecursion (λ b. (b.tx == next) ≡ false) p.open_txns) where
  abbrev y : Who
  y = p.who

  abbrev W : List OpenTransaction
  W = p.open_txns

  none_open : (V : List OpenTransaction) → AllByRecursion (λ b. (b.tx == next) ≡ false) V → ops_open V next ≡ []
  none_open [] h = refl
  none_open (o ∷ V) h = ap (λ c. OpsOf (cond c (Some o) (find_open V next))) h.0 ∙ none_open V h.1

  module _ (planned : Plan) (free : AllByRecursion (λ g. is_free p.open_txns g next ≡ true) planned.groups) where
    abbrev a : Act
    a = act p.who next planned.groups planned.ops true true

    still : (tx : ℕ) (g : Given) → so_far g ≡ ops_open W tx → so_far (given_after y tx g a) ≡ ops_open W tx
    still tx g e = given_one y tx g a refl ∙ by_test (next == tx) refl
      where
        by_test : (c : Bool) → (next == tx) ≡ c → cond c [] (so_far g) ≡ ops_open W tx
        by_test true f = sym (subst (λ t. ops_open W t ≡ []) (eqb-true next tx f) (none_open W below))
        by_test false f = e

    whole_given : (g : Given) → so_far g ≡ ops_open W next → IsWholeTransaction (given_after y next g a) planned.ops
    whole_given g e = subst (λ k. IsWholeTransaction k planned.ops) (sym (its_own y next g a refl (eq-eqb next next refl))) (record {
      all = sym (ap (λ l. l ++ planned.ops) (so_far_is g ∙ e ∙ none_open W below));
      committed = or_second (let k : Given = cond g.over nothing_given g in k.committed);
      over = refl;
    })

    pub effect_once : (q : Part) (added : List Entry) → q.open_txns ≡ p.open_txns → q.doubt ≡ [] → added ≡ txn_entries next planned.ops → Effect p q (act p.who next planned.groups planned.ops true true ∷ []) added
    effect_once q added opens doubt is = record {
      ranked = λ k. subst HasNoCircle (sym opens) k;
      on = (refl, tt);
      kept = λ tx gs h. through_one y tx gs a [] (Held q.open_txns tx gs) refl (λ e. not_shared W tx gs a free e h) (λ e. subst (λ V. Held V tx gs) (sym opens) h);
      begun = (tt, tt);
      given = λ tx g e. still tx g e ∙ ap (λ V. ops_open V tx) (sym opens);
      whole = subst (AllByRecursion (IsWholeBy y W (a ∷ []))) (sym is) (all_txn (IsWholeBy y W (a ∷ [])) next planned.ops whole_given);
      doubt = inl (subst (AllByRecursion (IsWholeBy y W (a ∷ []))) (sym doubt) tt);
    }

    pub effect_once_falls : (q : Part) → q.open_txns ≡ [] → q.doubt ≡ txn_entries next planned.ops → Effect p q (act p.who next planned.groups planned.ops true true ∷ ends_of p.who p.open_txns) []
    effect_once_falls q opens doubt = record {
      ranked = λ k. subst HasNoCircle (sym opens) no_circle_none;
      on = (refl, ends_on y W);
      kept = λ tx gs h. through_one y tx gs a (ends_of y W) (Held q.open_txns tx gs) refl (λ e. not_shared W tx gs a free e h) (λ e. ends_through y tx gs W (Held q.open_txns tx gs) h);
      begun = (tt, ends_begin y q.open_txns W);
      given = λ tx g e. ends_given y tx (given_after y tx g a) W (still tx g e) ∙ ap (λ V. ops_open V tx) (sym opens);
      whole = tt;
      doubt = inl (subst (AllByRecursion (IsWholeBy y W (a ∷ ends_of y W))) (sym doubt) (all_txn (IsWholeBy y W (a ∷ ends_of y W)) next planned.ops
          (λ g e. subst (λ k. IsWholeTransaction k planned.ops) (sym (ends_others y next (given_after y next g a) W below)) (whole_given g e))));
    }

  -- a reader starts with the group that it was started for
  pub effect_started : (q : Part) (owner : Owner) (group : Handle) → q.open_txns ≡ p.open_txns ++ fresh_open owner next (group ∷ []) ∷ [] → q.doubt ≡ [] → is_free p.open_txns group next ≡ true →
      Effect p q (act p.who next (group ∷ []) [] false false ∷ []) []
  effect_started q owner group opens doubt free = record {
    ranked = λ k. subst HasNoCircle (sym opens) (no_circle_pushed W (fresh_open owner next (group ∷ [])) refl k);
    on = (refl, tt);
    kept = λ tx gs h. through_one y tx gs (act y next (group ∷ []) [] false false) [] (Held q.open_txns tx gs) refl
        (λ e. not_shared W tx gs (act y next (group ∷ []) [] false false) (free, tt) e h) (λ e. subst (λ V. Held V tx gs) (sym opens) (any_append (Holds tx gs) W _ h));
    begun = (subst (λ V. Held V next (group ∷ [])) (sym opens) (any_last (Holds next (group ∷ [])) W (fresh_open owner next (group ∷ [])) (refl, λ g e. e)), tt);
    given = λ tx g e. given_one y tx g (act y next (group ∷ []) [] false false) refl ∙ by_test (so_far g) (next == tx) ∙ e ∙ open_pushed W (fresh_open owner next (group ∷ [])) tx refl ∙ ap (λ V. ops_open V tx) (sym opens);
    whole = tt;
    doubt = inl (subst (AllByRecursion (IsWholeBy y W (act y next (group ∷ []) [] false false ∷ []))) (sym doubt) tt);
  }
    where
      by_test : (ops : List Op) (c : Bool) → cond c (ops ++ []) ops ≡ ops
      by_test ops true = append-nil ops
      by_test ops false = refl
