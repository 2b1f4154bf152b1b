-- A wait that is allowed closes no circle: what is reached from where it leads is ranked above all else.
use Rattle.std.proofs.Common.{◌≡◌, ℕ, zero, suc, Bool, true, false, List, [], ◌∷◌, ◌++◌, ◌+◌, ◌≤◌, ◌<◌, Option, Some, None, refl, sym, ◌∙◌, ap, subst, length, arith, cond, map}
use Rattle.std.specs.Prelude.{filter, not, ◌==◌, ◌||◌, option_map, option_and_then}
use Rattle.std.specs.Option.{option_map_or, option_eq}
use Rattle.std.specs.List.{AllByRecursion}
use Rattle.std.proofs.lemmas.Bool.{eqb-true, eq-eqb}
use Rattle.std.proofs.lemmas.Bool.Decides.{nat_tests}
use Rattle.std.proofs.lemmas.Option.{same_Some}
use Rattle.sb_model.specs.Transactions.{OpenTransaction, find_open}
use Rattle.sb_model.specs.Statements.{chain, set_wait, add_plan, with_plan}
use Rattle.sb_model.specs.Replies.{Plan}
use Rattle.sb_model.specs.Rollbacks.{without_open, released}
use Rattle.sb_laws.proofs.Opens.{AreApart, Pairwise}
use Rattle.sb_laws.proofs.Parts.{all_map, all_with}
use Rattle.sb_laws.specs.Waits.{WaitsUp, HasNoCircle}
use Rattle.sb_laws.proofs.Grow.{all_append}
use Rattle.sb_laws.proofs.Taking.{all_filter}
use Rattle.sb_laws.proofs.Delivered.{found_passes}
use Rattle.sb_laws.proofs.PlanCases.{all_found}

clash : {P : Type 0} → true ≡ false → P
clash e = cc

abbrev next : List OpenTransaction → ℕ → Option ℕ
next U t = option_and_then (λ o. o.waits_for) (find_open U t)

-- the transaction that a chain of waits reaches after this many steps
abbrev walk : List OpenTransaction → ℕ → ℕ → Option ℕ
walk U zero t = Some t
walk U (suc k) t = option_and_then (walk U k) (next U t)

next_up : (rank : ℕ → ℕ) (U : List OpenTransaction) (t u : ℕ) → AllByRecursion (WaitsUp rank) U → next U t ≡ Some u → rank t < rank u
next_up rank U t u h e = by_found (find_open U t) refl e
  where
    by_found : (o : Option OpenTransaction) → find_open U t ≡ o → option_and_then (λ z. z.waits_for) o ≡ Some u → rank t < rank u
    by_found None f g = cc
    by_found (Some o) f g = subst (λ n. rank n < rank u) (eqb-true o.tx t (found_passes (λ z. z.tx == t) U o f)) (all_found (WaitsUp rank) (λ z. z.tx == t) U o h f u g)

abbrev without : List OpenTransaction → ℕ → List OpenTransaction
without U t = filter (λ o. not (o.tx == t)) U

find_without : (U : List OpenTransaction) (t v : ℕ) → (t == v) ≡ false → find_open (without U t) v ≡ find_open U v
find_without [] t v e = refl
find_without (o ∷ U) t v e = by_test (o.tx == t) refl (find_without U t v e)
  where
    apart : (m n k : ℕ) → (n == m) ≡ true → (m == k) ≡ false → (n == k) ≡ false
    apart m n k f g = grind (arith, nat_tests)

    by_test : (b : Bool) → (o.tx == t) ≡ b → find_open (without U t) v ≡ find_open U v → find_open (cond (not b) (o ∷ without U t) (without U t)) v ≡ cond (o.tx == v) (Some o) (find_open U v)
    by_test true f rest = rest ∙ sym (ap (λ d. cond d (Some o) (find_open U v)) (apart t o.tx v f e))
    by_test false f rest = ap (cond (o.tx == v) (Some o)) rest

length_filter : (U : List OpenTransaction) (t : ℕ) → length (without U t) ≤ length U
length_filter [] t = omega arith
length_filter (o ∷ U) t = by_test (o.tx == t) (length_filter U t)
  where
    by_test : (b : Bool) → length (without U t) ≤ length U → length (cond (not b) (o ∷ without U t) (without U t)) ≤ suc (length U)
    by_test true le = omega (arith, le)
    by_test false le = omega (arith, le)

length_without : (U : List OpenTransaction) (t : ℕ) (o : OpenTransaction) → find_open U t ≡ Some o → length (without U t) < length U
length_without [] t o e = cc
length_without (h ∷ U) t o e = by_test (h.tx == t) e (length_without U t o) (length_filter U t)
  where
    by_test : (b : Bool) → cond b (Some h) (find_open U t) ≡ Some o → (find_open U t ≡ Some o → length (without U t) < length U) → length (without U t) ≤ length U → length (cond (not b) (h ∷ without U t) (without U t)) < suc (length U)
    by_test true f rest le = omega (arith, le)
    by_test false f rest le = let lt = rest f in omega (arith, lt)

-- from a greater rank the chain never meets the transaction
walk_without : (rank : ℕ → ℕ) (U : List OpenTransaction) (t k v : ℕ) → AllByRecursion (WaitsUp rank) U → rank t < rank v → walk (without U t) k v ≡ walk U k v
walk_without rank U t zero v h lt = refl
walk_without rank U t (suc k) v h lt = ap (λ o. option_and_then (walk (without U t) k) (option_and_then (λ z. z.waits_for) o)) (find_without U t v apart) ∙ by_next (next U v) refl (λ u l. walk_without rank U t k u h l)
  where
    not_less : (n : ℕ) → n < n → ⊥
    not_less n l = absurd (omega (arith, l))

    apart : (t == v) ≡ false
    apart = by_test (t == v) refl
      where
        by_test : (b : Bool) → (t == v) ≡ b → (t == v) ≡ false
        by_test true f = absurd (not_less (rank v) (subst (λ z. rank z < rank v) (eqb-true t v f) lt))
        by_test false f = f

    by_next : (o : Option ℕ) → next U v ≡ o → ((u : ℕ) → rank t < rank u → walk (without U t) k u ≡ walk U k u) → option_and_then (walk (without U t) k) o ≡ option_and_then (walk U k) o
    by_next None e rest = refl
    by_next (Some u) e rest = let up = next_up rank U v u h e in rest u (omega (arith, lt, up))

-- a chain is no longer than there are transactions
walk_ends : (rank : ℕ → ℕ) (n : ℕ) (U : List OpenTransaction) (t : ℕ) → AllByRecursion (WaitsUp rank) U → length U ≤ n → walk U (suc n) t ≡ None
walk_ends rank zero U t h le = by_found (find_open U t) refl
  where
    by_found : (o : Option OpenTransaction) → find_open U t ≡ o → option_and_then (walk U zero) (option_and_then (λ z. z.waits_for) o) ≡ None
    by_found None e = refl
    by_found (Some o) e = let lt = length_without U t o e in absurd (omega (arith, lt, le))
walk_ends rank (suc n) U t h le = by_found (find_open U t) refl
    (λ u lt shorter. sym (walk_without rank U t (suc n) u h lt) ∙ walk_ends rank n (without U t) u (all_filter (WaitsUp rank) (λ o. not (o.tx == t)) U h) shorter)
  where
    by_next : (o : OpenTransaction) → find_open U t ≡ Some o → (z : Option ℕ) → next U t ≡ z → ((u : ℕ) → rank t < rank u → length (without U t) ≤ n → walk U (suc n) u ≡ None) → option_and_then (walk U (suc n)) z ≡ None
    by_next o e None f rest = refl
    by_next o e (Some u) f rest = rest u (next_up rank U t u h f) (let lt = length_without U t o e in omega (arith, lt, le))

    by_found : (o : Option OpenTransaction) → find_open U t ≡ o → ((u : ℕ) → rank t < rank u → length (without U t) ≤ n → walk U (suc n) u ≡ None) → option_and_then (walk U (suc n)) (option_and_then (λ z. z.waits_for) o) ≡ None
    by_found None e rest = refl
    by_found (Some o) e rest = by_next o e o.waits_for (ap (option_and_then (λ z. z.waits_for)) e) rest

-- ---- what a chain visits

abbrev visits : List OpenTransaction → ℕ → ℕ → ℕ → Bool
visits U zero v t = false
visits U (suc k) v t = (v == t) || option_map_or (λ u. visits U k u t) (next U v) false

-- a chain that leads back nowhere never visits
unvisited : (U : List OpenTransaction) (own : ℕ) (steps : List OpenTransaction) (v : ℕ) → chain U own steps v ≡ None → visits U (length steps) v own ≡ false
unvisited U own [] v e = refl
unvisited U own (s ∷ steps) v e = by_here (v == own) e (λ u f. unvisited U own steps u f)
  where
    by_next : (o : Option ℕ) → option_map (λ txs. v ∷ txs) (option_and_then (chain U own steps) o) ≡ None → ((u : ℕ) → chain U own steps u ≡ None → visits U (length steps) u own ≡ false) → option_map_or (λ u. visits U (length steps) u own) o false ≡ false
    by_next None f rest = refl
    by_next (Some u) f rest = rest u (inner (chain U own steps u) f)
      where
        inner : (o : Option (List ℕ)) → option_map (λ txs. v ∷ txs) o ≡ None → o ≡ None
        inner None g = refl
        inner (Some txs) g = cc

    by_here : (b : Bool) → cond b (Some []) (option_map (λ txs. v ∷ txs) (option_and_then (chain U own steps) (next U v))) ≡ None → ((u : ℕ) → chain U own steps u ≡ None → visits U (length steps) u own ≡ false) →
        (b || option_map_or (λ u. visits U (length steps) u own) (next U v) false) ≡ false
    by_here true f rest = cc
    by_here false f rest = by_next (next U v) f rest

-- what follows a visited transaction is visited, where the chain ends in time
visits_next : (U : List OpenTransaction) (k v t u : ℕ) → walk U k v ≡ None → visits U k v t ≡ true → next U t ≡ Some u → visits U k v u ≡ true
visits_next U zero v t u ends e f = clash (sym e)
visits_next U (suc k) v t u ends e f = by_here (v == t) refl e (λ z g i. visits_next U k z t u g i f)
  where
    or_last : (b c : Bool) → c ≡ true → (b || c) ≡ true
    or_last true c g = refl
    or_last false c g = g

    itself : (j : ℕ) → walk U j u ≡ None → visits U j u u ≡ true
    itself zero g = cc
    itself (suc j) g = ap (λ b. b || option_map_or (λ z. visits U j z u) (next U u) false) (eq-eqb u u refl)

    by_next : (o : Option ℕ) → next U v ≡ o → option_and_then (walk U k) o ≡ None → option_map_or (λ z. visits U k z t) o false ≡ true → ((z : ℕ) → walk U k z ≡ None → visits U k z t ≡ true → visits U k z u ≡ true) → option_map_or (λ z. visits U k z u) o false ≡ true
    by_next None g i j rest = clash (sym j)
    by_next (Some z) g i j rest = rest z i j

    by_here : (b : Bool) → (v == t) ≡ b → (b || option_map_or (λ z. visits U k z t) (next U v) false) ≡ true → ((z : ℕ) → walk U k z ≡ None → visits U k z t ≡ true → visits U k z u ≡ true) → ((v == u) || option_map_or (λ z. visits U k z u) (next U v) false) ≡ true
    by_here true g i rest =
        let is : next U v ≡ Some u = ap (next U) (eqb-true v t g) ∙ f in
        or_last (v == u) (option_map_or (λ z. visits U k z u) (next U v) false) (ap (λ o. option_map_or (λ z. visits U k z u) o false) is ∙ itself k (sym (ap (option_and_then (walk U k)) is) ∙ ends))
    by_here false g i rest = or_last (v == u) (option_map_or (λ z. visits U k z u) (next U v) false) (by_next (next U v) refl ends i rest)

-- ---- one more wait

all_find : (U : List OpenTransaction) → Pairwise AreApart U → AllByRecursion (λ b. find_open U b.tx ≡ Some b) U
all_find [] p = tt
all_find (h ∷ U) p = (ap (λ c. cond c (Some h) (find_open U h.tx)) (eq-eqb h.tx h.tx refl), all_with (AreApart h) (λ b. find_open U b.tx ≡ Some b) (λ b. find_open (h ∷ U) b.tx ≡ Some b) (λ b r e. ap (λ c. cond c (Some h) (find_open U b.tx)) r.txs ∙ e) U p.0 (all_find U p.1))

pub waits_no_circle : (U : List OpenTransaction) (own on : ℕ) (o : OpenTransaction) → Pairwise AreApart U → chain U own (o ∷ U) on ≡ None → HasNoCircle U → HasNoCircle (map (set_wait own on) U)
waits_no_circle U own on o pairs back h = (raised, all_map (λ b. WaitsUp h.0 b × (find_open U b.tx ≡ Some b)) (WaitsUp raised) (set_wait own on) one U (all_with (WaitsUp h.0) (λ b. find_open U b.tx ≡ Some b) (λ b. WaitsUp h.0 b × (find_open U b.tx ≡ Some b)) (λ b k e. (k, e)) U h.1 (all_find U pairs)))
  where
    raised : ℕ → ℕ
    raised t = cond (visits U (suc (length U)) on t) (h.0 t + (h.0 own + 1)) (h.0 t)

    ends : walk U (suc (length U)) on ≡ None
    ends = walk_ends h.0 (length U) U on h.1 (omega arith)

    own_stays : cond (visits U (suc (length U)) on own) (h.0 own + (h.0 own + 1)) (h.0 own) ≡ h.0 own
    own_stays = ap (λ c. cond c (h.0 own + (h.0 own + 1)) (h.0 own)) (unvisited U own (o ∷ U) on back)

    on_rises : cond (visits U (suc (length U)) on on) (h.0 on + (h.0 own + 1)) (h.0 on) ≡ h.0 on + (h.0 own + 1)
    on_rises = ap (λ c. cond (c || option_map_or (λ u. visits U (length U) u on) (next U on) false) (h.0 on + (h.0 own + 1)) (h.0 on)) (eq-eqb on on refl)

    new_wait : cond (visits U (suc (length U)) on own) (h.0 own + (h.0 own + 1)) (h.0 own) < cond (visits U (suc (length U)) on on) (h.0 on + (h.0 own + 1)) (h.0 on)
    new_wait = omega (arith, own_stays, on_rises)

    old_wait : (t u : ℕ) → next U t ≡ Some u → h.0 t < h.0 u → cond (visits U (suc (length U)) on t) (h.0 t + (h.0 own + 1)) (h.0 t) < cond (visits U (suc (length U)) on u) (h.0 u + (h.0 own + 1)) (h.0 u)
    old_wait t u e lt = by_visit (visits U (suc (length U)) on t) refl (visits U (suc (length U)) on u) refl
      where
        by_visit : (c : Bool) → visits U (suc (length U)) on t ≡ c → (d : Bool) → visits U (suc (length U)) on u ≡ d → cond c (h.0 t + (h.0 own + 1)) (h.0 t) < cond d (h.0 u + (h.0 own + 1)) (h.0 u)
        by_visit true f true g = omega (arith, lt)
        by_visit false f true g = omega (arith, lt)
        by_visit false f false g = lt
        by_visit true f false g = clash (sym (visits_next U (suc (length U)) on t u ends f e) ∙ g)

    one : (b : OpenTransaction) → WaitsUp h.0 b × (find_open U b.tx ≡ Some b) → WaitsUp raised (set_wait own on b)
    one b k = by_test (b.tx == own) refl
      where
        by_test : (c : Bool) → (b.tx == own) ≡ c → WaitsUp raised (cond c (record b { waits_for = Some on }) b)
        by_test true e u f = subst (λ z. raised z < raised u) (sym (eqb-true b.tx own e)) (subst (λ z. raised own < raised z) (same_Some on u f) new_wait)
        by_test false e u f = old_wait b.tx u (ap (option_and_then (λ z. z.waits_for)) k.1 ∙ f) (k.0 u f)

-- ---- all else keeps the ranks

pub no_circle_map : (f : OpenTransaction → OpenTransaction) (U : List OpenTransaction) → ((o : OpenTransaction) → (f o).tx ≡ o.tx) → ((o : OpenTransaction) (on : ℕ) → (f o).waits_for ≡ Some on → o.waits_for ≡ Some on) → HasNoCircle U → HasNoCircle (map f U)
no_circle_map f U number waits h = (h.0, all_map (WaitsUp h.0) (WaitsUp h.0) f (λ o k on e. subst (λ n. h.0 n < h.0 on) (sym (number o)) (k on (waits o on e))) U h.1)

pub no_circle_without : (U : List OpenTransaction) (t : ℕ) → HasNoCircle U → HasNoCircle (without_open U t)
no_circle_without U t h = no_circle_map (released t) (filter (λ o. not (o.tx == t)) U) number waits (h.0, all_filter (WaitsUp h.0) (λ o. not (o.tx == t)) U h.1)
  where
    number : (o : OpenTransaction) → (released t o).tx ≡ o.tx
    number o = by_test (option_eq ◌==◌ o.waits_for (Some t))
      where
        by_test : (b : Bool) → (let z : OpenTransaction = cond b (record o { waits_for = None }) o in z.tx) ≡ o.tx
        by_test true = refl
        by_test false = refl

    waits : (o : OpenTransaction) (on : ℕ) → (released t o).waits_for ≡ Some on → o.waits_for ≡ Some on
    waits o on = by_test (option_eq ◌==◌ o.waits_for (Some t))
      where
        by_test : (b : Bool) → (let z : OpenTransaction = cond b (record o { waits_for = None }) o in z.waits_for) ≡ Some on → o.waits_for ≡ Some on
        by_test true e = cc
        by_test false e = e

pub no_circle_planned : (U : List OpenTransaction) (t : ℕ) (planned : Plan) → HasNoCircle U → HasNoCircle (map (add_plan t planned) U)
no_circle_planned U t planned h = no_circle_map (add_plan t planned) U number waits h
  where
    number : (o : OpenTransaction) → (add_plan t planned o).tx ≡ o.tx
    number o = by_test (o.tx == t)
      where
        by_test : (b : Bool) → (let z : OpenTransaction = cond b (with_plan planned o) o in z.tx) ≡ o.tx
        by_test true = refl
        by_test false = refl

    waits : (o : OpenTransaction) (on : ℕ) → (add_plan t planned o).waits_for ≡ Some on → o.waits_for ≡ Some on
    waits o on = by_test (o.tx == t)
      where
        by_test : (b : Bool) → (let z : OpenTransaction = cond b (with_plan planned o) o in z.waits_for) ≡ Some on → o.waits_for ≡ Some on
        by_test true e = e
        by_test false e = e

pub no_circle_pushed : (U : List OpenTransaction) (o : OpenTransaction) → o.waits_for ≡ None → HasNoCircle U → HasNoCircle (U ++ o ∷ [])
no_circle_pushed U o none h = (h.0, all_append (WaitsUp h.0) U (o ∷ []) h.1 ((λ on e. absurd (clash_none (sym none ∙ e))), tt))
  where
    clash_none : {on : ℕ} → None ≡ Some on → ⊥
    clash_none {on = on} e = cc

pub no_circle_none : HasNoCircle []
no_circle_none = ((λ n. n), tt)
