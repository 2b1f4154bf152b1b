-- What the acts of a step are to the open transactions: whose groups stay held, and which operations were given so far.
use Rattle.std.proofs.Common.{◌≡◌, ℕ, Bool, true, false, List, [], ◌∷◌, ◌++◌, refl, sym, ◌∙◌, ap, subst, arith, cond, inl, inr}
use Rattle.std.specs.Prelude.{fold, not, IsTrue, MatchBool, ⊤, ◌⊎◌, ◌==◌, ◌&&◌, ◌||◌}
use Rattle.std.specs.Option.{option_map_or}
use Rattle.std.specs.List.{list_any, AllByRecursion}
use Rattle.std.proofs.lemmas.Bool.Decides.{nat_tests}
use Rattle.sb_log.specs.declared.identifiers.Handle.{Handle}
use Rattle.sb_log.specs.declared.identifiers.Who.{Who}
use Rattle.sb_log.specs.declared.identifiers.Who.TheVariants.{A, B}
use Rattle.sb_log.specs.declared.entries.Entry.{Entry}
use Rattle.sb_log.specs.declared.entries.Entry.TheVariants.{Defined, Txn, Accepted, Acked, Fired, Expired, QueueSet}
use Rattle.sb_log.specs.declared.entries.Op.{Op}
use Rattle.sb_model.specs.Sides.{same_id, same_who}
use Rattle.sb_model.specs.Transactions.{OpenTransaction, find_open, is_free}
use Rattle.sb_model.specs.Instance.{Part}
use Rattle.sb_model.specs.Histories.{Act, is_of_txn, shares, HoldsAlone, AllHoldAlone, Given, with_act, nothing_given, given_after, IsWholeTransaction}
use Rattle.sb_laws.specs.Waits.{HasNoCircle}
use Rattle.sb_laws.proofs.Grow.{or_false}
use Rattle.sb_laws.proofs.Opens.{free_of_others}

clash : {P : Type 0} → true ≡ false → P
clash e = cc

pub who_self : (x : Who) → same_who x x ≡ true
who_self A = refl
who_self B = refl

-- ---- a group stays held

abbrev pub AnyOf : {X : Type 0} → (X → Type 0) → List X → Type 0
AnyOf P [] = ⊥
AnyOf P (x ∷ xs) = P x ⊎ AnyOf P xs

-- the transaction lists these groups
abbrev pub Lists : List Handle → OpenTransaction → Type 0
Lists gs o = (g : Handle) → list_any (same_id g) gs ≡ true → list_any (same_id g) o.groups ≡ true

abbrev pub Holds : ℕ → List Handle → OpenTransaction → Type 0
Holds tx gs o = (o.tx ≡ tx) × Lists gs o

-- an open transaction with the number lists the groups
abbrev pub Held : List OpenTransaction → ℕ → List Handle → Type 0
Held opens tx gs = AnyOf (Holds tx gs) opens

-- the acts let the groups of the transaction alone, up to its end, or else P holds
abbrev pub Through : Who → ℕ → List Handle → List Act → Type 0 → Type 0
Through x tx gs [] P = P
Through x tx gs (a ∷ acts) P =
    MatchBool (is_of_txn x tx a && a.ends) ⊤ (IsTrue (is_of_txn x tx a || not (same_who a.on x) || not (shares gs a)) × Through x tx gs acts P)

match_map : (b : Bool) (P Q : Type 0) → (P → Q) → MatchBool b ⊤ P → MatchBool b ⊤ Q
match_map true P Q f h = tt
match_map false P Q f h = f h

pub through_join : (x : Who) (tx : ℕ) (gs : List Handle) (acts later : List Act) (P : Type 0) → (P → HoldsAlone x tx gs later) → Through x tx gs acts P → HoldsAlone x tx gs (acts ++ later)
through_join x tx gs [] later P f h = f h
through_join x tx gs (a ∷ acts) later P f h = match_map (is_of_txn x tx a && a.ends) _ _ (λ k. (k.0, through_join x tx gs acts later P f k.1)) h

-- each act that doesn't end its transaction leaves it holding its groups
abbrev pub Begins : Who → List OpenTransaction → List Act → Type 0
Begins x opens [] = ⊤
Begins x opens (a ∷ acts) = MatchBool a.ends ⊤ (Through x a.tx a.groups acts (Held opens a.tx a.groups)) × Begins x opens acts

pub begins_join : (x : Who) (opens : List OpenTransaction) (acts later : List Act) → AllByRecursion (λ a. a.on ≡ x) acts → ((tx : ℕ) (gs : List Handle) → Held opens tx gs → HoldsAlone x tx gs later) →
    AllHoldAlone later → Begins x opens acts → AllHoldAlone (acts ++ later)
begins_join x opens [] later on f rest h = rest
begins_join x opens (a ∷ acts) later on f rest h = (
  match_map a.ends _ _ (λ k. subst (λ y. HoldsAlone y a.tx a.groups (acts ++ later)) (sym on.0) (through_join x a.tx a.groups acts later (Held opens a.tx a.groups) (f a.tx a.groups) k)) h.0,
  begins_join x opens acts later on.1 f rest h.1,
)

-- acts on the other instance
pub others_through : (x : Who) (tx : ℕ) (gs : List Handle) (acts : List Act) (P : Type 0) → AllByRecursion (λ a. same_who a.on x ≡ false) acts → P → Through x tx gs acts P
others_through x tx gs [] P h p = p
others_through x tx gs (a ∷ acts) P h p = by_other (same_who a.on x) h.0 (others_through x tx gs acts P h.1 p)
  where
    by_other : (b : Bool) → b ≡ false → Through x tx gs acts P → MatchBool ((b && (a.tx == tx)) && a.ends) ⊤ (IsTrue ((b && (a.tx == tx)) || not b || not (shares gs a)) × Through x tx gs acts P)
    by_other true e rest = clash e
    by_other false e rest = (refl, rest)

-- ---- operations given so far

-- those of the latest transaction with the number, if it isn't over
abbrev pub so_far : Given → List Op
so_far given = cond given.over [] given.ops

abbrev pub ops_open : List OpenTransaction → ℕ → List Op
ops_open opens tx = option_map_or (λ o. o.ops) (find_open opens tx) []

abbrev pub given_all : Who → ℕ → Given → List Act → Given
given_all x tx given acts = fold (given_after x tx) given acts

-- the entry is a transaction with all its operations, given what was open before the acts
abbrev pub IsWholeBy : Who → List OpenTransaction → List Act → Entry → Type 0
IsWholeBy x opens acts (Txn tx ops) = (given : Given) → so_far given ≡ ops_open opens tx → IsWholeTransaction (given_all x tx given acts) ops
IsWholeBy x opens acts _ = ⊤

-- what a step of an instance does to its open transactions by these acts, with the entries that it adds
pub record Effect (p q : Part) (acts : List Act) (added : List Entry) : Type 0 where
  pub on : AllByRecursion (λ a. a.on ≡ p.who) acts
  pub kept : (tx : ℕ) (gs : List Handle) → Held p.open_txns tx gs → Through p.who tx gs acts (Held q.open_txns tx gs)
  pub begun : Begins p.who q.open_txns acts
  pub given : (tx : ℕ) (g : Given) → so_far g ≡ ops_open p.open_txns tx → so_far (given_all p.who tx g acts) ≡ ops_open q.open_txns tx
  pub whole : AllByRecursion (IsWholeBy p.who p.open_txns acts) added
  pub doubt : AllByRecursion (IsWholeBy p.who p.open_txns acts) q.doubt ⊎ ((q.doubt ≡ p.doubt) × (acts ≡ []))
  pub ranked : HasNoCircle p.open_txns → HasNoCircle q.open_txns

abbrev pub IsNoTxn : Entry → Type 0
IsNoTxn (Txn tx ops) = ⊥
IsNoTxn _ = ⊤

pub no_txns : (x : Who) (opens : List OpenTransaction) (acts : List Act) (es : List Entry) → AllByRecursion IsNoTxn es → AllByRecursion (IsWholeBy x opens acts) es
no_txns x opens acts [] h = tt
no_txns x opens acts (Txn a b ∷ es) h = absurd h.0
no_txns x opens acts (Defined a ∷ es) h = (tt, no_txns x opens acts es h.1)
no_txns x opens acts (Accepted a b c d ∷ es) h = (tt, no_txns x opens acts es h.1)
no_txns x opens acts (Acked a b c ∷ es) h = (tt, no_txns x opens acts es h.1)
no_txns x opens acts (Fired a ∷ es) h = (tt, no_txns x opens acts es h.1)
no_txns x opens acts (Expired a ∷ es) h = (tt, no_txns x opens acts es h.1)
no_txns x opens acts (QueueSet a b ∷ es) h = (tt, no_txns x opens acts es h.1)

-- ---- no act

pub effect_none : (p q : Part) (added : List Entry) → ((tx : ℕ) (gs : List Handle) → Held p.open_txns tx gs → Held q.open_txns tx gs) → (HasNoCircle p.open_txns → HasNoCircle q.open_txns) → ((tx : ℕ) → ops_open p.open_txns tx ≡ ops_open q.open_txns tx) →
    AllByRecursion IsNoTxn added → AllByRecursion IsNoTxn q.doubt ⊎ (q.doubt ≡ p.doubt) → Effect p q [] added
effect_none p q added keep rank same none d = record {
  ranked = rank;
  on = tt;
  kept = keep;
  begun = tt;
  given = λ tx g e. e ∙ same tx;
  whole = no_txns p.who p.open_txns [] added none;
  doubt = by_doubt d;
}
  where
    by_doubt : AllByRecursion IsNoTxn q.doubt ⊎ (q.doubt ≡ p.doubt) → AllByRecursion (IsWholeBy p.who p.open_txns []) q.doubt ⊎ ((q.doubt ≡ p.doubt) × ([] ≡ let e : List Act = [] in e))
    by_doubt (inl h) = inl (no_txns p.who p.open_txns [] q.doubt h)
    by_doubt (inr e) = inr (e, refl)

-- ---- one act

pub given_one : (x : Who) (t : ℕ) (g : Given) (a : Act) → a.on ≡ x → so_far (given_after x t g a) ≡ cond (a.tx == t) (cond a.ends [] (so_far g ++ a.ops)) (so_far g)
given_one x t g a on = by_test (same_who a.on x) (ap (λ y. same_who y x) on ∙ who_self x) (a.tx == t)
  where
    ops_of_over : (c : Bool) → (let k : Given = cond c nothing_given g in k.ops) ≡ cond c [] g.ops
    ops_of_over true = refl
    ops_of_over false = refl

    by_test : (b : Bool) → b ≡ true → (c : Bool) → so_far (let k : Given = cond (b && c) (with_act (cond g.over nothing_given g) a) g in k) ≡ cond c (cond a.ends [] (so_far g ++ a.ops)) (so_far g)
    by_test false e c = clash (sym e)
    by_test true e true = ap (λ l. cond a.ends [] (l ++ a.ops)) (ops_of_over g.over)
    by_test true e false = refl

-- ---- shared groups

-- an act whose groups are free shares none with another open transaction
pub not_shared : (opens : List OpenTransaction) (tx : ℕ) (gs : List Handle) (a : Act) → AllByRecursion (λ g. is_free opens g a.tx ≡ true) a.groups → (a.tx == tx) ≡ false → Held opens tx gs → shares gs a ≡ false
not_shared opens tx gs a free other held = none a.groups free
  where
    false_if : (b : Bool) → (b ≡ true → ⊥) → b ≡ false
    false_if true f = absurd (f refl)
    false_if false f = refl

    turned : (m n : ℕ) → (m == n) ≡ false → (n == m) ≡ false
    turned m n e = grind (arith, nat_tests)

    unlisted : (g : Handle) (U : List OpenTransaction) → AllByRecursion (λ o. (o.tx == a.tx) ≡ false → list_any (same_id g) o.groups ≡ false) U → AnyOf (Holds tx gs) U → list_any (same_id g) gs ≡ false
    unlisted g [] h k = absurd k
    unlisted g (o ∷ U) h (inl k) = false_if (list_any (same_id g) gs) (λ e. clash (sym (k.1 g e) ∙ h.0 (subst (λ n. (n == a.tx) ≡ false) (sym k.0) (turned a.tx tx other))))
    unlisted g (o ∷ U) h (inr k) = unlisted g U h.1 k

    none : (groups : List Handle) → AllByRecursion (λ g. is_free opens g a.tx ≡ true) groups → list_any (λ g. list_any (same_id g) gs) groups ≡ false
    none [] f = refl
    none (g ∷ groups) f = or_false (list_any (same_id g) gs) (list_any (λ z. list_any (same_id z) gs) groups) (unlisted g opens (free_of_others opens g a.tx f.0) held) (none groups f.1)

-- one act is let through by a group that it doesn't share
pub through_one : (x : Who) (tx : ℕ) (gs : List Handle) (a : Act) (acts : List Act) (P : Type 0) → a.on ≡ x → ((a.tx == tx) ≡ false → shares gs a ≡ false) →
    (((a.tx == tx) && a.ends) ≡ false → Through x tx gs acts P) → Through x tx gs (a ∷ acts) P
through_one x tx gs a acts P on apart rest = by_test (same_who a.on x) (ap (λ y. same_who y x) on ∙ who_self x) (a.tx == tx) refl
  where
    fine : (c : Bool) → (a.tx == tx) ≡ c → (c || false || not (shares gs a)) ≡ true
    fine true e = refl
    fine false e = ap not (apart e)

    by_ends : (c d : Bool) → (a.tx == tx) ≡ c → a.ends ≡ d → MatchBool (c && d) ⊤ (IsTrue (c || false || not (shares gs a)) × Through x tx gs acts P)
    by_ends true true e f = tt
    by_ends true false e f = (refl, rest (ap (λ z. z && a.ends) e ∙ f))
    by_ends false d e f = (fine false e, rest (ap (λ z. z && a.ends) e))

    by_test : (b : Bool) → b ≡ true → (c : Bool) → (a.tx == tx) ≡ c → MatchBool ((b && c) && a.ends) ⊤ (IsTrue ((b && c) || not b || not (shares gs a)) × Through x tx gs acts P)
    by_test false e c f = clash (sym e)
    by_test true e c f = by_ends c a.ends f refl
