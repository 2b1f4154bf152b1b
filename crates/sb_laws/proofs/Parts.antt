-- One instance: its log, its doubt and its open transactions stay right through each step.
use Rattle.std.proofs.Common.{◌≡◌, ℕ, zero, suc, Bool, true, false, List, [], ◌∷◌, ◌++◌, ◌+◌, ◌^◌, ◌%◌, ◌≤◌, ◌<◌, Option, Some, None, refl, sym, ◌∙◌, ap, subst, length, arith, cond, inl, inr, append-nil, append_assoc, map, take}
use Rattle.std.specs.Prelude.{filter, flat_map, find, ◌⊎◌, not, ⊤, ◌==◌, ◌||◌}
use Rattle.std.specs.Option.{option_eq}
use Rattle.std.specs.List.{list_any, AllByRecursion}
use Rattle.std.proofs.lemmas.List.{take_all}
use Rattle.std.proofs.lemmas.Option.{same_Some}
use Rattle.std.proofs.lemmas.Nat.{div-add-mod'}
use Rattle.std.proofs.lemmas.Bool.{eqb-true, eq-eqb}
use Rattle.std.proofs.lemmas.Bool.Decides.{nat_tests}
use Rattle.sb_log.specs.declared.identifiers.Handle.{Handle}
use Rattle.sb_log.specs.declared.identifiers.Who.{Who}
use Rattle.sb_log.specs.declared.entries.Entry.{Entry}
use Rattle.sb_log.specs.declared.entries.Entry.TheVariants.{Txn}
use Rattle.sb_log.specs.declared.entries.Op.{Op}
use Rattle.sb_log.specs.declared.entries.Op.TheVariants.{Begin, Send, Took, End, Cleanup, Move, Timer, Put, Delete}
use Rattle.sb_log.specs.declared.refusals.Refusal.{Refusal}
use Rattle.sb_log.specs.declared.steps.Answer.{Answer}
use Rattle.sb_model.specs.Sides.{same_id}
use Rattle.sb_model.specs.Sides.{makings, made_by_op, ops_of}
use Rattle.sb_model.specs.Transactions.{OpenTransaction, with_ops, find_open, is_free}
use Rattle.sb_model.specs.Instance.{Part, Luck, Works, Fails, append, append_to, luck_at, written, no_room, grown}
use Rattle.sb_model.specs.Rollbacks.{without_open, released}
use Rattle.sb_model.specs.Replies.{Plan}
use Rattle.sb_model.specs.Statements.{txn_entries, add_plan, with_plan}
use Rattle.sb_model.specs.Links.{MakesTarget}
use Rattle.sb_model.specs.Sides.{Making, made_by}
use Rattle.sb_model.specs.Logs.{is_allowed, are_allowed_after}
use Rattle.sb_laws.proofs.Sides.{ids_same, both_left, both_right}
use Rattle.sb_laws.proofs.Allowed.{NewIn, new_in_none, new_left, new_right, entries_taken}
use Rattle.sb_laws.proofs.Grow.{all_weaker, all_append, all_left, all_right}
use Rattle.sb_laws.proofs.Taking.{all_filter, all_take}
use Rattle.sb_laws.proofs.Views.{makings_view}
use Rattle.sb_laws.proofs.Opens.{LogOk, OpenOk, Apart, IsOpenOk, AreApart, Pairwise, LiveOk, IsCounted, BeginsBelow, PlanOk, log_quiet, open_quiet, counted_quiet, open_committed, open_later, open_planned, apart_planned, free_of_others}
use Rattle.sb_laws.proofs.PlanCases.{all_found}

clash : {P : Type 0} → true ≡ false → P
clash e = cc

-- ---- lists of open transactions

pub apart_sym : (a b : OpenTransaction) → AreApart a b → AreApart b a
apart_sym a b h = record {
  txs = other_way (a.tx == b.tx) refl;
  groups_apart = λ g e f. h.groups_apart g f e;
  begins_apart = λ s e f. h.begins_apart s f e;
}
  where
    other_way : (c : Bool) → (a.tx == b.tx) ≡ c → (b.tx == a.tx) ≡ false
    other_way true e = clash (sym e ∙ h.txs)
    other_way false e = grind (arith, nat_tests)

pub all_map : {X Y : Type 0} (P : X → Type 0) (Q : Y → Type 0) (f : X → Y) → ((x : X) → P x → Q (f x)) → (xs : List X) → AllByRecursion P xs → AllByRecursion Q (map f xs)
all_map P Q f g [] h = tt
all_map P Q f g (x ∷ xs) h = (g x h.0, all_map P Q f g xs h.1)

pub all_with : {X : Type 0} (P Q R : X → Type 0) → ((x : X) → P x → Q x → R x) → (xs : List X) → AllByRecursion P xs → AllByRecursion Q xs → AllByRecursion R xs
all_with P Q R f [] h k = tt
all_with P Q R f (x ∷ xs) h k = (f x h.0 k.0, all_with P Q R f xs h.1 k.1)

pub pairs_map : {X : Type 0} (P : X → Type 0) (R S : X → X → Type 0) (f : X → X) → ((a b : X) → P a → P b → R a b → S (f a) (f b)) → (xs : List X) → AllByRecursion P xs → Pairwise R xs → Pairwise S (map f xs)
pairs_map P R S f g [] h p = tt
pairs_map {X = X} P R S f g (x ∷ xs) h p = (one xs h.1 p.0, pairs_map P R S f g xs h.1 p.1)
  where
    one : (ys : List X) → AllByRecursion P ys → AllByRecursion (R x) ys → AllByRecursion (S (f x)) (map f ys)
    one [] a b = tt
    one (y ∷ ys) a b = (g x y h.0 a.0 b.0, one ys a.1 b.1)

pub pairs_filter : {X : Type 0} (R : X → X → Type 0) (f : X → Bool) (xs : List X) → Pairwise R xs → Pairwise R (filter f xs)
pairs_filter R f [] p = tt
pairs_filter R f (x ∷ xs) p = by_test (f x) (pairs_filter R f xs p.1)
  where
    by_test : (b : Bool) → Pairwise R (filter f xs) → Pairwise R (cond b (x ∷ filter f xs) (filter f xs))
    by_test true rest = (all_filter (R x) f xs p.0, rest)
    by_test false rest = rest

pub pairs_push : {X : Type 0} (R : X → X → Type 0) (xs : List X) (y : X) → Pairwise R xs → AllByRecursion (λ x. R x y) xs → Pairwise R (xs ++ y ∷ [])
pairs_push R [] y p h = (tt, tt)
pairs_push R (x ∷ xs) y p h = (all_append (R x) xs (y ∷ []) p.0 (h.0, tt), pairs_push R xs y p.1 h.1)

-- the others stay apart from one that is found
pub apart_found : (q : OpenTransaction → Bool) (U : List OpenTransaction) (o : OpenTransaction) → Pairwise AreApart U → find q U ≡ Some o → AllByRecursion (λ b. (b.tx == o.tx) ≡ false → AreApart o b) U
apart_found q [] o p e = tt
apart_found q (h ∷ U) o p e = by_test (q h) e (apart_found q U o p.1)
  where
    by_test : (c : Bool) → cond c (Some h) (find q U) ≡ Some o → (find q U ≡ Some o → AllByRecursion (λ b. (b.tx == o.tx) ≡ false → AreApart o b) U) → AllByRecursion (λ b. (b.tx == o.tx) ≡ false → AreApart o b) (h ∷ U)
    by_test true f rest =
        let same : h ≡ o = same_Some h o f in (
          (λ g. clash (sym (eq-eqb h.tx o.tx (ap (λ z. z.tx) same)) ∙ g)),
          all_weaker (AreApart h) (λ b. (b.tx == o.tx) ≡ false → AreApart o b) (λ b k g. subst (λ z. AreApart z b) same k) U p.0,
        )
    by_test false f rest = ((λ g. apart_sym h o (all_found (AreApart h) q U o p.0 f)), rest f)

-- the one that is found is the only one of its number
pub unique_found : (q : OpenTransaction → Bool) (U : List OpenTransaction) (o : OpenTransaction) → Pairwise AreApart U → find q U ≡ Some o → AllByRecursion (λ b. (b.tx == o.tx) ≡ true → b ≡ o) U
unique_found q [] o p e = tt
unique_found q (h ∷ U) o p e = by_test (q h) e (unique_found q U o p.1)
  where
    by_test : (c : Bool) → cond c (Some h) (find q U) ≡ Some o → (find q U ≡ Some o → AllByRecursion (λ b. (b.tx == o.tx) ≡ true → b ≡ o) U) → AllByRecursion (λ b. (b.tx == o.tx) ≡ true → b ≡ o) (h ∷ U)
    by_test true f rest =
        let same : h ≡ o = same_Some h o f in (
          (λ g. same),
          all_weaker (AreApart h) (λ b. (b.tx == o.tx) ≡ true → b ≡ o) (λ b k g. clash (sym (eq-eqb o.tx b.tx (sym (eqb-true b.tx o.tx g))) ∙ ap (λ z. z.tx == b.tx) (sym same) ∙ k.txs)) U p.0,
        )
    by_test false f rest = ((λ g. clash (sym g ∙ (all_found (AreApart h) q U o p.0 f).txs)), rest f)

pub find_again : (q : OpenTransaction → Bool) (U : List OpenTransaction) (o : OpenTransaction) → Pairwise AreApart U → find q U ≡ Some o → find_open U o.tx ≡ Some o
find_again q [] o p e = cc
find_again q (h ∷ U) o p e = by_test (q h) e (find_again q U o p.1)
  where
    by_test : (c : Bool) → cond c (Some h) (find q U) ≡ Some o → (find q U ≡ Some o → find_open U o.tx ≡ Some o) → find_open (h ∷ U) o.tx ≡ Some o
    by_test true f rest =
        let same : h ≡ o = same_Some h o f in
        ap (λ c. cond c (Some h) (find_open U o.tx)) (eq-eqb h.tx o.tx (ap (λ z. z.tx) same)) ∙ ap Some same
    by_test false f rest = ap (λ c. cond c (Some h) (find_open U o.tx)) (all_found (AreApart h) q U o p.0 f).txs ∙ rest f

pub find_above : (U : List OpenTransaction) (top : ℕ) → AllByRecursion (λ b. b.tx < top) U → find_open U top ≡ None
find_above [] top h = refl
find_above (b ∷ U) top h = ap (λ c. cond c (Some b) (find_open U top)) (below b.tx top h.0) ∙ find_above U top h.1
  where
    below : (m n : ℕ) → m < n → (m == n) ≡ false
    below m n lt = grind (arith, nat_tests)

pub without_all : (P : OpenTransaction → Type 0) (U : List OpenTransaction) (tx : ℕ) → ((b : OpenTransaction) (w : Option ℕ) → P b → P (record b { waits_for = w })) →
    AllByRecursion (λ b. (b.tx == tx) ≡ false → P b) U → AllByRecursion P (without_open U tx)
without_all P U tx waits h = all_map P P (released tx) one (filter (λ o. not (o.tx == tx)) U) (removed U h)
  where
    one : (b : OpenTransaction) → P b → P (released tx b)
    one b k = by_test (option_eq ◌==◌ b.waits_for (Some tx))
      where
        by_test : (c : Bool) → P (cond c (record b { waits_for = None }) b)
        by_test true = waits b None k
        by_test false = k

    removed : (V : List OpenTransaction) → AllByRecursion (λ b. (b.tx == tx) ≡ false → P b) V → AllByRecursion P (filter (λ o. not (o.tx == tx)) V)
    removed [] k = tt
    removed (b ∷ V) k = by_test (b.tx == tx) refl (removed V k.1)
      where
        by_test : (c : Bool) → (b.tx == tx) ≡ c → AllByRecursion P (filter (λ o. not (o.tx == tx)) V) → AllByRecursion P (cond (not c) (b ∷ filter (λ o. not (o.tx == tx)) V) (filter (λ o. not (o.tx == tx)) V))
        by_test true e rest = rest
        by_test false e rest = (k.0 e, rest)

pub without_pairs : (U : List OpenTransaction) (tx : ℕ) → Pairwise AreApart U → Pairwise AreApart (without_open U tx)
without_pairs U tx p = pairs_map (λ b. ⊤) AreApart AreApart (released tx) (λ a b h k r. both a b (option_eq ◌==◌ a.waits_for (Some tx)) (option_eq ◌==◌ b.waits_for (Some tx)) r)
    (filter (λ o. not (o.tx == tx)) U) (every (filter (λ o. not (o.tx == tx)) U)) (pairs_filter AreApart (λ o. not (o.tx == tx)) U p)
  where
    every : (V : List OpenTransaction) → AllByRecursion (λ b. ⊤) V
    every [] = tt
    every (b ∷ V) = (tt, every V)

    both : (a b : OpenTransaction) (c d : Bool) → AreApart a b → AreApart (cond c (record a { waits_for = None }) a) (cond d (record b { waits_for = None }) b)
    both a b true true r = r
    both a b true false r = r
    both a b false true r = r
    both a b false false r = r

-- ---- quiet entries

abbrev pub IsQuiet : Entry → Type 0
IsQuiet e = (ops_of (e ∷ []) ≡ []) × MakesTarget e

-- entries that are allowed one after the other, and whose sides and handles are new
pub record Brings (x : Who) (log es : List Entry) (next : ℕ) (opens : List OpenTransaction) : Type 0 where
  pub quiet : AllByRecursion IsQuiet es
  pub allowed : are_allowed_after log es ≡ true
  pub new : AllByRecursion (λ o. AllByRecursion (NewIn (makings es)) o.ops) opens
  pub counted : AllByRecursion (IsCounted x next) (makings es)

-- entries that make no side
pub brings_none : (x : Who) (log es : List Entry) (next : ℕ) (opens : List OpenTransaction) → AllByRecursion IsQuiet es → are_allowed_after log es ≡ true → makings es ≡ [] → Brings x log es next opens
brings_none x log es next opens quiet allowed none = record {
  quiet = quiet;
  allowed = allowed;
  new = every opens;
  counted = subst (AllByRecursion (IsCounted x next)) (sym none) tt;
}
  where
    every : (V : List OpenTransaction) → AllByRecursion (λ o. AllByRecursion (NewIn (makings es)) o.ops) V
    every [] = tt
    every (o ∷ V) = (subst (λ ms. AllByRecursion (NewIn ms) o.ops) (sym none) (new_in_none o.ops), every V)

pub log_quiets : (x : Who) (es log : List Entry) → AllByRecursion IsQuiet es → are_allowed_after log es ≡ true → LogOk x log → LogOk x (log ++ es)
log_quiets x [] log q a h = subst (LogOk x) (sym (append-nil log)) h
log_quiets x (e ∷ es) log q a h = subst (LogOk x) (append_assoc log (e ∷ []) es)
    (log_quiets x es (log ++ e ∷ []) q.1 (both_right (is_allowed log e) (are_allowed_after (log ++ e ∷ []) es) a) (log_quiet log e q.0.0 q.0.1 x (both_left (is_allowed log e) (are_allowed_after (log ++ e ∷ []) es) a) h))

pub live_quiets : (x : Who) (es log : List Entry) (n m : ℕ) (U : List OpenTransaction) → Brings x log es n U → LogOk x log → LiveOk x log n m U → LiveOk x (log ++ es) n m U
live_quiets x [] log n m U b h l = subst (λ k. LiveOk x k n m U) (sym (append-nil log)) l
live_quiets x (e ∷ es) log n m U b h l =
    let first : is_allowed log e ≡ true = both_left (is_allowed log e) (are_allowed_after (log ++ e ∷ []) es) b.allowed in
    let none : makings (e ∷ []) ≡ made_by e = append-nil (made_by e) in
    subst (λ k. LiveOk x k n m U) (append_assoc log (e ∷ []) es)
    (live_quiets x es (log ++ e ∷ []) n m U (record {
      quiet = b.quiet.1;
      allowed = both_right (is_allowed log e) (are_allowed_after (log ++ e ∷ []) es) b.allowed;
      new = all_weaker (λ o. AllByRecursion (NewIn (makings (e ∷ es))) o.ops) (λ o. AllByRecursion (NewIn (makings es)) o.ops) (λ o k. new_right (made_by e) (makings es) o.ops k) U b.new;
      counted = all_right (IsCounted x n) (made_by e) (makings es) b.counted;
    }) (log_quiet log e b.quiet.0.0 b.quiet.0.1 x first h) (record {
      each = all_with (IsOpenOk x log n m) (λ o. AllByRecursion (NewIn (makings (e ∷ es))) o.ops) (IsOpenOk x (log ++ e ∷ []) n m)
          (λ o k f. open_quiet log e b.quiet.0.0 b.quiet.0.1 x n m o.tx o.ops o.groups (subst (λ ms. AllByRecursion (NewIn ms) o.ops) (sym none) (new_left (made_by e) (makings es) o.ops f)) h k) U l.each b.new;
      pairs = l.pairs;
      counted = counted_quiet log e b.quiet.0.0 b.quiet.0.1 x n l.counted (subst (AllByRecursion (IsCounted x n)) (sym none) (all_left (IsCounted x n) (made_by e) (makings es) b.counted));
    }))

-- ---- a transaction's entry

pub log_txn : (x : Who) (log : List Entry) (tx : ℕ) (ops : List Op) (k : ℕ) → LogOk x log → LogOk x (with_ops log tx ops) → LogOk x (log ++ take k (txn_entries tx ops))
log_txn x log tx ops zero h v = subst (LogOk x) (sym (append-nil log)) h
log_txn x log tx [] (suc k) h v = subst (LogOk x) (sym (append-nil log)) h
log_txn x log tx (op ∷ ops) (suc k) h v = subst (λ l. LogOk x (log ++ Txn tx (op ∷ ops) ∷ l)) (sym (nothing k)) v
  where
    nothing : (j : ℕ) → take j (let e : List Entry = [] in e) ≡ []
    nothing zero = refl
    nothing (suc j) = refl

pub counted_ops : (x : Who) (next : ℕ) (ops : List Op) → AllByRecursion (BeginsBelow next) ops → AllByRecursion (IsCounted x next) (flat_map made_by_op ops)
counted_ops x next [] h = tt
counted_ops x next (Begin a b c ∷ ops) h = (((λ e. h.0), (λ e. h.0)), counted_ops x next ops h.1)
counted_ops x next (Send a b c ∷ ops) h = counted_ops x next ops h.1
counted_ops x next (Took a b ∷ ops) h = counted_ops x next ops h.1
counted_ops x next (End a b ∷ ops) h = counted_ops x next ops h.1
counted_ops x next (Cleanup a ∷ ops) h = counted_ops x next ops h.1
counted_ops x next (Move a b ∷ ops) h = counted_ops x next ops h.1
counted_ops x next (Timer a b ∷ ops) h = counted_ops x next ops h.1
counted_ops x next (Put a b c d ∷ ops) h = counted_ops x next ops h.1
counted_ops x next (Delete a b ∷ ops) h = counted_ops x next ops h.1

pub counted_later : (x : Who) (n high : ℕ) → n ≤ high → (k : Making) → IsCounted x n k → IsCounted x high k
counted_later x n high le k h = ((λ e. let b = h.0 e in omega (arith, b, le)), (λ e. let b = h.1 e in omega (arith, b, le)))

-- after a commit of operations, from which the others stay apart
pub live_committed : (x : Who) (log : List Entry) (n m tx : ℕ) (ops : List Op) (groups : List Handle) (U V : List OpenTransaction) → OpenOk x log n m tx ops groups →
    AllByRecursion (λ b. IsOpenOk x log n m b × Apart tx ops groups b.tx b.ops b.groups) V → Pairwise AreApart V → AllByRecursion (IsCounted x n) (makings log) → LiveOk x (with_ops log tx ops) n m V
live_committed x log n m tx ops groups U V o each pairs counted = record {
  each = all_weaker (λ b. IsOpenOk x log n m b × Apart tx ops groups b.tx b.ops b.groups) (IsOpenOk x (with_ops log tx ops) n m)
      (λ b k. open_committed x log n m tx b.tx ops b.ops groups b.groups o k.0 k.1) V each;
  pairs = pairs;
  counted = subst (AllByRecursion (IsCounted x n)) (sym (makings_view log tx ops)) (all_append (IsCounted x n) (makings log) (flat_map made_by_op ops) counted (counted_ops x n ops o.begins_below));
}

-- ---- one instance

-- what stands of an instance: each log that may survive is right, and while it is up its open transactions are
pub record PartOk (p : Part) : Type 0 where
  pub quiet : p.up ≡ true → p.doubt ≡ []
  pub down : p.up ≡ false → p.open_txns ≡ []
  pub logs : (k : ℕ) → LogOk p.who (p.log ++ take k p.doubt)
  pub live : p.up ≡ true → LiveOk p.who p.log p.next_handle p.next_tx p.open_txns

pub log_ok : (p : Part) → PartOk p → LogOk p.who p.log
log_ok p h = subst (LogOk p.who) (append-nil p.log) (h.logs zero)

-- the counters rise by few: whatever bound they had, they have with a little more
abbrev pub Few : ℕ → ℕ → ℕ → ℕ → ℕ → Type 0
Few d n m k l = (top : ℕ) → 2 ^ 62 ≤ top → n ≤ top → m ≤ top → (k ≤ top + d) × (l ≤ top + d)

pub few_same : (d n m : ℕ) → Few d n m n m
few_same d n m top a b c = (omega (arith, b), omega (arith, c))

pub few_wider : (n m k l : ℕ) → Few 2 n m k l → Few 4 n m k l
few_wider n m k l f top a b c = let r = f top a b c in (omega (arith, r.0), omega (arith, r.1))

pub mod_least : (k : ℕ) → k % 2 ^ 64 ≤ k
mod_least k = omega (arith, div-add-mod' k (2 ^ 64))

pub few_tx : (n m : ℕ) → Few 2 n m n ((m + 1) % 2 ^ 64)
few_tx n m top a b c = (omega (arith, b), omega (arith, c, mod_least (m + 1)))

pub few_drawn : (n m d : ℕ) → d ≤ 2 → Few 2 n m ((n + d) % 2 ^ 64) m
few_drawn n m d le top a b c = (omega (arith, b, le, mod_least (n + d)), omega (arith, c))

pub few_at_once : (n m d : ℕ) → d ≤ 2 → Few 4 n m ((n + d) % 2 ^ 64) ((m + 1) % 2 ^ 64)
few_at_once n m d le top a b c = (omega (arith, b, le, mod_least (n + d)), omega (arith, c, mod_least (m + 1)))

-- from one state of the instance to the next: what survives is what survived, or the log with a beginning of these entries
pub record Moved (p q : Part) (es : List Entry) : Type 0 where
  pub who : q.who ≡ p.who
  pub ok : PartOk q
  pub few : Few 4 p.next_handle p.next_tx q.next_handle q.next_tx
  pub reach : (k : ℕ) → ((j : ℕ) × (p.log ++ take j p.doubt ≡ q.log ++ take k q.doubt)) ⊎ ((j : ℕ) × (p.log ++ take j es ≡ q.log ++ take k q.doubt))

pub moved_not : (p : Part) (es : List Entry) → PartOk p → Moved p p es
moved_not p es h = record { who = refl; ok = h; few = few_same 4 p.next_handle p.next_tx; reach = λ k. inl (k, refl) }

-- the log and the doubt stay
pub record SameLog (p q : Part) : Type 0 where
  pub who : q.who ≡ p.who
  pub up : q.up ≡ p.up
  pub log : q.log ≡ p.log
  pub doubt : q.doubt ≡ p.doubt
  pub few : Few 2 p.next_handle p.next_tx q.next_handle q.next_tx

pub moved_live : (p q : Part) (es : List Entry) → PartOk p → p.up ≡ true → SameLog p q → (q.up ≡ true → LiveOk q.who q.log q.next_handle q.next_tx q.open_txns) → Moved p q es
moved_live p q es h up s live = record {
  who = s.who;
  ok = record {
    quiet = λ e. s.doubt ∙ h.quiet (sym s.up ∙ e);
    down = λ e. clash (sym (s.up ∙ up) ∙ e);
    logs = λ k. subst (λ w. LogOk w (q.log ++ take k q.doubt)) (sym s.who)
        (subst (λ l. LogOk p.who (l ++ take k q.doubt)) (sym s.log) (subst (λ d. LogOk p.who (p.log ++ take k d)) (sym s.doubt) (h.logs k)));
    live = live;
  };
  few = few_wider p.next_handle p.next_tx q.next_handle q.next_tx s.few;
  reach = λ k. inl (k, ap (λ l. l ++ take k p.doubt) (sym s.log) ∙ ap (λ d. q.log ++ take k d) (sym s.doubt));
}

take_none : {X : Type 0} (k : ℕ) → take k (let e : List X = [] in e) ≡ []
take_none zero = refl
take_none (suc k) = refl

-- an append: written, failed or refused
pub moved_append : (luck : Luck) (p after : Part) (es : List Entry) (told : Answer) → PartOk p → p.up ≡ true → SameLog p after →
    ((k : ℕ) → LogOk p.who (p.log ++ take k es)) → LiveOk p.who (p.log ++ es) after.next_handle after.next_tx after.open_txns →
    Moved p (append luck p es told after).part es
moved_append luck p after [] told h up s logs live =
    moved_live p after [] h up s (λ e. subst (λ w. LiveOk w after.log after.next_handle after.next_tx after.open_txns) (sym s.who)
    (subst (λ l. LiveOk p.who l after.next_handle after.next_tx after.open_txns) (append-nil p.log ∙ sym s.log) live))
moved_append luck p after (e ∷ es) told h up s logs live = by_room (no_room p (e ∷ es))
  where
    q : Part
    q = grown after (e ∷ es)

    no_doubt : after.doubt ≡ []
    no_doubt = s.doubt ∙ h.quiet up

    whole : (k : ℕ) → p.log ++ (e ∷ es) ≡ (after.log ++ (e ∷ es)) ++ take k after.doubt
    whole k = ap (λ l. l ++ (e ∷ es)) (sym s.log) ∙ sym (append-nil (after.log ++ (e ∷ es))) ∙ ap (λ l. (after.log ++ (e ∷ es)) ++ l) (sym (take_none k) ∙ ap (take k) (sym no_doubt))

    every : take (length (e ∷ es)) (e ∷ es) ≡ e ∷ es
    every = take_all (length (e ∷ es)) (e ∷ es) (omega arith)

    by_luck : (l : Luck) → Moved p (written l p (e ∷ es) told after).part (e ∷ es)
    by_luck Works = record {
      who = s.who;
      ok = record {
        quiet = λ f. no_doubt;
        down = λ f. clash (sym (s.up ∙ up) ∙ f);
        logs = λ k. subst (λ w. LogOk w ((after.log ++ (e ∷ es)) ++ take k after.doubt)) (sym s.who)
            (subst (LogOk p.who) (ap (λ l. p.log ++ l) every ∙ whole k) (logs (length (e ∷ es))));
        live = λ f. subst (λ w. LiveOk w (after.log ++ (e ∷ es)) after.next_handle after.next_tx after.open_txns) (sym s.who)
            (subst (λ l. LiveOk p.who (l ++ (e ∷ es)) after.next_handle after.next_tx after.open_txns) (sym s.log) live);
      };
      few = few_wider p.next_handle p.next_tx after.next_handle after.next_tx s.few;
      reach = λ k. inr (length (e ∷ es), ap (λ l. p.log ++ l) every ∙ whole k);
    }
    by_luck Fails = record {
      who = refl;
      ok = record { quiet = λ f. clash (sym f); down = λ f. refl; logs = logs; live = λ f. clash (sym f) };
      few = few_same 4 p.next_handle p.next_tx;
      reach = λ k. inr (k, refl);
    }

    by_room : (r : Option Refusal) → Moved p (append_to luck p (e ∷ es) told after r).part (e ∷ es)
    by_room (Some r) = moved_not p (e ∷ es) h
    by_room None = by_luck (luck_at p.end luck)

-- the counters of an append are those before or those after
pub append_few : (Q : ℕ → ℕ → Type 0) (luck : Luck) (p after : Part) (es : List Entry) (told : Answer) → Q p.next_handle p.next_tx → Q after.next_handle after.next_tx →
    Q (append luck p es told after).part.next_handle (append luck p es told after).part.next_tx
append_few Q luck p after [] told a b = b
append_few Q luck p after (e ∷ es) told a b = by_room (no_room p (e ∷ es))
  where
    by_luck : (l : Luck) → Q (written l p (e ∷ es) told after).part.next_handle (written l p (e ∷ es) told after).part.next_tx
    by_luck Works = b
    by_luck Fails = a

    by_room : (r : Option Refusal) → Q (append_to luck p (e ∷ es) told after r).part.next_handle (append_to luck p (e ∷ es) told after r).part.next_tx
    by_room (Some r) = a
    by_room None = by_luck (luck_at p.end luck)

-- quiet entries
pub moved_quiet : (luck : Luck) (p after : Part) (es : List Entry) (told : Answer) → PartOk p → p.up ≡ true → SameLog p after → Brings p.who p.log es after.next_handle after.open_txns →
    LiveOk p.who p.log after.next_handle after.next_tx after.open_txns → Moved p (append luck p es told after).part es
moved_quiet luck p after es told h up s brings live = moved_append luck p after es told h up s
    (λ k. log_quiets p.who (take k es) p.log (all_take IsQuiet k es brings.quiet) (entries_taken p.log es k brings.allowed) (log_ok p h))
    (live_quiets p.who es p.log after.next_handle after.next_tx after.open_txns brings (log_ok p h) live)

-- ---- an open transaction that ends or commits

pub live_without : (x : Who) (log : List Entry) (n m : ℕ) (U : List OpenTransaction) (tx : ℕ) → LiveOk x log n m U → LiveOk x log n m (without_open U tx)
live_without x log n m U tx l = record {
  each = without_all (IsOpenOk x log n m) U tx (λ b w k. k) (all_weaker (IsOpenOk x log n m) (λ b. (b.tx == tx) ≡ false → IsOpenOk x log n m b) (λ b k e. k) U l.each);
  pairs = without_pairs U tx l.pairs;
  counted = l.counted;
}

pub live_commit : (x : Who) (log : List Entry) (n m : ℕ) (U : List OpenTransaction) (q : OpenTransaction → Bool) (o : OpenTransaction) → LiveOk x log n m U → find q U ≡ Some o → LiveOk x (with_ops log o.tx o.ops) n m (without_open U o.tx)
live_commit x log n m U q o l e = live_committed x log n m o.tx o.ops o.groups U (without_open U o.tx) (all_found (IsOpenOk x log n m) q U o l.each e)
    (without_all (λ b. IsOpenOk x log n m b × AreApart o b) U o.tx (λ b w k. k)
    (all_with (IsOpenOk x log n m) (λ b. (b.tx == o.tx) ≡ false → AreApart o b) (λ b. (b.tx == o.tx) ≡ false → IsOpenOk x log n m b × AreApart o b) (λ b k f g. (k, f g)) U l.each (apart_found q U o l.pairs e)))
    (without_pairs U o.tx l.pairs) l.counted

-- ---- a plan in an open transaction

abbrev pub FreeBeside : List Handle → OpenTransaction → Type 0
FreeBeside groups b = (g : Handle) → list_any (same_id g) groups ≡ true → list_any (same_id g) b.groups ≡ false

-- the groups of a plan are in no other transaction
pub free_beside : (U : List OpenTransaction) (tx : ℕ) (groups : List Handle) → AllByRecursion (λ g. is_free U g tx ≡ true) groups → AllByRecursion (λ b. (b.tx == tx) ≡ false → FreeBeside groups b) U
free_beside U tx [] h = every U
  where
    every : (V : List OpenTransaction) → AllByRecursion (λ b. (b.tx == tx) ≡ false → FreeBeside [] b) V
    every [] = tt
    every (b ∷ V) = ((λ e g f. clash (sym f)), every V)
free_beside U tx (k ∷ groups) h =
    all_with (λ b. (b.tx == tx) ≡ false → list_any (same_id k) b.groups ≡ false) (λ b. (b.tx == tx) ≡ false → FreeBeside groups b) (λ b. (b.tx == tx) ≡ false → FreeBeside (k ∷ groups) b)
    (λ b one rest e g f. by_test b g (one e) (rest e) (same_id g k) refl f) U (free_of_others U k tx h.0) (free_beside U tx groups h.1)
  where
    by_test : (b : OpenTransaction) (g : Handle) → list_any (same_id k) b.groups ≡ false → FreeBeside groups b → (c : Bool) → same_id g k ≡ c → (same_id g k || list_any (same_id g) groups) ≡ true → list_any (same_id g) b.groups ≡ false
    by_test b g one rest true e f = subst (λ z. list_any (same_id z) b.groups ≡ false) (sym (ids_same g k e)) one
    by_test b g one rest false e f = rest g (sym (ap (λ d. d || list_any (same_id g) groups) e) ∙ f)

module _ (x : Who) (log : List Entry) (n high m : ℕ) (U : List OpenTransaction) (q : OpenTransaction → Bool) (o : OpenTransaction) (planned : Plan) (l : LiveOk x log n m U) (found : find q U ≡ Some o) (le : n ≤ high)
    (p : PlanOk x log U n high o.tx o.ops planned.ops planned.groups) where
  record Info (b : OpenTransaction) : Type 0 where
    mine : (b.tx == o.tx) ≡ true → b ≡ o
    opened : IsOpenOk x log n m b
    apart : (b.tx == o.tx) ≡ false → AreApart o b
    free : (b.tx == o.tx) ≡ false → FreeBeside planned.groups b

  infos : AllByRecursion Info U
  infos = all_with (λ b. IsOpenOk x log n m b × ((b.tx == o.tx) ≡ true → b ≡ o)) (λ b. ((b.tx == o.tx) ≡ false → AreApart o b) × ((b.tx == o.tx) ≡ false → FreeBeside planned.groups b)) Info
      (λ b h k. record { mine = h.1; opened = h.0; apart = k.0; free = k.1 }) U
      (all_with (IsOpenOk x log n m) (λ b. (b.tx == o.tx) ≡ true → b ≡ o) (λ b. IsOpenOk x log n m b × ((b.tx == o.tx) ≡ true → b ≡ o)) (λ b h k. (h, k)) U l.each (unique_found q U o l.pairs found))
      (all_with (λ b. (b.tx == o.tx) ≡ false → AreApart o b) (λ b. (b.tx == o.tx) ≡ false → FreeBeside planned.groups b)
      (λ b. ((b.tx == o.tx) ≡ false → AreApart o b) × ((b.tx == o.tx) ≡ false → FreeBeside planned.groups b)) (λ b h k. (h, k)) U (apart_found q U o l.pairs found) (free_beside U o.tx planned.groups p.free))

  one_open : (b : OpenTransaction) → Info b → IsOpenOk x log high m (add_plan o.tx planned b)
  one_open b i = by_test (b.tx == o.tx) refl
    where
      by_test : (c : Bool) → (b.tx == o.tx) ≡ c → IsOpenOk x log high m (cond c (with_plan planned b) b)
      by_test true e = subst (λ z. IsOpenOk x log high m (with_plan planned z)) (sym (i.mine e))
          (open_planned x log U n high m o.tx o.ops planned.ops o.groups planned.groups le l.counted (subst (IsOpenOk x log n m) (i.mine e) i.opened) p)
      by_test false e = open_later x log n m high m b.tx b.ops b.groups le (omega arith) i.opened

  apart_with : (b : OpenTransaction) → Info b → (b.tx == o.tx) ≡ false → AreApart (with_plan planned o) b
  apart_with b i e = apart_planned x log U n high m o.tx b.tx o.ops planned.ops b.ops o.groups planned.groups b.groups i.opened p (i.free e) (i.apart e)

  two_apart : (a b : OpenTransaction) → Info a → Info b → AreApart a b → AreApart (add_plan o.tx planned a) (add_plan o.tx planned b)
  two_apart a b i j r = by_test (a.tx == o.tx) refl (b.tx == o.tx) refl
    where
      by_test : (c : Bool) → (a.tx == o.tx) ≡ c → (d : Bool) → (b.tx == o.tx) ≡ d → AreApart (cond c (with_plan planned a) a) (cond d (with_plan planned b) b)
      by_test true e true f = clash (sym (eq-eqb a.tx b.tx (ap (λ z. z.tx) (i.mine e ∙ sym (j.mine f)))) ∙ r.txs)
      by_test true e false f = subst (λ z. AreApart (with_plan planned z) b) (sym (i.mine e)) (apart_with b j f)
      by_test false e true f = subst (λ z. AreApart a (with_plan planned z)) (sym (j.mine f)) (apart_sym (with_plan planned o) a (apart_with a i e))
      by_test false e false f = r

  pub live_planned : LiveOk x log high m (map (add_plan o.tx planned) U)
  live_planned = record {
    each = all_map Info (IsOpenOk x log high m) (add_plan o.tx planned) one_open U infos;
    pairs = pairs_map Info AreApart AreApart (add_plan o.tx planned) two_apart U infos l.pairs;
    counted = all_weaker (IsCounted x n) (IsCounted x high) (counted_later x n high le) (makings log) l.counted;
  }
