-- What holds of each rule that is made so.
use Rattle.std.proofs.Common.{◌≡◌, ℕ, zero, suc, List, [], ◌∷◌, ◌++◌, length, Option, Some, None, Ok, Err, refl, sym, ap, subst, ◌∙◌, append_assoc, arith, ◌⊎◌, inl, inr}
use Rattle.std.proofs.Common.{◌<◌, ◌≤◌}
use Rattle.std.proofs.lemmas.List.{append-nil}
use Rattle.sb_grammar.specs.declared.lexeme.Lexeme.{Lexeme}
use Rattle.sb_grammar.specs.declared.choice.Barred.{Barred}
use Rattle.sb_grammar.specs.Rules.{Toks, Stop, bad, barred_at, Read, Rule, and_then, either, either_fact, head, pure, token_reads, token, bind, alt_reads, alt_spells, alt_bars, alt, barred_reads, barred_spells, barred_bars, barred, map_rule, also, ended, Apart, optional, loop, pushed, until_by, until, series}

-- The value depends on the tokens that were read and on the next one alone.
pub record ReadsTo {A : Type 0} (r : Rule A) (ts : Toks) (x : A) (rest : Toks) : Type 0 where
  pub used : Toks
  pub parts : ts ≡ used ++ rest
  pub same : (t : Lexeme) (old new : Toks) → rest ≡ t ∷ old → r.reads (used ++ t ∷ new) ≡ Ok (x, t ∷ new)
  pub fine : (follow : Toks) → r.Fine follow → r.reads (used ++ follow) ≡ Ok (x, follow)
  pub at_first : used ≡ [] → (r.min ≡ []) × (x ≡ r.least)

-- The tokens before the place begin a spelling, and with the one at the place they begin none.
pub record FailsAt {A : Type 0} (r : Rule A) (ts : Toks) (s : Stop) : Type 0 where
  pub used : Toks
  pub rest : Toks
  pub parts : ts ≡ used ++ rest
  pub left : s.0 ≡ length rest
  pub none : (t : Lexeme) (old new : Toks) → rest ≡ t ∷ old → r.reads (used ++ t ∷ new) ≡ Err (suc (length new), s.1)
  pub more : Toks
  pub value : A
  pub some : (follow : Toks) → r.Fine follow → r.reads (used ++ (more ++ follow)) ≡ Ok (value, follow)
  pub at_first : used ≡ [] → (more ≡ r.min) × (value ≡ r.least)

pub record Lawful {A : Type 0} (r : Rule A) : Type 0 where
  pub sound : (ts : Toks) (x : A) (rest : Toks) → r.reads ts ≡ Ok (x, rest) → r.spells x ts rest
  pub complete : (ts : Toks) (x : A) (rest : Toks) → r.spells x ts rest → r.reads ts ≡ Ok (x, rest)
  pub goes : (ts : Toks) (x : A) (rest : Toks) → r.reads ts ≡ Ok (x, rest) → ReadsTo r ts x rest
  pub fails : (ts : Toks) (s : Stop) → r.reads ts ≡ Err s → FailsAt r ts s
  pub bar_sound : (ts : Toks) (n : ℕ) (w : Barred) → r.reads ts ≡ Err (n, Some w) → (rest : Toks) × (n ≡ length rest) × r.bars ts rest w
  pub bar_complete : (ts rest : Toks) (w : Barred) → r.bars ts rest w → r.reads ts ≡ Err (length rest, Some w)
  pub bar_some : (ts rest : Toks) (w : Barred) → r.bars ts rest w → 0 < length rest
  pub shortest : (follow : Toks) → r.Fine follow → r.reads (r.min ++ follow) ≡ Ok (r.least, follow)

abbrev pub done : {A : Type 0} → A → Toks → Read A
done x ts = Ok (x, ts)

abbrev pub made : {A : Type 0} → A × Toks → Read A
made p = Ok p

made_is : {A : Type 0} (p q : A × Toks) → made p ≡ made q → p ≡ q
made_is p q e = cc

pub ok_parts : {A : Type 0} (x y : A) (ts us : Toks) → done x ts ≡ done y us → (x ≡ y) × (ts ≡ us)
ok_parts {A} x y ts us e =
    let pairs : (p q : A × Toks) → made p ≡ made q → p ≡ q = λ p q h. made_is p q h in
    (ap (λ (p : A × Toks). p.0) (pairs (x, ts) (y, us) e), ap (λ (p : A × Toks). p.1) (pairs (x, ts) (y, us) e))

abbrev pub failed : {A : Type 0} → Stop → Read A
failed n = Err n

pub no_ok : {A : Type 0} {P : Type 0} (n : Stop) (x : A) (ts : Toks) → failed n ≡ done x ts → P
no_ok n x ts e = absurd cc

pub err_is : (A : Type 0) (n m : Stop) → failed {A = A} n ≡ failed {A = A} m → n ≡ m
err_is A n m e = cc

abbrev some_word : Barred → Option Barred
some_word w = Some w

some_same : (v w : Barred) → some_word w ≡ some_word v → v ≡ w
some_same v w e = cc

-- ---- no token

pub pure-lawful : {A : Type 0} (a : A) → Lawful (pure a)
pure-lawful a = record {
  sound = λ ts x rest e. (sym (ok_parts a x ts rest e).0, (ok_parts a x ts rest e).1);
  complete = λ ts x rest s. ap (λ v. done v ts) (sym s.0) ∙ ap (done x) s.1;
  goes = λ ts x rest e. record {
    used = [];
    parts = (ok_parts a x ts rest e).1;
    same = λ t old new h. ap (λ v. done v (t ∷ new)) (ok_parts a x ts rest e).0;
    fine = λ follow f. ap (λ v. done v follow) (ok_parts a x ts rest e).0;
    at_first = λ _. (refl, sym (ok_parts a x ts rest e).0);
  };
  fails = λ ts n e. absurd cc;
  bar_sound = λ ts n w e. absurd cc;
  bar_complete = λ ts rest w h. absurd h;
  bar_some = λ ts rest w h. absurd h;
  shortest = λ follow f. refl;
}

-- ---- one token

token_none : {A : Type 0} (f : Lexeme → Option A) (t : Lexeme) (ts : Toks) → f t ≡ None → token_reads f (t ∷ ts) ≡ Err (bad (suc (length ts)))
token_none f t ts e = ap (λ o. either o (λ a. Ok (a, ts)) (Err (bad (suc (length ts))))) e

token_some : {A : Type 0} (f : Lexeme → Option A) (t : Lexeme) (ts : Toks) (a : A) → f t ≡ Some a → token_reads f (t ∷ ts) ≡ Ok (a, ts)
token_some f t ts a e = ap (λ o. either o (λ a. Ok (a, ts)) (Err (bad (suc (length ts))))) e

-- a token was read, and which
record TokenRead {A : Type 0} (f : Lexeme → Option A) (ts : Toks) (x : A) (rest : Toks) : Type 0 where
  t : Lexeme
  is : ts ≡ t ∷ rest
  test : f t ≡ Some x

token_was : {A : Type 0} (f : Lexeme → Option A) (ts : Toks) (x : A) (rest : Toks) → token_reads f ts ≡ Ok (x, rest) → TokenRead f ts x rest
token_was f [] x rest e = absurd cc
token_was {A} f (t ∷ ts) x rest e = by_test (f t) refl
  where
    by_test : (o : Option A) → f t ≡ o → TokenRead f (t ∷ ts) x rest
    by_test None h = no_ok (bad (suc (length ts))) x rest (sym (token_none f t ts h) ∙ e)
    by_test (Some a) h =
        let q : (a ≡ x) × (ts ≡ rest) = ok_parts a x ts rest (sym (token_some f t ts a h) ∙ e) in
        record { t = t; is = ap (λ (us : Toks). t ∷ us) q.1; test = h ∙ ap (λ (v : A). let o : Option A = Some v in o) q.0 }

cons_not_nil : {P : Type 0} (t : Lexeme) (ts : Toks) → t ∷ ts ≡ [] → P
cons_not_nil t ts e = absurd cc

nil_not_cons : {P : Type 0} (t : Lexeme) (ts : Toks) → [] ≡ t ∷ ts → P
nil_not_cons t ts e = absurd cc

head_is : (t u : Lexeme) (ts us : Toks) → t ∷ ts ≡ u ∷ us → t ≡ u
head_is t u ts us e = cc

tail_is : (t u : Lexeme) (ts us : Toks) → t ∷ ts ≡ u ∷ us → ts ≡ us
tail_is t u ts us e = cc

module _ {A : Type 0} (f : Lexeme → Option A) (ex : Lexeme) (a : A) (fits : f ex ≡ Some a) where
  token_fails : (ts : Toks) (n : Stop) → token_reads f ts ≡ Err n → FailsAt (token f ex a) ts n
  token_fails [] n e = record {
    used = [];
    rest = [];
    parts = refl;
    left = ap (λ (s : Stop). s.0) (err_is A n (bad 0) (sym e));
    none = λ t old new h. nil_not_cons t old h;
    more = ex ∷ [];
    value = a;
    some = λ follow _. token_some f ex follow a fits;
    at_first = λ _. (refl, refl);
  }
  token_fails (t ∷ ts) n e = by_test (f t) refl
    where
      by_test : (o : Option A) → f t ≡ o → FailsAt (token f ex a) (t ∷ ts) n
      by_test (Some b) h = absurd (no_ok {P = ⊥} n b ts (sym e ∙ token_some f t ts b h))
      by_test None h = record {
        used = [];
        rest = t ∷ ts;
        parts = refl;
        left = ap (λ (s : Stop). s.0) (err_is A n (bad (suc (length ts))) (sym e ∙ token_none f t ts h));
        none = λ u old new g. token_none f u new (ap f (sym (head_is t u ts old g)) ∙ h) ∙ ap (λ (w : Option Barred). failed {A = A} (suc (length new), w)) (sym (ap (λ (s : Stop). s.1) (err_is A n (bad (suc (length ts))) (sym e ∙ token_none f t ts h))));
        more = ex ∷ [];
        value = a;
        some = λ follow _. token_some f ex follow a fits;
        at_first = λ _. (refl, refl);
      }

  token_goes : (ts : Toks) (x : A) (rest : Toks) → token_reads f ts ≡ Ok (x, rest) → ReadsTo (token f ex a) ts x rest
  token_goes ts x rest e =
      let w = token_was f ts x rest e in
      record {
        used = w.t ∷ [];
        parts = w.is;
        same = λ t old new _. token_some f w.t (t ∷ new) x w.test;
        fine = λ follow _. token_some f w.t follow x w.test;
        at_first = λ h. cons_not_nil w.t [] h;
      }

  stop_words : (n m : ℕ) (v w : Option Barred) → failed {A = A} (n, v) ≡ failed {A = A} (m, w) → v ≡ w
  stop_words n m v w e = ap (λ (s : Stop). s.1) (err_is A (n, v) (m, w) e)

  none_some : (w : Barred) → None ≡ some_word w → ⊥
  none_some w e = cc

  token_bars : (ts : Toks) (n : ℕ) (w : Barred) → token_reads f ts ≡ Err (n, Some w) → (rest : Toks) × (n ≡ length rest) × ⊥
  token_bars [] n w e = absurd (none_some w (stop_words 0 n None (Some w) e))
  token_bars (t ∷ ts) n w e = by_test (f t) refl
    where
      by_test : (o : Option A) → f t ≡ o → (rest : Toks) × (n ≡ length rest) × ⊥
      by_test (Some b) h = absurd (no_ok {P = ⊥} (n, Some w) b ts (sym e ∙ token_some f t ts b h))
      by_test None h = absurd (none_some w (stop_words (suc (length ts)) n None (Some w) (sym (token_none f t ts h) ∙ e)))

  pub token-lawful : Lawful (token f ex a)
  token-lawful = record {
    sound = λ ts x rest e. let w = token_was f ts x rest e in (w.t, w.is, w.test);
    complete = λ ts x rest s. ap (token_reads f) s.1 ∙ token_some f s.0 rest x s.2;
    goes = token_goes;
    fails = token_fails;
    bar_sound = token_bars;
    bar_complete = λ ts rest w h. absurd h;
    bar_some = λ ts rest w h. absurd h;
    shortest = λ follow _. token_some f ex follow a fits;
  }

-- ---- one rule, and then another

nil_parts : (a b : Toks) → a ++ b ≡ [] → (a ≡ []) × (b ≡ [])
nil_parts [] b e = (refl, e)
nil_parts (t ∷ a) b e = cons_not_nil t (a ++ b) e

record BindRead {A B : Type 0} (p : Rule A) (q : A → Rule B) (ts : Toks) (y : B) (rest : Toks) : Type 0 where
  x : A
  mid : Toks
  first : p.reads ts ≡ Ok (x, mid)
  second : (q x).reads mid ≡ Ok (y, rest)

abbrev pub bind_by : {A B : Type 0} → (A → Rule B) → Read A → Read B
bind_by q o = and_then o (λ x rest. (q x).reads rest)

bind_was : {A B : Type 0} (p : Rule A) (q : A → Rule B) (ts : Toks) (y : B) (rest : Toks) → bind_by q (p.reads ts) ≡ Ok (y, rest) → BindRead p q ts y rest
bind_was {A} {B} p q ts y rest e = by_test (p.reads ts) refl
  where
    by_test : (o : Read A) → p.reads ts ≡ o → BindRead p q ts y rest
    by_test (Err n) h = no_ok n y rest (sym (ap (bind_by q) h) ∙ e)
    by_test (Ok m) h = record { x = m.0; mid = m.1; first = h; second = sym (ap (bind_by q) h) ∙ e }

joint_same : {A : Type 0} (p : Rule A) (ts : Toks) (x : A) (mid : Toks) (R : ReadsTo p ts x mid) (more rest : Toks) (t : Lexeme) (old new : Toks)
    → mid ≡ more ++ rest → rest ≡ t ∷ old → p.reads (R.used ++ (more ++ t ∷ new)) ≡ Ok (x, more ++ t ∷ new)
joint_same p ts x mid R [] rest t old new e h = R.same t old new (e ∙ h)
joint_same p ts x mid R (v ∷ vs) rest t old new e h = R.same v (vs ++ rest) (vs ++ t ∷ new) e

joint_fine : {A : Type 0} (p : Rule A) (ts : Toks) (x : A) (mid : Toks) (R : ReadsTo p ts x mid) (more rest tail : Toks)
    → mid ≡ more ++ rest → (more ≡ [] → p.Fine tail) → p.reads (R.used ++ (more ++ tail)) ≡ Ok (x, more ++ tail)
joint_fine p ts x mid R [] rest tail e h = R.fine tail (h refl)
joint_fine p ts x mid R (v ∷ vs) rest tail e h = R.same v (vs ++ rest) (vs ++ tail) e

module _ {A B : Type 0} (p : Rule A) (q : A → Rule B) (F : Toks → Type 0) (P : Lawful p) (Q : (x : A) → Lawful (q x))
    (calm : (x : A) (follow : Toks) → F follow → (q x).Fine follow)
    (seam : (x : A) (follow : Toks) → F follow → p.Fine ((q x).min ++ follow)) where
  bind_goes : (ts : Toks) (y : B) (rest : Toks) → bind_by q (p.reads ts) ≡ Ok (y, rest) → ReadsTo (bind p q F) ts y rest
  bind_goes ts y rest e =
      let w = bind_was p q ts y rest e in
      let R = P.goes ts w.x w.mid w.first in
      let S = (Q w.x).goes w.mid y rest w.second in
      record {
        used = R.used ++ S.used;
        parts = R.parts ∙ ap (λ (z : Toks). R.used ++ z) S.parts ∙ sym (append_assoc R.used S.used rest);
        same = λ t old new h. ap (λ (z : Toks). bind_by q (p.reads z)) (append_assoc R.used S.used (t ∷ new))
            ∙ ap (bind_by q) (joint_same p ts w.x w.mid R S.used rest t old new S.parts h) ∙ S.same t old new h;
        fine = λ follow g. ap (λ (z : Toks). bind_by q (p.reads z)) (append_assoc R.used S.used follow)
            ∙ ap (bind_by q) (joint_fine p ts w.x w.mid R S.used rest follow S.parts (λ h. subst (λ (m : Toks). p.Fine (m ++ follow)) (S.at_first h).0 (seam w.x follow g)))
            ∙ S.fine follow (calm w.x follow g);
        at_first = λ h.
            let parts = nil_parts R.used S.used h in
            let r = R.at_first parts.0 in
            let s = S.at_first parts.1 in
            (ap (λ (m : Toks). m ++ (q p.least).min) r.0 ∙ subst (λ (v : A). (q v).min ≡ []) r.1 s.0, subst (λ (v : A). y ≡ (q v).least) r.1 s.1);
      }

  bind_fails : (ts : Toks) (n : Stop) → bind_by q (p.reads ts) ≡ Err n → FailsAt (bind p q F) ts n
  bind_fails ts n e = by_test (p.reads ts) refl
    where
      by_test : (o : Read A) → p.reads ts ≡ o → FailsAt (bind p q F) ts n
      by_test (Err m) h =
          let G = P.fails ts n (h ∙ ap (failed {A = A}) (err_is B m n (sym (ap (bind_by q) h) ∙ e))) in
          let end = (q G.value).min in
          record {
            used = G.used;
            rest = G.rest;
            parts = G.parts;
            left = G.left;
            none = λ t old new g. ap (bind_by q) (G.none t old new g);
            more = G.more ++ end;
            value = (q G.value).least;
            some = λ follow g. ap (λ (z : Toks). bind_by q (p.reads (G.used ++ z))) (append_assoc G.more end follow)
                ∙ ap (bind_by q) (G.some (end ++ follow) (seam G.value follow g)) ∙ (Q G.value).shortest follow (calm G.value follow g);
            at_first = λ g. let a = G.at_first g in
                (ap (λ (m : Toks). m ++ end) a.0 ∙ ap (λ (v : A). p.min ++ (q v).min) a.1, ap (λ (v : A). (q v).least) a.1);
          }
      by_test (Ok m) h =
          let R = P.goes ts m.0 m.1 h in
          let G = (Q m.0).fails m.1 n (sym (ap (bind_by q) h) ∙ e) in
          record {
            used = R.used ++ G.used;
            rest = G.rest;
            parts = R.parts ∙ ap (λ (z : Toks). R.used ++ z) G.parts ∙ sym (append_assoc R.used G.used G.rest);
            left = G.left;
            none = λ t old new g. ap (λ (z : Toks). bind_by q (p.reads z)) (append_assoc R.used G.used (t ∷ new))
                ∙ ap (bind_by q) (joint_same p ts m.0 m.1 R G.used G.rest t old new G.parts g) ∙ G.none t old new g;
            more = G.more;
            value = G.value;
            some = λ follow g. ap (λ (z : Toks). bind_by q (p.reads z)) (append_assoc R.used G.used (G.more ++ follow))
                ∙ ap (bind_by q) (joint_fine p ts m.0 m.1 R G.used G.rest (G.more ++ follow) G.parts (λ k. subst (λ (z : Toks). p.Fine (z ++ follow)) (sym (G.at_first k).0) (seam m.0 follow g)))
                ∙ G.some follow (calm m.0 follow g);
            at_first = λ g.
                let parts = nil_parts R.used G.used g in
                let r = R.at_first parts.0 in
                let a = G.at_first parts.1 in
                (a.0 ∙ ap (λ (v : A). (q v).min) r.1 ∙ sym (ap (λ (z : Toks). z ++ (q p.least).min) r.0), a.1 ∙ ap (λ (v : A). (q v).least) r.1);
          }

  abbrev bind_bars : Toks → Toks → Barred → Type 0
  bind_bars ts rest w = p.bars ts rest w ⊎ ((x : A) × (mid : Toks) × p.spells x ts mid × (q x).bars mid rest w)

  bind_bar_sound : (ts : Toks) (n : ℕ) (w : Barred) → bind_by q (p.reads ts) ≡ Err (n, Some w) → (rest : Toks) × (n ≡ length rest) × bind_bars ts rest w
  bind_bar_sound ts n w e = by_test (p.reads ts) refl
    where
      by_test : (o : Read A) → p.reads ts ≡ o → (rest : Toks) × (n ≡ length rest) × bind_bars ts rest w
      by_test (Err m) h =
          let b = P.bar_sound ts n w (h ∙ ap (failed {A = A}) (err_is B m (n, Some w) (sym (ap (bind_by q) h) ∙ e))) in (b.0, b.1, inl b.2)
      by_test (Ok m) h =
          let b = (Q m.0).bar_sound m.1 n w (sym (ap (bind_by q) h) ∙ e) in (b.0, b.1, inr (m.0, m.1, P.sound ts m.0 m.1 h, b.2))

  bind_bar_complete : (ts rest : Toks) (w : Barred) → bind_bars ts rest w → bind_by q (p.reads ts) ≡ Err (length rest, Some w)
  bind_bar_complete ts rest w (inl b) = ap (bind_by q) (P.bar_complete ts rest w b)
  bind_bar_complete ts rest w (inr (x, mid, s, b)) = ap (bind_by q) (P.complete ts x mid s) ∙ (Q x).bar_complete mid rest w b

  bind_bar_some : (ts rest : Toks) (w : Barred) → bind_bars ts rest w → 0 < length rest
  bind_bar_some ts rest w (inl b) = P.bar_some ts rest w b
  bind_bar_some ts rest w (inr (x, mid, s, b)) = (Q x).bar_some mid rest w b

  pub bind-lawful : Lawful (bind p q F)
  bind-lawful = record {
    sound = λ ts y rest e. let w = bind_was p q ts y rest e in (w.x, w.mid, P.sound ts w.x w.mid w.first, (Q w.x).sound w.mid y rest w.second);
    complete = λ ts y rest s. ap (bind_by q) (P.complete ts s.0 s.1 s.2) ∙ (Q s.0).complete s.1 y rest s.3;
    goes = bind_goes;
    fails = bind_fails;
    bar_sound = bind_bar_sound;
    bar_complete = bind_bar_complete;
    bar_some = bind_bar_some;
    shortest = λ follow g. ap (λ (z : Toks). bind_by q (p.reads z)) (append_assoc p.min (q p.least).min follow)
        ∙ ap (bind_by q) (P.shortest ((q p.least).min ++ follow) (seam p.least follow g)) ∙ (Q p.least).shortest follow (calm p.least follow g);
  }

-- ---- one rule or another, by the first token

module _ {A B : Type 0} (f : Lexeme → Option B) (p : B → Rule A) (q : Rule A) where
  alt_some : (t : Lexeme) (ts : Toks) (b : B) → f t ≡ Some b → alt_reads f p q (t ∷ ts) ≡ (p b).reads ts
  alt_some t ts b e = ap (λ o. either o (λ b. (p b).reads ts) (q.reads (t ∷ ts))) e

  alt_none : (ts : Toks) → head f ts ≡ None → alt_reads f p q ts ≡ q.reads ts
  alt_none [] e = refl
  alt_none (t ∷ ts) e = ap (λ o. either o (λ b. (p b).reads ts) (q.reads (t ∷ ts))) e

  alt_sound : ((b : B) → Lawful (p b)) → Lawful q → (ts : Toks) (x : A) (rest : Toks) → alt_reads f p q ts ≡ Ok (x, rest) → alt_spells f p q x ts rest
  alt_sound P Q [] x rest e = Q.sound [] x rest e
  alt_sound P Q (t ∷ ts) x rest e = by_test (f t) refl
    where
      by_test : (o : Option B) → f t ≡ o → either_fact (f t) (λ b. (p b).spells x ts rest) (q.spells x (t ∷ ts) rest)
      by_test None h = subst (λ (o : Option B). either_fact o (λ b. (p b).spells x ts rest) (q.spells x (t ∷ ts) rest)) (sym h) (Q.sound (t ∷ ts) x rest (sym (alt_none (t ∷ ts) h) ∙ e))
      by_test (Some b) h = subst (λ (o : Option B). either_fact o (λ b. (p b).spells x ts rest) (q.spells x (t ∷ ts) rest)) (sym h) ((P b).sound ts x rest (sym (alt_some t ts b h) ∙ e))

  alt_complete : ((b : B) → Lawful (p b)) → Lawful q → (ts : Toks) (x : A) (rest : Toks) → alt_spells f p q x ts rest → alt_reads f p q ts ≡ Ok (x, rest)
  alt_complete P Q [] x rest s = Q.complete [] x rest s
  alt_complete P Q (t ∷ ts) x rest s = by_test (f t) refl
    where
      by_test : (o : Option B) → f t ≡ o → alt_reads f p q (t ∷ ts) ≡ Ok (x, rest)
      by_test None h = alt_none (t ∷ ts) h ∙ Q.complete (t ∷ ts) x rest (subst (λ (o : Option B). either_fact o (λ b. (p b).spells x ts rest) (q.spells x (t ∷ ts) rest)) h s)
      by_test (Some b) h = alt_some t ts b h ∙ (P b).complete ts x rest (subst (λ (o : Option B). either_fact o (λ b. (p b).spells x ts rest) (q.spells x (t ∷ ts) rest)) h s)

  alt_bar_sound : ((b : B) → Lawful (p b)) → Lawful q → (ts : Toks) (n : ℕ) (w : Barred) → alt_reads f p q ts ≡ Err (n, Some w) → (rest : Toks) × (n ≡ length rest) × alt_bars f p q ts rest w
  alt_bar_sound P Q [] n w e = Q.bar_sound [] n w e
  alt_bar_sound P Q (t ∷ ts) n w e = by_test (f t) refl
    where
      by_test : (o : Option B) → f t ≡ o → (rest : Toks) × (n ≡ length rest) × alt_bars f p q (t ∷ ts) rest w
      by_test None h =
          let b = Q.bar_sound (t ∷ ts) n w (sym (alt_none (t ∷ ts) h) ∙ e) in (b.0, b.1, subst (λ (o : Option B). either_fact o (λ c. (p c).bars ts b.0 w) (q.bars (t ∷ ts) b.0 w)) (sym h) b.2)
      by_test (Some c) h =
          let b = (P c).bar_sound ts n w (sym (alt_some t ts c h) ∙ e) in (b.0, b.1, subst (λ (o : Option B). either_fact o (λ c. (p c).bars ts b.0 w) (q.bars (t ∷ ts) b.0 w)) (sym h) b.2)

  alt_bar_complete : ((b : B) → Lawful (p b)) → Lawful q → (ts rest : Toks) (w : Barred) → alt_bars f p q ts rest w → alt_reads f p q ts ≡ Err (length rest, Some w)
  alt_bar_complete P Q [] rest w s = Q.bar_complete [] rest w s
  alt_bar_complete P Q (t ∷ ts) rest w s = by_test (f t) refl
    where
      by_test : (o : Option B) → f t ≡ o → alt_reads f p q (t ∷ ts) ≡ Err (length rest, Some w)
      by_test None h = alt_none (t ∷ ts) h ∙ Q.bar_complete (t ∷ ts) rest w (subst (λ (o : Option B). either_fact o (λ b. (p b).bars ts rest w) (q.bars (t ∷ ts) rest w)) h s)
      by_test (Some b) h = alt_some t ts b h ∙ (P b).bar_complete ts rest w (subst (λ (o : Option B). either_fact o (λ b. (p b).bars ts rest w) (q.bars (t ∷ ts) rest w)) h s)

  alt_bar_some : ((b : B) → Lawful (p b)) → Lawful q → (ts rest : Toks) (w : Barred) → alt_bars f p q ts rest w → 0 < length rest
  alt_bar_some P Q [] rest w s = Q.bar_some [] rest w s
  alt_bar_some P Q (t ∷ ts) rest w s = by_test (f t) s
    where
      by_test : (o : Option B) → either_fact o (λ b. (p b).bars ts rest w) (q.bars (t ∷ ts) rest w) → 0 < length rest
      by_test None s = Q.bar_some (t ∷ ts) rest w s
      by_test (Some b) s = (P b).bar_some ts rest w s

-- the first token stays, so the test says the same of it
head_stays : {B : Type 0} (f : Lexeme → Option B) (used rest : Toks) (t : Lexeme) (old new ts : Toks) → ts ≡ used ++ rest → rest ≡ t ∷ old → head f ts ≡ None → head f (used ++ t ∷ new) ≡ None
head_stays f [] rest t old new ts e h g = ap (head f) (sym (e ∙ h)) ∙ g
head_stays f (v ∷ vs) rest t old new ts e h g = ap (head f) (sym e) ∙ g

head_fine : {B : Type 0} (f : Lexeme → Option B) (used rest tail ts : Toks) → ts ≡ used ++ rest → (used ≡ [] → head f tail ≡ None) → head f ts ≡ None → head f (used ++ tail) ≡ None
head_fine f [] rest tail ts e h g = h refl
head_fine f (v ∷ vs) rest tail ts e h g = ap (head f) (sym e) ∙ g

module _ {A B : Type 0} (f : Lexeme → Option B) (p : B → Rule A) (q : Rule A) (F : Toks → Type 0) (P : (b : B) → Lawful (p b)) (Q : Lawful q)
    (calm : (b : B) (follow : Toks) → F follow → (p b).Fine follow) (calm_q : (follow : Toks) → F follow → q.Fine follow)
    (apart : (follow : Toks) → F follow → head f (q.min ++ follow) ≡ None) where
  q_goes : (ts : Toks) (x : A) (rest : Toks) → head f ts ≡ None → q.reads ts ≡ Ok (x, rest) → ReadsTo (alt f p q F) ts x rest
  q_goes ts x rest none e =
      let S = Q.goes ts x rest e in
      record {
        used = S.used;
        parts = S.parts;
        same = λ t old new h. alt_none f p q (S.used ++ t ∷ new) (head_stays f S.used rest t old new ts S.parts h none) ∙ S.same t old new h;
        fine = λ follow g. alt_none f p q (S.used ++ follow) (head_fine f S.used rest follow ts S.parts (λ h. subst (λ (m : Toks). head f (m ++ follow) ≡ None) (S.at_first h).0 (apart follow g)) none) ∙ S.fine follow (calm_q follow g);
        at_first = S.at_first;
      }

  q_fails : (ts : Toks) (n : Stop) → head f ts ≡ None → q.reads ts ≡ Err n → FailsAt (alt f p q F) ts n
  q_fails ts n none e =
      let G = Q.fails ts n e in
      record {
        used = G.used;
        rest = G.rest;
        parts = G.parts;
        left = G.left;
        none = λ t old new h. alt_none f p q (G.used ++ t ∷ new) (head_stays f G.used G.rest t old new ts G.parts h none) ∙ G.none t old new h;
        more = G.more;
        value = G.value;
        some = λ follow g. alt_none f p q (G.used ++ (G.more ++ follow))
            (head_fine f G.used G.rest (G.more ++ follow) ts G.parts (λ h. subst (λ (m : Toks). head f (m ++ follow) ≡ None) (sym (G.at_first h).0) (apart follow g)) none) ∙ G.some follow (calm_q follow g);
        at_first = G.at_first;
      }

  alt_goes : (ts : Toks) (x : A) (rest : Toks) → alt_reads f p q ts ≡ Ok (x, rest) → ReadsTo (alt f p q F) ts x rest
  alt_goes [] x rest e = q_goes [] x rest refl e
  alt_goes (t ∷ ts) x rest e = by_test (f t) refl
    where
      by_test : (o : Option B) → f t ≡ o → ReadsTo (alt f p q F) (t ∷ ts) x rest
      by_test None h = q_goes (t ∷ ts) x rest h (sym (alt_none f p q (t ∷ ts) h) ∙ e)
      by_test (Some b) h =
          let S = (P b).goes ts x rest (sym (alt_some f p q t ts b h) ∙ e) in
          record {
            used = t ∷ S.used;
            parts = ap (λ (z : Toks). t ∷ z) S.parts;
            same = λ u old new g. alt_some f p q t (S.used ++ u ∷ new) b h ∙ S.same u old new g;
            fine = λ follow g. alt_some f p q t (S.used ++ follow) b h ∙ S.fine follow (calm b follow g);
            at_first = λ g. cons_not_nil t S.used g;
          }

  alt_fails : (ts : Toks) (n : Stop) → alt_reads f p q ts ≡ Err n → FailsAt (alt f p q F) ts n
  alt_fails [] n e = q_fails [] n refl e
  alt_fails (t ∷ ts) n e = by_test (f t) refl
    where
      by_test : (o : Option B) → f t ≡ o → FailsAt (alt f p q F) (t ∷ ts) n
      by_test None h = q_fails (t ∷ ts) n h (sym (alt_none f p q (t ∷ ts) h) ∙ e)
      by_test (Some b) h =
          let G = (P b).fails ts n (sym (alt_some f p q t ts b h) ∙ e) in
          record {
            used = t ∷ G.used;
            rest = G.rest;
            parts = ap (λ (z : Toks). t ∷ z) G.parts;
            left = G.left;
            none = λ u old new g. alt_some f p q t (G.used ++ u ∷ new) b h ∙ G.none u old new g;
            more = G.more;
            value = G.value;
            some = λ follow g. alt_some f p q t (G.used ++ (G.more ++ follow)) b h ∙ G.some follow (calm b follow g);
            at_first = λ g. cons_not_nil t G.used g;
          }

  pub alt-lawful : Lawful (alt f p q F)
  alt-lawful = record {
    sound = alt_sound f p q P Q;
    complete = alt_complete f p q P Q;
    goes = alt_goes;
    fails = alt_fails;
    bar_sound = alt_bar_sound f p q P Q;
    bar_complete = alt_bar_complete f p q P Q;
    bar_some = alt_bar_some f p q P Q;
    shortest = λ follow g. alt_none f p q (q.min ++ follow) (apart follow g) ∙ Q.shortest follow (calm_q follow g);
  }

-- ---- a rule that no barred word begins

module _ {A : Type 0} (f : Lexeme → Option Barred) (q : Rule A) where
  barred_some : (t : Lexeme) (ts : Toks) (b : Barred) → f t ≡ Some b → barred_reads f q (t ∷ ts) ≡ Err (barred_at (suc (length ts)) b)
  barred_some t ts b e = ap (λ o. either o (λ b. Err (barred_at (suc (length ts)) b)) (q.reads (t ∷ ts))) e

  barred_none : (ts : Toks) → head f ts ≡ None → barred_reads f q ts ≡ q.reads ts
  barred_none [] e = refl
  barred_none (t ∷ ts) e = ap (λ o. either o (λ b. Err (barred_at (suc (length ts)) b)) (q.reads (t ∷ ts))) e

  barred_sound : Lawful q → (ts : Toks) (x : A) (rest : Toks) → barred_reads f q ts ≡ Ok (x, rest) → barred_spells f q x ts rest
  barred_sound Q [] x rest e = Q.sound [] x rest e
  barred_sound Q (t ∷ ts) x rest e = by_test (f t) refl
    where
      by_test : (o : Option Barred) → f t ≡ o → either_fact (f t) (λ b. ⊥) (q.spells x (t ∷ ts) rest)
      by_test None h = subst (λ (o : Option Barred). either_fact o (λ b. ⊥) (q.spells x (t ∷ ts) rest)) (sym h) (Q.sound (t ∷ ts) x rest (sym (barred_none (t ∷ ts) h) ∙ e))
      by_test (Some b) h = absurd (no_ok {P = ⊥} (barred_at (suc (length ts)) b) x rest (sym (barred_some t ts b h) ∙ e))

  barred_complete : Lawful q → (ts : Toks) (x : A) (rest : Toks) → barred_spells f q x ts rest → barred_reads f q ts ≡ Ok (x, rest)
  barred_complete Q [] x rest s = Q.complete [] x rest s
  barred_complete Q (t ∷ ts) x rest s = by_test (f t) refl
    where
      by_test : (o : Option Barred) → f t ≡ o → barred_reads f q (t ∷ ts) ≡ Ok (x, rest)
      by_test None h = barred_none (t ∷ ts) h ∙ Q.complete (t ∷ ts) x rest (subst (λ (o : Option Barred). either_fact o (λ b. ⊥) (q.spells x (t ∷ ts) rest)) h s)
      by_test (Some b) h = absurd (subst (λ (o : Option Barred). either_fact o (λ b. ⊥) (q.spells x (t ∷ ts) rest)) h s)

  barred_bar_sound : Lawful q → (ts : Toks) (n : ℕ) (w : Barred) → barred_reads f q ts ≡ Err (n, Some w) → (rest : Toks) × (n ≡ length rest) × barred_bars f q ts rest w
  barred_bar_sound Q [] n w e = Q.bar_sound [] n w e
  barred_bar_sound Q (t ∷ ts) n w e = by_test (f t) refl
    where
      by_test : (o : Option Barred) → f t ≡ o → (rest : Toks) × (n ≡ length rest) × barred_bars f q (t ∷ ts) rest w
      by_test None h =
          let b = Q.bar_sound (t ∷ ts) n w (sym (barred_none (t ∷ ts) h) ∙ e) in (b.0, b.1, subst (λ (o : Option Barred). either_fact o (λ c. (w ≡ c) × (b.0 ≡ t ∷ ts)) (q.bars (t ∷ ts) b.0 w)) (sym h) b.2)
      by_test (Some c) h =
          let same = err_is A (barred_at (suc (length ts)) c) (n, Some w) (sym (barred_some t ts c h) ∙ e) in
          let word : w ≡ c = some_same w c (ap (λ (s : Stop). s.1) same) in
          let len : n ≡ suc (length ts) = sym (ap (λ (s : Stop). s.0) same) in
          (t ∷ ts, len, subst (λ (o : Option Barred). either_fact o (λ c. (w ≡ c) × (t ∷ ts ≡ t ∷ ts)) (q.bars (t ∷ ts) (t ∷ ts) w)) (sym h) (word, refl))

  barred_bar_complete : Lawful q → (ts rest : Toks) (w : Barred) → barred_bars f q ts rest w → barred_reads f q ts ≡ Err (length rest, Some w)
  barred_bar_complete Q [] rest w s = Q.bar_complete [] rest w s
  barred_bar_complete Q (t ∷ ts) rest w s = by_test (f t) refl
    where
      by_test : (o : Option Barred) → f t ≡ o → barred_reads f q (t ∷ ts) ≡ Err (length rest, Some w)
      by_test None h = barred_none (t ∷ ts) h ∙ Q.bar_complete (t ∷ ts) rest w (subst (λ (o : Option Barred). either_fact o (λ b. (w ≡ b) × (rest ≡ t ∷ ts)) (q.bars (t ∷ ts) rest w)) h s)
      by_test (Some b) h =
          let s = subst (λ (o : Option Barred). either_fact o (λ b. (w ≡ b) × (rest ≡ t ∷ ts)) (q.bars (t ∷ ts) rest w)) h s in
          barred_some t ts b h ∙ ap (λ (v : Barred). failed {A = A} (suc (length ts), Some v)) (sym s.0) ∙ ap (λ (z : Toks). failed {A = A} (length z, Some w)) (sym s.1)

  barred_bar_some : Lawful q → (ts rest : Toks) (w : Barred) → barred_bars f q ts rest w → 0 < length rest
  barred_bar_some Q [] rest w s = Q.bar_some [] rest w s
  barred_bar_some Q (t ∷ ts) rest w s = by_test (f t) s
    where
      by_test : (o : Option Barred) → either_fact o (λ b. (w ≡ b) × (rest ≡ t ∷ ts)) (q.bars (t ∷ ts) rest w) → 0 < length rest
      by_test None s = Q.bar_some (t ∷ ts) rest w s
      by_test (Some b) s = subst (λ (z : Toks). 0 < length z) (sym s.1) (omega arith)

module _ {A : Type 0} (f : Lexeme → Option Barred) (q : Rule A) (F : Toks → Type 0) (Q : Lawful q) (calm : (follow : Toks) → F follow → q.Fine follow)
    (apart : (follow : Toks) → F follow → head f (q.min ++ follow) ≡ None) where
  unbarred_goes : (ts : Toks) (x : A) (rest : Toks) → head f ts ≡ None → q.reads ts ≡ Ok (x, rest) → ReadsTo (barred f q F) ts x rest
  unbarred_goes ts x rest none e =
      let S = Q.goes ts x rest e in
      record {
        used = S.used;
        parts = S.parts;
        same = λ t old new h. barred_none f q (S.used ++ t ∷ new) (head_stays f S.used rest t old new ts S.parts h none) ∙ S.same t old new h;
        fine = λ follow g. barred_none f q (S.used ++ follow) (head_fine f S.used rest follow ts S.parts (λ h. subst (λ (m : Toks). head f (m ++ follow) ≡ None) (S.at_first h).0 (apart follow g)) none) ∙ S.fine follow (calm follow g);
        at_first = S.at_first;
      }

  unbarred_fails : (ts : Toks) (n : Stop) → head f ts ≡ None → q.reads ts ≡ Err n → FailsAt (barred f q F) ts n
  unbarred_fails ts n none e =
      let G = Q.fails ts n e in
      record {
        used = G.used;
        rest = G.rest;
        parts = G.parts;
        left = G.left;
        none = λ t old new h. barred_none f q (G.used ++ t ∷ new) (head_stays f G.used G.rest t old new ts G.parts h none) ∙ G.none t old new h;
        more = G.more;
        value = G.value;
        some = λ follow g. barred_none f q (G.used ++ (G.more ++ follow))
            (head_fine f G.used G.rest (G.more ++ follow) ts G.parts (λ h. subst (λ (m : Toks). head f (m ++ follow) ≡ None) (sym (G.at_first h).0) (apart follow g)) none) ∙ G.some follow (calm follow g);
        at_first = G.at_first;
      }

  barred_goes : (ts : Toks) (x : A) (rest : Toks) → barred_reads f q ts ≡ Ok (x, rest) → ReadsTo (barred f q F) ts x rest
  barred_goes [] x rest e = unbarred_goes [] x rest refl e
  barred_goes (t ∷ ts) x rest e = by_test (f t) refl
    where
      by_test : (o : Option Barred) → f t ≡ o → ReadsTo (barred f q F) (t ∷ ts) x rest
      by_test None h = unbarred_goes (t ∷ ts) x rest h (sym (barred_none f q (t ∷ ts) h) ∙ e)
      by_test (Some b) h = absurd (no_ok {P = ⊥} (barred_at (suc (length ts)) b) x rest (sym (barred_some f q t ts b h) ∙ e))

  barred_fails : (ts : Toks) (n : Stop) → barred_reads f q ts ≡ Err n → FailsAt (barred f q F) ts n
  barred_fails [] n e = unbarred_fails [] n refl e
  barred_fails (t ∷ ts) n e = by_test (f t) refl
    where
      by_test : (o : Option Barred) → f t ≡ o → FailsAt (barred f q F) (t ∷ ts) n
      by_test None h = unbarred_fails (t ∷ ts) n h (sym (barred_none f q (t ∷ ts) h) ∙ e)
      by_test (Some b) h =
          let same : n ≡ barred_at (suc (length ts)) b = err_is A n (barred_at (suc (length ts)) b) (sym e ∙ barred_some f q t ts b h) in
          record {
            used = [];
            rest = t ∷ ts;
            parts = refl;
            left = ap (λ (s : Stop). s.0) same;
            none = λ u old new g. barred_some f q u new b (ap f (sym (head_is t u ts old g)) ∙ h) ∙ ap (λ (w : Option Barred). failed {A = A} (suc (length new), w)) (sym (ap (λ (s : Stop). s.1) same));
            more = q.min;
            value = q.least;
            some = λ follow g. barred_none f q (q.min ++ follow) (apart follow g) ∙ Q.shortest follow (calm follow g);
            at_first = λ _. (refl, refl);
          }

  pub barred-lawful : Lawful (barred f q F)
  barred-lawful = record {
    sound = barred_sound f q Q;
    complete = barred_complete f q Q;
    goes = barred_goes;
    fails = barred_fails;
    bar_sound = barred_bar_sound f q Q;
    bar_complete = barred_bar_complete f q Q;
    bar_some = barred_bar_some f q Q;
    shortest = λ follow g. barred_none f q (q.min ++ follow) (apart follow g) ∙ Q.shortest follow (calm follow g);
  }

-- ---- rules made of these

pub map-lawful : {A B : Type 0} (f : A → B) (r : Rule A) → Lawful r → Lawful (map_rule f r)
map-lawful f r R = bind-lawful r (λ x. pure (f x)) r.Fine R (λ x. pure-lawful (f x)) (λ x follow g. tt) (λ x follow g. g)

pub also-lawful : {A B : Type 0} (p : Rule A) (q : Rule B) → Lawful p → Lawful q → ((follow : Toks) → q.Fine follow → p.Fine (q.min ++ follow)) → Lawful (also p q)
also-lawful p q P Q seam = bind-lawful p (λ _. q) q.Fine P (λ _. Q) (λ x follow g. g) (λ x follow g. seam follow g)

pub ended-lawful : {A B : Type 0} (p : Rule A) (q : Rule B) → Lawful p → Lawful q → ((follow : Toks) → q.Fine follow → p.Fine (q.min ++ follow)) → Lawful (ended p q)
ended-lawful p q P Q seam = bind-lawful p (λ x. map_rule (λ _. x) q) q.Fine P (λ x. map-lawful (λ _. x) q Q) (λ x follow g. g)
    (λ x follow g. subst (λ (m : Toks). p.Fine (m ++ follow)) (sym (append-nil q.min)) (seam follow g))

pub optional-lawful : {A B : Type 0} (f : Lexeme → Option B) (p : B → Rule A) → ((b : B) → Lawful (p b)) → Lawful (optional f p)
optional-lawful f p P = alt-lawful f (λ b. map_rule Some (p b)) (pure None) (Apart f p) (λ b. map-lawful Some (p b) (P b)) (pure-lawful None) (λ b follow g. g.1 b) (λ follow g. tt) (λ follow g. g.0)

pub loop-min : {A B : Type 0} (n : ℕ) (f : Lexeme → Option B) (p : B → A → Rule A) (a : A) → (loop n f p a).min ≡ []
loop-min zero f p a = refl
loop-min (suc n) f p a = refl

pub loop-calm : {A B : Type 0} (n : ℕ) (f : Lexeme → Option B) (p : B → A → Rule A) (a : A) (follow : Toks) → (head f follow ≡ None) × ((b : B) (a : A) → (p b a).Fine follow) → (loop n f p a).Fine follow
loop-calm zero f p a follow g = tt
loop-calm (suc n) f p a follow g = g

pub loop-lawful : {A B : Type 0} (n : ℕ) (f : Lexeme → Option B) (p : B → A → Rule A) (a : A) → ((b : B) (a : A) → Lawful (p b a)) → Lawful (loop n f p a)
loop-lawful zero f p a P = pure-lawful a
loop-lawful {A} {B} (suc n) f p a P =
    let F : Toks → Type 0 = λ follow. (head f follow ≡ None) × ((b : B) (a : A) → (p b a).Fine follow) in
    alt-lawful f (λ b. bind (p b a) (λ c. loop n f p c) F) (pure a) F
    (λ b. bind-lawful (p b a) (λ c. loop n f p c) F (P b a) (λ c. loop-lawful n f p c P) (λ c follow g. loop-calm n f p c follow g)
    (λ c follow g. subst (λ (m : Toks). (p b a).Fine (m ++ follow)) (sym (loop-min n f p c)) (g.1 b a)))
    (pure-lawful a) (λ b follow g. g) (λ follow g. tt) (λ follow g. g.0)

-- what stands where a list ends is what stands where one of its members does
module _ {A : Type 0} (r : Rule (Option A)) (F : Toks → Type 0) (R : Lawful r) (calm : (follow : Toks) → F follow → r.Fine follow) (least : r.least ≡ None)
    (begins : (follow : Toks) → F (r.min ++ follow)) where
  pub until-min : (k : ℕ) (all : List A) → (until k r F all).min ≡ r.min
  unfolding until
  until-min zero all = append-nil r.min
  until-min (suc k) all = ap (λ (o : Option A). r.min ++ (until_by (λ v. until k r F (pushed all v)) all o).min) least ∙ append-nil r.min

  pub until-fine : (k : ℕ) (all : List A) (follow : Toks) → F follow → (until k r F all).Fine follow
  unfolding until
  until-fine zero all follow g = calm follow g
  until-fine (suc k) all follow g = g

  pub until-lawful : (k : ℕ) (all : List A) → Lawful (until k r F all)
  unfolding until
  until-lawful zero all = map-lawful (λ _. all) r R
  until-lawful (suc k) all =
      let next : A → Rule (List A) = λ v. until k r F (pushed all v) in
      let each : (o : Option A) → Lawful (until_by next all o) = λ o. elim o as (λ o. Lawful (until_by next all o)) [ None ↦ pure-lawful all | Some v ↦ until-lawful k (pushed all v) ] in
      bind-lawful r (until_by next all) F R each
      (λ o follow g. elim o as (λ o. (until_by next all o).Fine follow) [ None ↦ tt | Some v ↦ until-fine k (pushed all v) follow g ])
      (λ o follow g. calm _ (elim o as (λ o. F ((until_by next all o).min ++ follow)) [ None ↦ g | Some v ↦ subst (λ (m : Toks). F (m ++ follow)) (sym (until-min k (pushed all v))) (begins follow) ]))

-- where a series may end: no barred word, no further member, and where each member may end
pub record Calm {S B : Type 0} (g : S → Lexeme → Option Barred) (f : S → Lexeme → Option B) (p : S → B → Rule S) (follow : Toks) : Type 0 where
  pub unbarred : (s : S) → head (g s) follow ≡ None
  pub over : (s : S) → head (f s) follow ≡ None
  pub parts : (s : S) (b : B) → (p s b).Fine follow

module _ {S B : Type 0} (g : S → Lexeme → Option Barred) (f : S → Lexeme → Option B) (p : S → B → Rule S) (F : Toks → Type 0) (P : (s : S) (b : B) → Lawful (p s b))
    (calm : (follow : Toks) → F follow → Calm g f p follow) where
  pub series-min : (k : ℕ) (s : S) → (series k g f p F s).min ≡ []
  unfolding series
  series-min zero s = refl
  series-min (suc k) s = refl

  pub series-fine : (k : ℕ) (s : S) (follow : Toks) → F follow → (series k g f p F s).Fine follow
  unfolding series
  series-fine zero s follow h = tt
  series-fine (suc k) s follow h = h

  pub series-lawful : (k : ℕ) (s : S) → Lawful (series k g f p F s)
  unfolding series
  series-lawful zero s = pure-lawful s
  series-lawful (suc k) s =
      barred-lawful (g s) (alt (f s) (λ b. bind (p s b) (λ v. series k g f p F v) F) (pure s) F) F
      (alt-lawful (f s) (λ b. bind (p s b) (λ v. series k g f p F v) F) (pure s) F
      (λ b. bind-lawful (p s b) (λ v. series k g f p F v) F (P s b) (λ v. series-lawful k v) (λ v follow h. series-fine k v follow h)
      (λ v follow h. subst (λ (m : Toks). (p s b).Fine (m ++ follow)) (sym (series-min k v)) ((calm follow h).parts s b)))
      (pure-lawful s) (λ b follow h. h) (λ follow h. tt) (λ follow h. (calm follow h).over s))
      (λ follow h. h) (λ follow h. (calm follow h).unbarred s)

-- ---- a loop of the code, which has read some turns

-- reading goes on from here as from the start, with turns enough
pub record Turns {A B : Type 0} (f : Lexeme → Option B) (p : B → A → Rule A) (a : A) (ts : Toks) (whole : Read A) : Type 0 where
  pub turns : ℕ
  pub enough : length ts < turns
  pub goes_on : (loop turns f p a).reads ts ≡ whole

turn : {A B : Type 0} (n : ℕ) (f : Lexeme → Option B) (p : B → A → Rule A) (a : A) (t : Lexeme) (ts : Toks) (b : B) → f t ≡ Some b
    → (loop (suc n) f p a).reads (t ∷ ts) ≡ bind_by (λ c. loop n f p c) ((p b a).reads ts)
turn n f p a t ts b e = ap (λ o. either o (λ b. bind_by (λ c. loop n f p c) ((p b a).reads ts)) (Ok (a, t ∷ ts))) e

turns_go_at : {A B : Type 0} (f : Lexeme → Option B) (p : B → A → Rule A) (a c : A) (t : Lexeme) (ts rest : Toks) (b : B) (whole : Read A)
    → (n : ℕ) → length (t ∷ ts) < n → (loop n f p a).reads (t ∷ ts) ≡ whole → f t ≡ Some b → (p b a).reads ts ≡ Ok (c, rest) → length rest ≤ length ts → Turns f p c rest whole
turns_go_at f p a c t ts rest b whole zero e g h r short = absurd (omega arith)
turns_go_at f p a c t ts rest b whole (suc n) e g h r short =
    record { turns = n; enough = omega arith; goes_on = sym (turn n f p a t ts b h ∙ ap (bind_by (λ c. loop n f p c)) r) ∙ g }

turns_fail_at : {A B : Type 0} (f : Lexeme → Option B) (p : B → A → Rule A) (a : A) (t : Lexeme) (ts : Toks) (b : B) (n : Stop) (whole : Read A)
    → (k : ℕ) → length (t ∷ ts) < k → (loop k f p a).reads (t ∷ ts) ≡ whole → f t ≡ Some b → (p b a).reads ts ≡ Err n → whole ≡ Err n
turns_fail_at f p a t ts b n whole zero e g h r = absurd (omega arith)
turns_fail_at f p a t ts b n whole (suc m) e g h r =
    sym g ∙ turn m f p a t ts b h ∙ ap (bind_by (λ c. loop m f p c)) r

turns_end_at : {A B : Type 0} (f : Lexeme → Option B) (p : B → A → Rule A) (a : A) (ts : Toks) (whole : Read A) → (k : ℕ) → length ts < k → (loop k f p a).reads ts ≡ whole → head f ts ≡ None → whole ≡ Ok (a, ts)
turns_end_at f p a ts whole zero e g h = absurd (omega arith)
turns_end_at f p a [] whole (suc m) e g h = sym g
turns_end_at f p a (t ∷ ts) whole (suc m) e g h =
    sym g ∙ ap (λ o. either o (λ b. bind_by (λ c. loop m f p c) ((p b a).reads ts)) (Ok (a, t ∷ ts))) h

pub turns_go : {A B : Type 0} (f : Lexeme → Option B) (p : B → A → Rule A) (a c : A) (t : Lexeme) (ts rest : Toks) (b : B) (whole : Read A)
    → Turns f p a (t ∷ ts) whole → f t ≡ Some b → (p b a).reads ts ≡ Ok (c, rest) → length rest ≤ length ts → Turns f p c rest whole
turns_go f p a c t ts rest b whole T = turns_go_at f p a c t ts rest b whole T.turns T.enough T.goes_on

pub turns_fail : {A B : Type 0} (f : Lexeme → Option B) (p : B → A → Rule A) (a : A) (t : Lexeme) (ts : Toks) (b : B) (n : Stop) (whole : Read A)
    → Turns f p a (t ∷ ts) whole → f t ≡ Some b → (p b a).reads ts ≡ Err n → whole ≡ Err n
turns_fail f p a t ts b n whole T = turns_fail_at f p a t ts b n whole T.turns T.enough T.goes_on

pub turns_end : {A B : Type 0} (f : Lexeme → Option B) (p : B → A → Rule A) (a : A) (ts : Toks) (whole : Read A) → Turns f p a ts whole → head f ts ≡ None → whole ≡ Ok (a, ts)
turns_end f p a ts whole T = turns_end_at f p a ts whole T.turns T.enough T.goes_on

pub turns_start : {A B : Type 0} (f : Lexeme → Option B) (p : B → A → Rule A) (first : Rule A) (n : ℕ) (ts rest : Toks) (a : A)
    → first.reads ts ≡ Ok (a, rest) → length rest < n → Turns f p a rest (bind_by (λ l. loop n f p l) (first.reads ts))
turns_start f p first n ts rest a e enough = record { turns = n; enough = enough; goes_on = sym (ap (bind_by (λ l. loop n f p l)) e) }

pub loop_start : {A B : Type 0} (f : Lexeme → Option B) (p : B → A → Rule A) (n : ℕ) (a : A) (ts : Toks) → length ts < n → Turns f p a ts ((loop n f p a).reads ts)
loop_start f p n a ts enough = record { turns = n; enough = enough; goes_on = refl }
