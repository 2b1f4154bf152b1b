-- The three laws of a lawful rule.
use Rattle.std.proofs.Common.{◌≡◌, ◌<◌, ◌+◌, ℕ, suc, [], ◌∷◌, ◌++◌, length, Option, Some, None, Result, Ok, Err, refl, sym, ap, subst, ◌∙◌, append_assoc, arith, length-append}
use Rattle.std.proofs.lemmas.List.{append-nil}
use Rattle.sb_grammar.specs.declared.lexeme.Lexeme.{Lexeme}
use Rattle.sb_grammar.specs.declared.choice.Barred.{Barred}
use Rattle.sb_grammar.specs.Rules.{Toks, Stop, bad, Read, Rule}
use Rattle.sb_grammar.specs.Whole.{whole_by, whole, Begins, FirstPlace, IsBarred, IsGrammar}
use Rattle.sb_grammar.proofs.Laws.{Lawful, ok_parts, done, failed, no_ok}

abbrev value : {A : Type 0} → A → Result A Stop
value x = Ok x

abbrev place : {A : Type 0} → Stop → Result A Stop
place n = Err n

value_is : {A : Type 0} (x y : A) → value x ≡ value y → x ≡ y
value_is x y e = cc

place_is : (A : Type 0) (n m : Stop) → place {A = A} n ≡ place {A = A} m → n ≡ m
place_is A n m e = cc

value_no_place : {A : Type 0} {P : Type 0} (n : Stop) (x : A) → place n ≡ value x → P
value_no_place n x e = absurd cc

abbrev some_barred : Barred → Option Barred
some_barred w = Some w

nil_no_cons : {P : Type 0} (t : Lexeme) (ts : Toks) → [] ≡ t ∷ ts → P
nil_no_cons t ts e = absurd cc

module _ {A : Type 0} (r : Rule A) (R : Lawful r) where
  is_spelled : (ts : Toks) (x : A) → whole r ts ≡ Ok x → r.spells x ts []
  is_spelled ts x e = by_test (r.reads ts) refl
    where
      by_rest : (y : A) (rest : Toks) → r.reads ts ≡ Ok (y, rest) → r.spells x ts []
      by_rest y [] h = R.sound ts x [] (h ∙ ap (λ (v : A). done v []) (value_is y x (sym (ap whole_by h) ∙ e)))
      by_rest y (t ∷ rest) h = value_no_place (bad (suc (length rest))) x (sym (ap whole_by h) ∙ e)

      by_test : (o : Read A) → r.reads ts ≡ o → r.spells x ts []
      by_test (Err n) h = value_no_place n x (sym (ap whole_by h) ∙ e)
      by_test (Ok m) h = by_rest m.0 m.1 h

  is_read : (ts : Toks) (x : A) → r.spells x ts [] → whole r ts ≡ Ok x
  is_read ts x s = ap whole_by (R.complete ts x [] s)

  -- a beginning that is spelled with a rest is read to its end
  read_on : (before : Toks) (t : Lexeme) (more : Toks) (x : A) → r.spells x ((before ++ t ∷ []) ++ more) [] → r.reads (before ++ t ∷ more) ≡ Ok (x, [])
  read_on before t more x s = R.complete (before ++ t ∷ more) x [] (subst (λ (z : Toks). r.spells x z []) (append_assoc before (t ∷ []) more) s)

  first_is : r.Fine [] → (ts : Toks) (s : Stop) → whole r ts ≡ Err s → FirstPlace r ts s.0
  first_is fine ts n e = by_test (r.reads ts) refl
    where
      by_rest : (x : A) (rest : Toks) → r.reads ts ≡ Ok (x, rest) → FirstPlace r ts n.0
      by_rest x [] h = value_no_place n x (sym e ∙ ap whole_by h)
      by_rest x (t ∷ rest) h =
          let S = R.goes ts x (t ∷ rest) h in
          record {
            before = S.used;
            rest = t ∷ rest;
            parts = S.parts;
            left = ap (λ (s : Stop). s.0) (place_is A n (bad (suc (length rest))) (sym e ∙ ap whole_by h));
            begins = ([], x, R.sound (S.used ++ []) x [] (S.fine [] fine));
            none = λ u others g b. absurd (nil_no_cons {P = ⊥} u b.0 (sym (ok_parts x b.1 (u ∷ b.0) [] (sym (S.same u others b.0 g) ∙ read_on S.used u b.0 b.1 b.2)).1));
          }

      by_test : (o : Read A) → r.reads ts ≡ o → FirstPlace r ts n.0
      by_test (Ok m) h = by_rest m.0 m.1 h
      by_test (Err m) h =
          let G = R.fails ts n (h ∙ ap (failed {A = A}) (place_is A m n (sym (ap whole_by h) ∙ e))) in
          record {
            before = G.used;
            rest = G.rest;
            parts = G.parts;
            left = G.left;
            begins = (G.more, G.value, R.sound (G.used ++ G.more) G.value [] (ap (λ (z : Toks). r.reads (G.used ++ z)) (sym (append-nil G.more)) ∙ G.some [] fine));
            none = λ u others g b. no_ok {P = ⊥} (suc (length b.0), n.1) b.1 [] (sym (G.none u others b.0 g) ∙ read_on G.used u b.0 b.1 b.2);
          }

  bar_word : (n m : ℕ) (w : Barred) → place {A = A} (bad n) ≡ place (m, Some w) → ⊥
  bar_word n m w e = no_word w (ap (λ (s : Stop). s.1) (place_is A (bad n) (m, Some w) e))
    where
      no_word : (w : Barred) → None ≡ some_barred w → ⊥
      no_word w e = cc

  bar_read : (ts : Toks) (n : ℕ) (w : Barred) → whole r ts ≡ Err (n, Some w) → IsBarred r ts n w
  bar_read ts n w e = by_test (r.reads ts) refl
    where
      by_rest : (x : A) (rest : Toks) → r.reads ts ≡ Ok (x, rest) → IsBarred r ts n w
      by_rest x [] h = value_no_place (n, Some w) x (sym e ∙ ap whole_by h)
      by_rest x (t ∷ rest) h = absurd (bar_word (suc (length rest)) n w (sym (ap whole_by h) ∙ e))

      by_test : (o : Read A) → r.reads ts ≡ o → IsBarred r ts n w
      by_test (Ok m) h = by_rest m.0 m.1 h
      by_test (Err m) h = R.bar_sound ts n w (h ∙ ap (failed {A = A}) (place_is A m (n, Some w) (sym (ap whole_by h) ∙ e)))

  bar_stated : (ts : Toks) (n : ℕ) (w : Barred) → IsBarred r ts n w → whole r ts ≡ Err (n, Some w)
  bar_stated ts n w (rest, len, b) = ap whole_by (R.bar_complete ts rest w b) ∙ ap (λ (m : ℕ). place {A = A} (m, Some w)) (sym len)

  bar_there : (ts : Toks) (n : ℕ) (w : Barred) → IsBarred r ts n w → 0 < n
  bar_there ts n w (rest, len, b) = subst (λ (m : ℕ). 0 < m) (sym len) (R.bar_some ts rest w b)

  pub is_grammar : r.Fine [] → IsGrammar r
  is_grammar fine = record { read_is_spelled = is_spelled; spelled_is_read = is_read; first_place = λ ts n w e. first_is fine ts (n, w) e; barred_is_stated = bar_read; stated_is_barred = bar_stated; barred_is_there = bar_there }

-- no two values have one spelling
pub spelled_apart : {A : Type 0} (r : Rule A) → IsGrammar r → (ts : Toks) (x y : A) → r.spells x ts [] → r.spells y ts [] → x ≡ y
spelled_apart r G ts x y s u = value_is x y (sym (G.spelled_is_read ts x s) ∙ G.spelled_is_read ts y u)

-- ---- one first place

tail_is : (t u : Lexeme) (ts us : Toks) → t ∷ ts ≡ u ∷ us → ts ≡ us
tail_is t u ts us e = cc

head_is : (t u : Lexeme) (ts us : Toks) → t ∷ ts ≡ u ∷ us → t ≡ u
head_is t u ts us e = cc

-- a longer beginning has the next token too
record Longer (before rest long : Toks) : Type 0 where
  t : Lexeme
  others : Toks
  extra : Toks
  next : rest ≡ t ∷ others
  parts : long ≡ before ++ t ∷ extra

longer_is : (before rest long behind : Toks) → before ++ rest ≡ long ++ behind → length before < length long → Longer before rest long
longer_is [] rest [] behind e h = absurd (omega arith)
longer_is [] rest (u ∷ us) behind e h = record { t = u; others = us ++ behind; extra = us; next = e; parts = refl }
longer_is (t ∷ ts) rest [] behind e h = absurd (omega arith)
longer_is (t ∷ ts) rest (u ∷ us) behind e h =
    let L : Longer ts rest us = longer_is ts rest us behind (tail_is t u (ts ++ rest) (us ++ behind) e) (omega arith) in
    record {
      t = L.t;
      others = L.others;
      extra = L.extra;
      next = L.next;
      parts = ap (λ (z : Toks). u ∷ z) L.parts ∙ ap (λ (v : Lexeme). v ∷ (ts ++ L.t ∷ L.extra)) (sym (head_is t u (ts ++ rest) (us ++ behind) e));
    }

module _ {A : Type 0} (r : Rule A) (ts : Toks) where
  -- what begins a spelling doesn't go past a first place
  pub not_past : (n : ℕ) (F : FirstPlace r ts n) (long behind : Toks) → ts ≡ long ++ behind → Begins r long → length F.before < length long → ⊥
  not_past n F long behind e (more, x, s) h =
      let L : Longer F.before F.rest long = longer_is F.before F.rest long behind (sym F.parts ∙ e) h in
      let same : long ++ more ≡ (F.before ++ L.t ∷ []) ++ (L.extra ++ more) =
      ap (λ (z : Toks). z ++ more) L.parts ∙ append_assoc F.before (L.t ∷ L.extra) more ∙ sym (append_assoc F.before (L.t ∷ []) (L.extra ++ more)) in
      F.none L.t L.others L.next (L.extra ++ more, x, subst (λ (z : Toks). r.spells x z []) same s)

  pub one_first : (n m : ℕ) → FirstPlace r ts n → FirstPlace r ts m → n ≡ m
  one_first n m F G =
      let no_longer : length F.before < length G.before → ⊥ = not_past n F G.before G.rest G.parts G.begins in
      let no_shorter : length G.before < length F.before → ⊥ = not_past m G F.before F.rest F.parts F.begins in
      let one : length ts ≡ length F.before + length F.rest = ap length F.parts ∙ length-append F.before F.rest in
      let other : length ts ≡ length G.before + length G.rest = ap length G.parts ∙ length-append G.before G.rest in
      let few : n ≡ length F.rest = F.left in
      let many : m ≡ length G.rest = G.left in
      omega arith

  -- all tokens begin no spelling where one of them stands at a first place
  pub not_all : (n : ℕ) → FirstPlace r ts n → 0 < n → Begins r ts → ⊥
  not_all n F some begins =
      let len : length ts ≡ length F.before + length F.rest = ap length F.parts ∙ length-append F.before F.rest in
      let few : n ≡ length F.rest = F.left in
      not_past n F ts [] (sym (append-nil ts)) begins (omega arith)

-- ---- one word that isn't supported

some_same : (v w : Barred) → some_barred v ≡ some_barred w → v ≡ w
some_same v w e = cc

pub one_barred : {A : Type 0} (r : Rule A) → IsGrammar r → (ts : Toks) (n : ℕ) (v w : Barred) → IsBarred r ts n v → IsBarred r ts n w → v ≡ w
one_barred {A} r G ts n v w b d = some_same v w (ap (λ (s : Stop). s.1) (place_is A (n, Some v) (n, Some w) (sym (G.stated_is_barred ts n v b) ∙ G.stated_is_barred ts n w d)))

-- what reading says without a word bars none
pub none_barred : {A : Type 0} (r : Rule A) → IsGrammar r → (ts : Toks) (n : ℕ) → whole r ts ≡ Err (bad n) → (w : Barred) → IsBarred r ts n w → ⊥
none_barred {A} r G ts n e w b = no_word w (ap (λ (s : Stop). s.1) (place_is A (bad n) (n, Some w) (sym e ∙ G.stated_is_barred ts n w b)))
  where
    no_word : (w : Barred) → None ≡ some_barred w → ⊥
    no_word w e = cc

-- tokens that are refused spell nothing
pub none_spelled : {A : Type 0} (r : Rule A) → IsGrammar r → (ts : Toks) (n : Stop) → whole r ts ≡ Err n → (x : A) → r.spells x ts [] → ⊥
none_spelled r G ts n e x s = value_no_place n x (sym e ∙ G.spelled_is_read ts x s)
