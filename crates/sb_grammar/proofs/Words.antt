-- No token is two different words.
use Rattle.std.proofs.Common.{◌≡◌, ℕ, Bool, true, false, ◌&&◌, ◌||◌, List, [], ◌∷◌, Option, Some, None, refl, sym, ap, subst, ◌∙◌}
use Rattle.std.specs.Prelude.{if◌then◌else◌}
use Rattle.std.specs.Str.{str_eq_ignore_ascii_case, str_to_ascii_lowercase}
use Rattle.std.specs.List.{list_any}
use Rattle.std.proofs.lemmas.Slice.Eq.{bytes_eq-Decides}
use denote.Enum.Bare.{sameb, same_true, true_same}
use Rattle.sb_lex.specs.contracts.token.TokenKind.{the_type}
use Rattle.sb_grammar.specs.declared.lexeme.Lexeme.{Lexeme}
use Rattle.sb_grammar.specs.declared.word.Fixed.{Fixed}
use Rattle.sb_grammar.specs.Words.{is_fixed, fixed_at, kind, spelling}

-- the words are spelled alike
abbrev pub alike : Fixed → Fixed → Bool
alike w v = sameb the_type (kind w) (kind v) && str_eq_ignore_ascii_case (spelling w) (spelling v)

pub both : (a b : Bool) → a && b ≡ true → (a ≡ true) × (b ≡ true)
both true b e = (refl, e)
both false b e = absurd cc

both_true : (a b : Bool) → a ≡ true → b ≡ true → a && b ≡ true
both_true a b h k = subst (λ (v : Bool). v && b ≡ true) (sym h) k

not_both : {P : Type 0} (b : Bool) → b ≡ true → b ≡ false → P
not_both b h k = absurd cc

pub not_true : (b : Bool) → (b ≡ true → ⊥) → b ≡ false
not_true true f = absurd (f refl)
not_true false f = refl

same_lower : (a b c : List ℕ) → str_eq_ignore_ascii_case c a ≡ true → str_eq_ignore_ascii_case c b ≡ true → str_eq_ignore_ascii_case a b ≡ true
same_lower a b c h k =
    let low = str_to_ascii_lowercase in
    (bytes_eq-Decides (low a) (low b)).1 (sym ((bytes_eq-Decides (low c) (low a)).0 h) ∙ (bytes_eq-Decides (low c) (low b)).0 k)

-- the kind of a token that is a word
pub kind_is : (w : Fixed) (t : Lexeme) → is_fixed w t ≡ true → t.kind ≡ kind w
unfolding is_fixed
kind_is w t h = same_true the_type (search) t.kind (kind w) (both (sameb the_type t.kind (kind w)) (str_eq_ignore_ascii_case t.value (spelling w)) h).0

two_words : (w v : Fixed) (t : Lexeme) → is_fixed w t ≡ true → is_fixed v t ≡ true → alike w v ≡ true
unfolding is_fixed
two_words w v t h k =
    let a = both (sameb the_type t.kind (kind w)) (str_eq_ignore_ascii_case t.value (spelling w)) h in
    let b = both (sameb the_type t.kind (kind v)) (str_eq_ignore_ascii_case t.value (spelling v)) k in
    both_true (sameb the_type (kind w) (kind v)) (str_eq_ignore_ascii_case (spelling w) (spelling v))
    (true_same the_type (kind w) (kind v) (sym (kind_is w t h) ∙ kind_is v t k))
    (same_lower (spelling w) (spelling v) t.value a.1 b.1)

-- a token that is a word is no other
pub off : (w v : Fixed) (t : Lexeme) → is_fixed w t ≡ true → alike w v ≡ false → is_fixed v t ≡ false
off w v t h apart = not_true (is_fixed v t) (λ k. not_both (alike w v) (two_words w v t h k) apart)

abbrev pub AllOff : List Fixed → Lexeme → Type 0
AllOff [] t = Unit {0}
AllOff (v ∷ vs) t = (is_fixed v t ≡ false) × AllOff vs t

neither : (a b : Bool) → a || b ≡ false → (a ≡ false) × (b ≡ false)
neither true b e = absurd cc
neither false b e = (refl, e)

pub all_off : (w : Fixed) (t : Lexeme) → is_fixed w t ≡ true → (vs : List Fixed) → list_any (alike w) vs ≡ false → AllOff vs t
all_off w t h [] e = tt
all_off w t h (v ∷ vs) e = let p = neither (alike w v) (list_any (alike w) vs) e in (off w v t h p.0, all_off w t h vs p.1)

abbrev unit_test : Bool → Option (Unit {0})
unit_test c = if c then Some tt else None

no_some : {P : Type 0} (b : Unit {0}) → unit_test false ≡ Some b → P
no_some b e = absurd cc

pub was_fixed : (w : Fixed) (t : Lexeme) (b : Unit {0}) → fixed_at w t ≡ Some b → is_fixed w t ≡ true
unfolding fixed_at
was_fixed w t b e = by_test (is_fixed w t) refl
  where
    by_test : (c : Bool) → is_fixed w t ≡ c → is_fixed w t ≡ true
    by_test true h = h
    by_test false h = no_some b (sym (ap unit_test h) ∙ e)

pub fixed_none : (w : Fixed) (t : Lexeme) → is_fixed w t ≡ false → fixed_at w t ≡ None
unfolding fixed_at
fixed_none w t h = ap unit_test h

-- the first of some tests, or the others
pub chain : {B P : Type 0} (c : Bool) (x : B) (others : Option B) (b : B) → (c ≡ true → P) → (others ≡ Some b → P) → (if c then Some x else others) ≡ Some b → P
chain true x others b f g e = f refl
chain false x others b f g e = g e
