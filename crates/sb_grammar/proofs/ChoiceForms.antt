-- What spells nothing that begins so, made from each other.
use Rattle.std.proofs.Common.{◌≡◌, ◌∷◌, Option, Some, None, refl, ap, subst, ◌∙◌}
use Rattle.sb_grammar.specs.declared.lexeme.Lexeme.{Lexeme}
use Rattle.sb_grammar.specs.declared.choice.Barred.{Barred}
use Rattle.sb_grammar.specs.Rules.{Rule, Toks, either_fact, token, bind, alt, barred, map_rule, also}
use Rattle.sb_grammar.specs.Choices.{BeginsNot}

-- no token passes both tests
abbrev pub Excludes : {A B : Type 0} → (Lexeme → Option B) → (Lexeme → Option A) → Type 0
Excludes f g = (t : Lexeme) (b : _) → f t ≡ Some b → g t ≡ None

none_some : {A P : Type 0} (x : A) (o : Option A) → o ≡ None → o ≡ Some x → P
none_some x o h k = absurd cc

-- the other way round
pub excludes_back : {A B : Type 0} (f : Lexeme → Option B) (g : Lexeme → Option A) → Excludes f g → Excludes g f
excludes_back {A} {B} f g apart t a h = by_test (f t) refl
  where
    by_test : (o : Option B) → f t ≡ o → f t ≡ None
    by_test None k = k
    by_test (Some b) k = none_some a (g t) (apart t b k) h

first_is : (t u : Lexeme) (ts us : Toks) → t ∷ ts ≡ u ∷ us → t ≡ u
first_is t u ts us e = cc

pub token-not : {A B : Type 0} (f : Lexeme → Option B) (g : Lexeme → Option A) (ex : Lexeme) (a : A) → Excludes f g → BeginsNot f (token g ex a)
token-not f g ex a apart t b ts x rest h s = none_some x (g t) (apart t b h) (ap g (first_is t s.0 ts rest s.1) ∙ s.2)

pub bind-not : {A B C : Type 0} (f : Lexeme → Option C) (p : Rule A) (q : A → Rule B) (F : Toks → Type 0) → BeginsNot f p → BeginsNot f (bind p q F)
bind-not f p q F P t b ts y rest h s = P t b ts s.0 s.1 h s.2

pub map-not : {A B C : Type 0} (f : Lexeme → Option C) (g : A → B) (p : Rule A) → BeginsNot f p → BeginsNot f (map_rule g p)
map-not f g p P t b ts y rest h s = P t b ts s.0 s.1 h s.2

pub also-not : {A B C : Type 0} (f : Lexeme → Option C) (p : Rule A) (q : Rule B) → BeginsNot f p → BeginsNot f (also p q)
also-not f p q P t b ts y rest h s = P t b ts s.0 s.1 h s.2

pub alt-not : {A B C : Type 0} (f : Lexeme → Option C) (g : Lexeme → Option B) (p : B → Rule A) (q : Rule A) (F : Toks → Type 0) → Excludes f g → BeginsNot f q → BeginsNot f (alt g p q F)
alt-not f g p q F apart Q t b ts x rest h s = Q t b ts x rest h (subst (λ (o : Option _). either_fact o (λ c. (p c).spells x ts rest) (q.spells x (t ∷ ts) rest)) (apart t b h) s)

pub barred-not : {A C : Type 0} (f : Lexeme → Option C) (g : Lexeme → Option Barred) (q : Rule A) (F : Toks → Type 0) → BeginsNot f q → BeginsNot f (barred g q F)
barred-not f g q F Q t b ts x rest h s = by_test (g t) s
  where
    by_test : (o : Option Barred) → either_fact o (λ c. ⊥) (q.spells x (t ∷ ts) rest) → ⊥
    by_test (Some c) s = s
    by_test None s = Q t b ts x rest h s
