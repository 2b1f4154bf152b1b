-- All tokens, and the first at which no spelling goes on.
use Rattle.std.specs.Prelude.{◌≡◌, ◌<◌, ℕ, suc, [], ◌∷◌, ◌++◌, length, Option, Some, Result, Ok, Err}
use Rattle.sb_grammar.specs.declared.lexeme.Lexeme.{Lexeme}
use Rattle.sb_grammar.specs.declared.choice.Barred.{Barred}
use Rattle.sb_grammar.specs.Rules.{Toks, Stop, bad, Read, Rule}

abbrev pub whole_of : {A : Type 0} → A → Toks → Result A Stop
whole_of x [] = Ok x
whole_of x (t ∷ rest) = Err (bad (suc (length rest)))

abbrev pub whole_by : {A : Type 0} → Read A → Result A Stop
whole_by (Ok m) = whole_of m.0 m.1
whole_by (Err n) = Err n

-- the value that all tokens spell, or where no spelling goes on
abbrev pub whole : {A : Type 0} → Rule A → Toks → Result A Stop
whole r ts = whole_by (r.reads ts)

-- the tokens are the beginning of some that spell a value
abbrev pub Begins : {A : Type 0} → Rule A → Toks → Type 0
Begins r ts = (more : Toks) × (x : _) × r.spells x (ts ++ more) []

-- so many tokens are left from the first at which no spelling goes on
pub record FirstPlace {A : Type 0} (r : Rule A) (ts : Toks) (n : ℕ) : Type 0 where
  pub before : Toks
  pub rest : Toks
  pub parts : ts ≡ before ++ rest
  pub left : n ≡ length rest
  pub begins : Begins r before
  pub none : (t : Lexeme) (others : Toks) → rest ≡ t ∷ others → Begins r (before ++ t ∷ []) → ⊥

-- the tokens go on to a word that isn't supported there, and so many are left from it on
abbrev pub IsBarred : {A : Type 0} → Rule A → Toks → ℕ → Barred → Type 0
IsBarred r ts n w = (rest : Toks) × (n ≡ length rest) × r.bars ts rest w

-- the laws
pub record IsGrammar {A : Type 0} (r : Rule A) : Type 0 where
  pub read_is_spelled : (ts : Toks) (x : A) → whole r ts ≡ Ok x → r.spells x ts []
  pub spelled_is_read : (ts : Toks) (x : A) → r.spells x ts [] → whole r ts ≡ Ok x
  pub first_place : (ts : Toks) (n : ℕ) (w : Option Barred) → whole r ts ≡ Err (n, w) → FirstPlace r ts n
  pub barred_is_stated : (ts : Toks) (n : ℕ) (w : Barred) → whole r ts ≡ Err (n, Some w) → IsBarred r ts n w
  pub stated_is_barred : (ts : Toks) (n : ℕ) (w : Barred) → IsBarred r ts n w → whole r ts ≡ Err (n, Some w)
  pub barred_is_there : (ts : Toks) (n : ℕ) (w : Barred) → IsBarred r ts n w → 0 < n
