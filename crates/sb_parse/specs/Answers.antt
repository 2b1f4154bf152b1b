-- What the calls answer, by all tokens.
use Rattle.std.specs.Prelude.{◌≡◌, ◌<◌, ℕ, [], Result, Ok, Err}
use Rattle.sb_grammar.specs.declared.choice.Barred.{Barred}
use Rattle.sb_grammar.specs.Rules.{Toks, Stop, bad, barred_at, Rule}
use Rattle.sb_grammar.specs.Whole.{FirstPlace, IsBarred}
use Rattle.sb_parse.specs.declared.fault.Fault.{Fault}
use Rattle.sb_parse.specs.declared.fault.Fault.TheVariants.{Memory, Bad, Unsupported}

-- what all tokens spell, or where no spelling goes on, unless memory ran out
abbrev pub Answers : {A : Type 0} → Result A Fault → Result A Stop → Type 0
Answers (Ok x) found = found ≡ Ok x
Answers (Err Memory) found = Unit {0}
Answers (Err (Bad n)) found = found ≡ Err (bad n)
Answers (Err (Unsupported n w)) found = found ≡ Err (barred_at n w)

-- the tokens spell nothing, so many are left from the first place, and no word that isn't supported stands there
pub record IsBadAt {A : Type 0} (r : Rule A) (ts : Toks) (n : ℕ) : Type 0 where
  pub first : FirstPlace r ts n
  pub unspelled : (x : A) → r.spells x ts [] → ⊥
  pub supported : (w : Barred) → IsBarred r ts n w → ⊥

-- so many tokens are left from the first place, and this word that isn't supported stands there
pub record IsBarredAt {A : Type 0} (r : Rule A) (ts : Toks) (n : ℕ) (w : Barred) : Type 0 where
  pub first : FirstPlace r ts n
  pub some : 0 < n
  pub word : IsBarred r ts n w

-- a refusal names the first place, and the word there where it isn't supported
abbrev pub Names : {A : Type 0} → Result A Fault → Rule A → Toks → Type 0
Names (Ok x) r ts = Unit {0}
Names (Err Memory) r ts = Unit {0}
Names (Err (Bad n)) r ts = IsBadAt r ts n
Names (Err (Unsupported n w)) r ts = IsBarredAt r ts n w
