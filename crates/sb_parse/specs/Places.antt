-- What the public calls answer, by the text.
use Rattle.std.specs.Prelude.{◌≡◌, ◌⊎◌, ℕ, zero, suc, ◌-◌, ◌<◌, List, [], length, slice_get, Option, Some, None, Result, Ok, Err}
use Rattle.sb_lex.specs.declared.token.Token.{Token}
use Rattle.sb_lex.specs.Cuts.{IsCut}
use Rattle.sb_grammar.specs.declared.choice.Barred.{Barred}
use Rattle.sb_grammar.specs.Rules.{Rule}
use Rattle.sb_grammar.specs.Whole.{Begins, FirstPlace, IsBarred}
use Rattle.sb_parse.specs.declared.fault.Fault.{Fault}
use Rattle.sb_parse.specs.declared.fault.Fault.TheVariants.{Memory, Bad}
use Rattle.sb_parse.specs.declared.fault.Fault.TheVariants as faults
use Rattle.sb_parse.specs.declared.text.ParseRefused.{ParseRefused}
use Rattle.sb_parse.specs.declared.text.ParseRefused.TheVariants.{OutOfMemory, BadStatement, Unsupported, Unlexed}
use Rattle.sb_parse.specs.Lexemes.{lexemes_of}

-- the tokens of the whole text spell this
abbrev pub IsSpelledIn : {A : Type 0} → Rule A → A → List ℕ → Type 0
IsSpelledIn r x text = (ts : List Token) × IsCut text ts None × r.spells x (lexemes_of text ts) []

abbrev pub end_by : Option Token → ℕ
end_by None = 0
end_by (Some t) = t.end

abbrev pub start_by : Option Token → ℕ → ℕ
start_by None last = last
start_by (Some t) last = t.start

-- the start of the token from which on so many are left; where none is, the end of the last one, and 0 without one
abbrev pub place_of : List Token → ℕ → ℕ
place_of ts left = start_by (slice_get ts (length ts - left)) (end_by (slice_get ts (length ts - 1)))

-- the first of the text's tokens with which no spelling goes on stands there, or they end too soon and the last one ends there
pub record IsFirstPlace {A : Type 0} (r : Rule A) (text : List ℕ) (at : ℕ) : Type 0 where
  pub tokens : List Token
  pub unlexed : Option ℕ
  pub cut : IsCut text tokens unlexed
  pub left : ℕ
  pub first : FirstPlace r (lexemes_of text tokens) left
  pub there : at ≡ place_of tokens left

-- the tokens spell nothing and no word that isn't supported stands at the first place; tokens that end too soon are judged only where the text ends with them
pub record IsBadStatement {A : Type 0} (r : Rule A) (text : List ℕ) (at : ℕ) : Type 0 where
  pub place : IsFirstPlace r text at
  pub judged : (place.unlexed ≡ None) ⊎ (0 < place.left)
  pub unspelled : (x : A) → r.spells x (lexemes_of text place.tokens) [] → ⊥
  pub supported : (what : Barred) → IsBarred r (lexemes_of text place.tokens) place.left what → ⊥

-- a word that isn't supported there stands at the first place
pub record IsUnsupported {A : Type 0} (r : Rule A) (text : List ℕ) (at : ℕ) (what : Barred) : Type 0 where
  pub place : IsFirstPlace r text at
  pub some : 0 < place.left
  pub word : IsBarred r (lexemes_of text place.tokens) place.left what

-- no token stands there, and those before it begin some spelling
pub record IsUnlexedAt {A : Type 0} (r : Rule A) (text : List ℕ) (at : ℕ) : Type 0 where
  pub tokens : List Token
  pub cut : IsCut text tokens (Some at)
  pub begins : Begins r (lexemes_of text tokens)

-- what a refusal says
abbrev pub Refuses : {A : Type 0} → Rule A → List ℕ → ParseRefused → Type 0
Refuses r text OutOfMemory = Unit {0}
Refuses r text (BadStatement at) = IsBadStatement r text at
Refuses r text (Unsupported at what) = IsUnsupported r text at what
Refuses r text (Unlexed at) = IsUnlexedAt r text at

-- this is read, unless memory ran out
abbrev pub IsRead : {A : Type 0} → A → Result A ParseRefused → Type 0
IsRead x (Ok y) = y ≡ x
IsRead x (Err OutOfMemory) = Unit {0}
IsRead x (Err (BadStatement at)) = ⊥
IsRead x (Err (Unsupported at what)) = ⊥
IsRead x (Err (Unlexed at)) = ⊥

-- ---- what the answer for the tokens before an unlexed place says of the text

abbrev pub bad_at : List Token → Option ℕ → ℕ → ParseRefused
bad_at ts None left = BadStatement (place_of ts left)
bad_at ts (Some at) zero = Unlexed at
bad_at ts (Some at) (suc left) = BadStatement (place_of ts (suc left))

abbrev pub refused : List Token → Option ℕ → Fault → ParseRefused
refused ts unlexed Memory = OutOfMemory
refused ts unlexed (Bad left) = bad_at ts unlexed left
refused ts unlexed (faults.Unsupported left what) = Unsupported (place_of ts left) what

abbrev pub finished : {A : Type 0} → List Token → Option ℕ → Result A Fault → Result A ParseRefused
finished ts None (Ok x) = Ok x
finished ts (Some at) (Ok x) = Err (Unlexed at)
finished ts unlexed (Err e) = Err (refused ts unlexed e)
