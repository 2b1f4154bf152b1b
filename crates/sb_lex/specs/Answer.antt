-- What the calls answer.
use Rattle.std.specs.Prelude.{◌≡◌, ℕ, List, Option, Some, None, Result, Ok, Err}
use Rattle.std.specs.Global.{Vec}
use Rattle.sb_lex.specs.declared.token.Token.{Token}
use Rattle.sb_lex.specs.declared.lex.Lexed.{Lexed}
use Rattle.sb_lex.specs.declared.lex.LexRefused.{LexRefused}
use Rattle.sb_lex.specs.declared.lex.LexRefused.TheVariants.{OutOfMemory, Unlexed}
use Rattle.sb_lex.specs.Lex.{Tokens}
use Rattle.sb_lex.specs.Cuts.{IsCut}

abbrev pub tokens_in : Lexed → Tokens
tokens_in l = record { tokens = l.tokens.items; unlexed = l.unlexed }

-- the first place where no blank, comment or token stands
abbrev pub IsUnlexedAt : List ℕ → LexRefused → Type 0
IsUnlexedAt text OutOfMemory = Unit {0}
IsUnlexedAt text (Unlexed at) = (ts : List Token) × IsCut text ts (Some at)

-- all these tokens, or this unlexed place, unless memory ran out
abbrev pub Answers : Result (Vec Token) LexRefused → List Token → Option ℕ → Type 0
Answers (Ok v) ts unlexed = (v.items ≡ ts) × (unlexed ≡ None)
Answers (Err OutOfMemory) ts unlexed = Unit {0}
Answers (Err (Unlexed at)) ts unlexed = unlexed ≡ Some at
