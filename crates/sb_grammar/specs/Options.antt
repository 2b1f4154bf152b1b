-- Options in any order, each at most once, with commas between.
use Rattle.std.specs.Prelude.{◌≡◌, ℕ, zero, suc, Bool, true, false, Option, Some, None}
use Rattle.sb_grammar.specs.declared.lexeme.Lexeme.{Lexeme}
use Rattle.sb_grammar.specs.declared.choice.Barred.{Barred}
use Rattle.sb_grammar.specs.declared.word.Fixed.TheVariants as fixed
use Rattle.sb_grammar.specs.Words.{fixed_at}
use Rattle.sb_grammar.specs.Rules.{Rule, Toks, token, alt, bind, pure, barred, head}
use Rattle.sb_grammar.specs.Values.{word}

-- options, where the written ones are known
pub record Choices (S B : Type 0) : Type 1 where
  -- words that aren't supported as an option
  pub bars : S → Lexeme → Option Barred
  -- the option that a token begins, if it may still be written
  pub take : S → Lexeme → Option B
  -- what stands behind an option's word, and what is written with it
  pub value : S → B → Rule S
  -- an option that may still be written, those first that must be
  pub next : S → Option B
  -- whether one must still be written
  pub needs : S → Bool
  pub example : B → Lexeme
  -- where an option may end
  pub Ends : Toks → Type 0

-- where options may end
pub record Over {S B : Type 0} (c : Choices S B) (follow : Toks) : Type 0 where
  pub comma : head (fixed_at fixed.Comma) follow ≡ None
  pub ends : c.Ends follow

-- one more option, as this one
unfoldable pub one : {S B : Type 0} → Choices S B → B → S → Rule S
one c o s = barred (c.bars s) (bind (token (c.take s) (c.example o) o) (c.value s) c.Ends) c.Ends

-- another behind a comma: needed, or not
abbrev pub another : {S B : Type 0} → Choices S B → (S → Rule S) → S → B → Bool → Rule S
another c next s o true = word fixed.Comma (bind (one c o s) next (Over c))
another c next s o false = alt (fixed_at fixed.Comma) (λ _. bind (one c o s) next (Over c)) (pure s) (Over c)

abbrev pub more_by : {S B : Type 0} → Choices S B → (S → Rule S) → S → Option B → Rule S
more_by c next s None = pure s
more_by c next s (Some o) = another c next s o (c.needs s)

-- the other options, so many at most; where all are written no comma follows
unfoldable pub more : {S B : Type 0} → Choices S B → ℕ → S → Rule S
more c zero s = pure s
more c (suc k) s = more_by c (more c k) s (c.next s)

abbrev pub options_by : {S B : Type 0} → Choices S B → ℕ → S → Option B → Rule S
options_by c k s None = pure s
options_by c k s (Some o) = bind (one c o s) (more c k) (Over c)

-- one option or more, and so many others at most
unfoldable pub options : {S B : Type 0} → Choices S B → ℕ → S → Rule S
options c k s = options_by c k s (c.next s)
