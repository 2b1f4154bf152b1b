-- Where a place allows fixed words and something else.
use Rattle.std.specs.Prelude.{◌≡◌, ◌∷◌, Option, Some}
use Rattle.sb_grammar.specs.declared.lexeme.Lexeme.{Lexeme}
use Rattle.sb_grammar.specs.Rules.{Rule, Toks, token, bind}
use Rattle.sb_grammar.specs.Options.{Choices}

-- the rule spells nothing that begins with a token which the test takes
abbrev pub BeginsNot : {A B : Type 0} → (Lexeme → Option B) → Rule A → Type 0
BeginsNot f q = (t : Lexeme) (b : _) (ts : Toks) (x : _) (rest : Toks) → f t ≡ Some b → q.spells x (t ∷ ts) rest → ⊥

-- an option as it is written, apart from the words that aren't supported
abbrev pub written : {S B : Type 0} → Choices S B → B → S → Rule S
written c o s = bind (token (c.take s) (c.example o) o) (c.value s) c.Ends
