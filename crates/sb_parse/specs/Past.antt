-- What stands behind a word.
use Rattle.std.specs.Prelude.{◌≡◌, ◌∷◌, Some}
use Rattle.sb_grammar.specs.declared.lexeme.Lexeme.{Lexeme}
use Rattle.sb_grammar.specs.declared.word.Fixed.{Fixed}
use Rattle.sb_grammar.specs.Words.{fixed_at}
use Rattle.sb_grammar.specs.Rules.{Toks}

-- the tokens are this word or sign, and then these
pub record Behind (w : Fixed) (ts behind : Toks) : Type 0 where
  pub first : Lexeme
  pub parts : ts ≡ first ∷ behind
  pub is : fixed_at w first ≡ Some tt
