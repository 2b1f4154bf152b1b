use Rattle.std.proofs.Common.{◌≡◌, ◌+◌, length}
use Rattle.sb_lex.specs.Lex.{tokens_from, tokens_of, after}
use Rattle.sb_lex.proofs.lex.scan.Given as goal

abbrev pub invariant-pieces : goal.invariant-pieces
invariant-pieces l = (after l.tokens.items (tokens_from 0 l.at l.rest) ≡ tokens_of l.text) × (l.at + length l.rest ≡ length l.text)

abbrev pub decreases-pieces : goal.decreases-pieces
decreases-pieces l = length l.rest
