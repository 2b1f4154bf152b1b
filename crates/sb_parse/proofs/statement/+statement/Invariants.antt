use Rattle.std.proofs.Common.{◌+◌, ◌*◌, ◌≤◌, length}
use Rattle.sb_grammar.specs.Stops.{Stops}
use Rattle.sb_grammar.specs.Statements.{turn, block_at}
use Rattle.sb_parse.proofs.Untils.{Untils}
use Rattle.sb_parse.proofs.statement.+statement.Given as goal

abbrev pub decreases-rest_of : goal.decreases-rest_of
decreases-rest_of l = 8 * l.levels + 0

abbrev pub decreases-statement : goal.decreases-statement
decreases-statement l = 8 * l.levels + 1

abbrev pub decreases-turn : goal.decreases-turn
decreases-turn l = 8 * l.levels + 1

abbrev pub decreases-else_part : goal.decreases-else_part
decreases-else_part l = 8 * l.levels + 2

abbrev pub decreases-block : goal.decreases-block
decreases-block l = 8 * l.levels + 2

abbrev pub decreases-test : goal.decreases-test
decreases-test l = 8 * l.levels + 5

abbrev pub decreases-begin : goal.decreases-begin
decreases-begin l = 8 * l.levels + 5

abbrev pub decreases-otherwise : goal.decreases-otherwise
decreases-otherwise l = 8 * l.levels + 3

abbrev pub decreases-branches : goal.decreases-branches
decreases-branches l = 8 * l.levels + 4

abbrev pub invariant-block-turns : goal.invariant-block-turns
invariant-block-turns l = Untils (turn l.in_batch l.levels) Stops l.all l.rest ((block_at l.in_batch l.levels).reads l.fn.tokens) × (length l.rest ≤ length l.fn.tokens)

abbrev pub decreases-block-turns : goal.decreases-block-turns
decreases-block-turns l = length l.rest
