use Rattle.std.proofs.Common.{◌+◌, ◌*◌, ◌≤◌, length}
use Rattle.sb_grammar.specs.Exprs.{sign_of, join_step, operand, more_sum}
use Rattle.sb_grammar.proofs.Laws.{Turns}
use Rattle.sb_parse.proofs.expr.+expr.Given as goal

abbrev pub decreases-cast : goal.decreases-cast
decreases-cast l = 8 * l.levels + 4

abbrev pub decreases-nested : goal.decreases-nested
decreases-nested l = 8 * l.levels + 5

abbrev pub decreases-operand : goal.decreases-operand
decreases-operand l = 8 * l.levels + 0

abbrev pub decreases-signed_operand : goal.decreases-signed_operand
decreases-signed_operand l = 8 * l.levels + 1

abbrev pub decreases-more_sum : goal.decreases-more_sum
decreases-more_sum l = 8 * l.levels + 2

abbrev pub decreases-sum : goal.decreases-sum
decreases-sum l = 8 * l.levels + 3

abbrev pub invariant-more_sum-signs : goal.invariant-more_sum-signs
invariant-more_sum-signs l = Turns sign_of (join_step (operand l.levels)) l.left l.rest ((more_sum (operand l.levels) l.fn.first).reads l.fn.tokens) × (length l.rest ≤ length l.fn.tokens)

abbrev pub decreases-more_sum-signs : goal.decreases-more_sum-signs
decreases-more_sum-signs l = length l.rest
