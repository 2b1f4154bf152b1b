use Rattle.std.proofs.Common.{ap, ◌∙◌}
use Rattle.sb_proc.specs.Replies.{after_assignment}
use Rattle.sb_proc.specs.Scopes.{scope_with, assigned}
use Rattle.sb_proc.proofs.Assigns.{assign_turn, assign_end}
use Rattle.sb_proc.proofs.replies.take_columns.Goals as goal

pub loop-assignment-preserved : goal.loop-assignment-preserved
loop-assignment-preserved c =
    let now = c.loop-assignment.variables in
    assign_turn (after_assignment c.args.item.now) c.args.variables.now now c.assign.new.variables c.args.assignments.now c.loop-assignment.assignment-index c.assignment-item.result
    c.loop-assignment.invariant c.loop-assignment-test.true c.assignment-item.is
    (c.in_ok-assign.ensures ∙ ap (λ value. scope_with now (assigned c.assignment-item.result.variable value now.variables)) c.in_ok-value.ensures)

pub returns : goal.returns
returns c =
    assign_end (after_assignment c.args.item.now) c.args.variables.now c.loop-assignment.variables c.args.assignments.now c.loop-assignment.assignment-index c.loop-assignment.invariant c.loop-assignment-test.false
