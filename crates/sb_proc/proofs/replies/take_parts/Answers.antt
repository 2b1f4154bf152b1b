use Rattle.std.proofs.Common.{ap, ◌∙◌}
use Rattle.sb_proc.specs.Replies.{after_selected}
use Rattle.sb_proc.specs.Scopes.{scope_with, assigned}
use Rattle.sb_proc.proofs.Assigns.{assign_turn, assign_end}
use Rattle.sb_proc.proofs.replies.take_parts.Goals as goal

pub loop-part-preserved : goal.loop-part-preserved
loop-part-preserved c =
    let now = c.loop-part.variables in
    assign_turn (after_selected c.args.row.now) c.args.variables.now now c.assign.new.variables c.args.selected.now c.loop-part.part-index c.part-item.result
    c.loop-part.invariant c.loop-part-test.true c.part-item.is
    (c.in_ok-assign.ensures ∙ ap (λ value. scope_with now (assigned c.part-item.result.variable value now.variables)) c.in_ok-value.ensures)

pub returns : goal.returns
returns c =
    assign_end (after_selected c.args.row.now) c.args.variables.now c.loop-part.variables c.args.selected.now c.loop-part.part-index c.loop-part.invariant c.loop-part-test.false
