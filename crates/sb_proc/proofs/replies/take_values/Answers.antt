use Rattle.std.proofs.Common.{ap}
use Rattle.sb_proc.specs.Scopes.{scope_with}
use Rattle.sb_proc.proofs.Passing.{else_of_untold}
use Rattle.sb_proc.proofs.replies.take_values.Goals as goal

pub returns-in_default : goal.returns-in_default
returns-in_default c =
    let arm = c.in_default in
    let s = c.args.variables.now in
    ap (scope_with s) (else_of_untold s.variables c.args.reply.now c.args.statement.now
    arm.not-Receive arm.not-GetGroup arm.not-Waitfor arm.not-BeginDialog arm.not-Select)
