use Rattle.sb_proc.specs.Asking.{place_in, scope_in}
use Rattle.sb_proc.proofs.Passing.{else_of_none}
use Rattle.sb_proc.proofs.request.asked_of_dialogs.Goals as goal

pub returns-in_default : goal.returns-in_default
returns-in_default c =
    let arm = c.in_default in
    else_of_none (place_in c.args.asking.now) (scope_in c.args.asking.now) c.args.statement.now
    arm.not-BeginDialog arm.not-Send arm.not-Move arm.not-EndConversation arm.not-Timer
