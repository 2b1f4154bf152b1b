use Rattle.std.proofs.Common.{subst}
use Rattle.sb_value.specs.Faults.{Gives}
use Rattle.sb_proc.specs.Asking.{place_in, scope_in}
use Rattle.sb_proc.specs.Requests.{Asked}
use Rattle.sb_proc.proofs.Passing.{else_of_dialogs}
use Rattle.sb_proc.proofs.request.asked_of_data.Goals as goal

pub returns-in_default : goal.returns-in_default
returns-in_default c =
    let arm = c.in_default in
    subst (λ (said : Asked). Gives said c.asked_of_dialogs.result)
    (else_of_dialogs (place_in c.args.asking.now) (scope_in c.args.asking.now) c.args.statement.now
    arm.not-Receive arm.not-GetGroup arm.not-Waitfor arm.not-Insert arm.not-Update arm.not-Delete arm.not-Select) c.asked_of_dialogs.ensures
