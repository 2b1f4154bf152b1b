use Rattle.std.proofs.Common.{subst}
use Rattle.sb_value.specs.Faults.{Gives}
use Rattle.sb_proc.specs.Asking.{place_in, scope_in}
use Rattle.sb_proc.specs.Requests.{Asked}
use Rattle.sb_proc.proofs.Passing.{define_asked, else_of_data}
use Rattle.sb_proc.proofs.request.asked.Goals as goal

pub returns-in_ok-copied_definition-in-Define : goal.returns-in_ok-copied_definition-in-Define
returns-in_ok-copied_definition-in-Define c =
    define_asked (place_in c.args.asking.now) (scope_in c.args.asking.now) c.args.statement.now _ _ c.in-Define.is c.in_ok-copied_definition-in-Define.ensures

pub returns-in_default : goal.returns-in_default
returns-in_default c =
    let arm = c.in_default in
    subst (λ (said : Asked). Gives said c.asked_of_data.result)
    (else_of_data (place_in c.args.asking.now) (scope_in c.args.asking.now) c.args.statement.now
    arm.not-Define arm.not-CreateProcedure arm.not-AlterQueue arm.not-BeginTransaction arm.not-Commit arm.not-Rollback) c.asked_of_data.ensures
