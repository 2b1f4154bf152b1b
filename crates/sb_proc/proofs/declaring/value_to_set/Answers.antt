use Rattle.std.proofs.Common.{subst}
use Rattle.sb_value.specs.Faults.{Gives}
use Rattle.sb_proc.specs.Seen.{scope_of}
use Rattle.sb_proc.proofs.Wants.{set_as}
use Rattle.sb_proc.proofs.declaring.value_to_set.Goals as goal

pub returns : goal.returns
returns c =
    subst (λ r. Gives r c.of_kind.result)
    (set_as (scope_of c.of-seen.result) c.args.variables.now c.args.name.now c.args.expr.now c.in_ok-variable.variable.now c.in_ok-value.value
    c.of-seen.ensures c.in_ok-variable.ensures.known c.in_ok-value.ensures) c.of_kind.ensures
