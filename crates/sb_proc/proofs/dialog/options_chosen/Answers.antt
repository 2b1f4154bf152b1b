use Rattle.std.proofs.Common.{None}
use Rattle.std.proofs.lemmas.Result.{err_from_is_err_and}
use Rattle.sb_log.specs.declared.requests.Relation.TheVariants as relation
use Rattle.sb_proc.specs.Requests.{with_option, choices}
use Rattle.sb_proc.specs.Seen.{scope_of}
use Rattle.sb_proc.proofs.Folds.{fold_fails}
use Rattle.sb_proc.proofs.dialog.options_chosen.Goals as goal

pub returns-in_err-chosen : goal.returns-in_err-chosen
returns-in_err-chosen c =
    let p = err_from_is_err_and c.from_residual.result c.from_residual.ensures.1 in
    rw (p.1, p.2)
    (fold_fails (with_option (scope_of c.args.seen.now)) (choices relation.Alone None) c.loop-option.chosen c.args.options.now c.loop-option.option-index c.option-item.result c.in_err-chosen.field-0.0
    c.loop-option.invariant c.loop-option-test.true c.option-item.is c.in_err-chosen.ensures)
