use Rattle.std.proofs.Common.{None}
use Rattle.std.proofs.lemmas.Result.{err_from_is_err_and}
use Rattle.sb_proc.specs.Requests.{with_change, changed}
use Rattle.sb_proc.specs.Seen.{scope_of}
use Rattle.sb_proc.proofs.Folds.{fold_fails}
use Rattle.sb_proc.proofs.rows.all_changed.Goals as goal

pub returns-in_err-changed : goal.returns-in_err-changed
returns-in_err-changed c =
    let p = err_from_is_err_and c.from_residual.result c.from_residual.ensures.1 in
    rw (p.1, p.2)
    (fold_fails (with_change (scope_of c.args.seen.now)) (changed None None) c.loop-change.changed c.args.changes.now c.loop-change.change-index c.change-item.result c.in_err-changed.field-0.0
    c.loop-change.invariant c.loop-change-test.true c.change-item.is c.in_err-changed.ensures)
