use Rattle.std.proofs.lemmas.Result.{err_from_is_err_and}
use Rattle.sb_grammar.specs.declared.tree.Selected.{Selected}
use Rattle.sb_proc.specs.Scopes.{is_declared}
use Rattle.sb_proc.specs.Seen.{scope_of}
use Rattle.sb_proc.proofs.Folds.{fold_fails}
use Rattle.sb_proc.proofs.request.selected_declared.Goals as goal

pub returns-in_err-is_declared : goal.returns-in_err-is_declared
returns-in_err-is_declared c =
    let s = scope_of c.args.seen.now in
    let p = err_from_is_err_and c.from_residual.result c.from_residual.ensures.1 in
    rw (p.1, p.2)
    (fold_fails (λ (_ : Unit {0}) (x : Selected). is_declared s x.variable) tt tt c.args.selected.now c.loop-part.part-index c.part-item.result c.in_err-is_declared.field-0.0
    c.loop-part.invariant c.loop-part-test.true c.part-item.is c.in_err-is_declared.ensures)
