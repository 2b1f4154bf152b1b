use Rattle.std.proofs.Common.{[], Ok, Err, subst}
use Rattle.std.proofs.lemmas.Result.{err_from_is_err_and}
use Rattle.sb_value.specs.Faults.{Gives}
use Rattle.sb_proc.specs.declared.variables.Variable.{Variable}
use Rattle.sb_proc.specs.Scopes.{declared_anew}
use Rattle.sb_proc.specs.Turns.{and_declared, all_new, declared_variable, seen_with}
use Rattle.sb_proc.proofs.Folds.{then_fails, fold_fails, items_fault}
use Rattle.sb_proc.proofs.declaring.all_new.Goals as goal

pub returns-in_err-variable : goal.returns-in_err-variable
returns-in_err-variable c =
    let s = c.args.variables.now in
    let new = c.loop-declaration.new.items in
    let item = c.declaration-item.result in
    let p = err_from_is_err_and c.from_residual.result c.from_residual.ensures.1 in
    rw (p.1, p.2)
    (items_fault (all_new s c.args.declarations.now) c.in_err-variable.field-0.0
    (fold_fails (and_declared s) [] new c.args.declarations.now c.loop-declaration.declaration-index item c.in_err-variable.field-0.0
    c.loop-declaration.invariant c.loop-declaration-test.true c.declaration-item.is
    (then_fails (declared_variable (seen_with new s) item) (λ (x : Variable). Ok (declared_anew x new)) c.in_err-variable.field-0.0
    (subst (λ vs. Gives (declared_variable (seen_with vs s) item) (Err c.in_err-variable.field-0.0)) c.as_slice.ensures.value c.in_err-variable.ensures))))
