use Rattle.std.proofs.lemmas.Result.{err_from_is_err_and}
use Rattle.sb_proc.specs.Seen.{scope_of}
use Rattle.sb_proc.specs.Turns.{seen_with}
use Rattle.sb_proc.proofs.Wants.{first_fails, value_fails, value_stored}
use Rattle.sb_proc.proofs.declaring.declared.Goals as goal

pub returns-in_err-first : goal.returns-in_err-first
returns-in_err-first c =
    let p = err_from_is_err_and c.from_residual.result c.from_residual.ensures.1 in
    rw (p.1, p.2)
    (first_fails (scope_of c.behind-seen.result) (seen_with c.args.added.now c.args.variables.now) c.args.declaration.now c.in_err-first.field-0.0
    c.behind-seen.ensures c.in_err-first.ensures)

pub returns-in_err-value : goal.returns-in_err-value
returns-in_err-value c =
    let p = err_from_is_err_and c.from_residual-in_err-value.result c.from_residual-in_err-value.ensures.1 in
    rw (p.1, p.2)
    (value_fails (scope_of c.behind-seen.result) (seen_with c.args.added.now c.args.variables.now) c.args.declaration.now c.in_ok-first.first c.in_err-value.field-0.0
    c.behind-seen.ensures c.in_ok-first.ensures c.in_err-value.ensures)

pub returns : goal.returns
returns c =
    value_stored (scope_of c.behind-seen.result) (seen_with c.args.added.now c.args.variables.now) c.args.declaration.now c.in_ok-first.first c.in_ok-value.value c.in_ok-name.name
    c.behind-seen.ensures c.in_ok-first.ensures c.in_ok-value.ensures c.in_ok-name.ensures.cases
