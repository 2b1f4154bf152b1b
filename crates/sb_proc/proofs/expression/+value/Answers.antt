use Rattle.std.proofs.lemmas.Result.{err_from_is_err_and}
use Rattle.sb_proc.specs.Expressions.{value_of, by_sign, with_term}
use Rattle.sb_proc.specs.Seen.{scope_of}
use Rattle.sb_proc.proofs.Folds.{then_fails, fold_fails}
use Rattle.sb_proc.proofs.Values.{sum_is}
use Rattle.sb_proc.proofs.expression.+value.Goals as goal

pub value-returns-in_ok-first-in-Sum : goal.value-returns-in_ok-first-in-Sum
value-returns-in_ok-first-in-Sum t c =
    rw (← sum_is (scope_of c.args.seen.now) c.args.expr.now c.in-Sum.first c.get.result.now c.in-Sum.terms c.as_slice.result.now c.in_ok-first-in-Sum.first c.in-Sum.is c.get.ensures c.as_slice.ensures (c.in_ok-first-in-Sum.ensures)) c.sum.ensures

pub sum-returns-in_err-operand : goal.sum-returns-in_err-operand
sum-returns-in_err-operand t c =
    let s = scope_of c.args.seen.now in
    let item = c.term-item.result in
    let p = err_from_is_err_and c.from_residual.result c.from_residual.ensures.1 in
    rw (p.1, p.2)
    (fold_fails (with_term s) c.args.first c.loop-term.total c.args.terms.now c.loop-term.term-index item c.in_err-operand.field-0.0 c.loop-term.invariant c.loop-term-test.true c.term-item.is
    (then_fails (value_of s item.operand) (by_sign item.sign c.loop-term.total) c.in_err-operand.field-0.0 (c.in_err-operand.ensures)))
