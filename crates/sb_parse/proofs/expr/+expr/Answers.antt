use Rattle.std.proofs.Common.{arith, sym}
use Rattle.std.proofs.lemmas.List.{take_rest}
use Rattle.std.proofs.lemmas.Result.{err_from_is_err_and}
use Rattle.sb_grammar.specs.Rules.{most}
use Rattle.sb_grammar.specs.Exprs.{sign_of, join_step, operand}
use Rattle.sb_grammar.proofs.Laws.{loop_start}
use Rattle.sb_parse.proofs.Turns.{turns_cut_fails}
use Rattle.sb_parse.proofs.expr.+expr.Goals as goal

pub more_sum-signs-init : goal.more_sum-signs-init
unfolding most
more_sum-signs-init t c = (loop_start sign_of (join_step (operand c.args.levels)) most c.args.first c.args.tokens.now (omega arith), omega arith)

pub more_sum-returns-in_err-next-clause-value : goal.more_sum-returns-in_err-next-clause-value
more_sum-returns-in_err-next-clause-value t c =
    let p = err_from_is_err_and c.from_residual.result c.from_residual.ensures.1 in
    rw (p.1, p.2) (turns_cut_fails sign_of (join_step (operand c.args.levels)) c.in_err-next.field-0.0 c.signs.rest.now c.t-item.result c.signs.left c.in-Some.sign _ c.signs.invariant.0 c.in-len1-up.len_at_least c.t-item.is (sym c.in-Some.ensures) (rw (take_rest c.signs.rest.now 1) at c.in_err-next.ensures.value))
