use Rattle.std.proofs.Common.{arith}
use Rattle.std.proofs.lemmas.Result.{err_from_is_err_and}
use Rattle.sb_grammar.specs.Words.{fixed_at}
use Rattle.sb_grammar.specs.declared.word.Fixed.TheVariants as fixed
use Rattle.sb_grammar.specs.Rules.{most}
use Rattle.sb_grammar.specs.Exprs.{and_step, or_step, test, conjunction}
use Rattle.sb_grammar.proofs.Laws.{loop_start}
use Rattle.sb_parse.proofs.Turns.{behind_goes, behind_fails}
use Rattle.sb_parse.proofs.condition.+condition.Goals as goal

pub more_tests-ands-init : goal.more_tests-ands-init
unfolding most
more_tests-ands-init t c = (loop_start (fixed_at fixed.And) (and_step (test c.args.levels)) most c.args.first c.args.tokens.now (omega arith), omega arith)

pub more_tests-returns-in_err-next-clause-value : goal.more_tests-returns-in_err-next-clause-value
more_tests-returns-in_err-next-clause-value t c =
    let p = err_from_is_err_and c.from_residual.result c.from_residual.ensures.1 in
    rw (p.1, p.2) (behind_fails fixed.And (and_step (test c.args.levels)) c.in_err-next.field-0.0 c.ands.rest.now c.in-Some.more.now c.ands.left _ c.ands.invariant.0 c.in-Some.ensures.parts c.in_err-next.ensures.value)

pub more_tests-ands-preserved : goal.more_tests-ands-preserved
more_tests-ands-preserved t c = (
  behind_goes fixed.And (and_step (test c.args.levels)) c.ands.rest.now c.in-Some.more.now c.in_ok-next.after.now c.ands.left c.in_ok-next.next _ c.ands.invariant.0 c.in-Some.ensures.parts c.in_ok-next.ensures.value c.in_ok-next.ensures.shorter,
  omega (arith, c.in_ok-next.ensures.shorter, c.in-Some.ensures.shorter),
)

pub more_conjunctions-ors-init : goal.more_conjunctions-ors-init
unfolding most
more_conjunctions-ors-init t c = (loop_start (fixed_at fixed.Or) (or_step (conjunction c.args.levels)) most c.args.first c.args.tokens.now (omega arith), omega arith)

pub more_conjunctions-returns-in_err-next-clause-value : goal.more_conjunctions-returns-in_err-next-clause-value
more_conjunctions-returns-in_err-next-clause-value t c =
    let p = err_from_is_err_and c.from_residual.result c.from_residual.ensures.1 in
    rw (p.1, p.2) (behind_fails fixed.Or (or_step (conjunction c.args.levels)) c.in_err-next.field-0.0 c.ors.rest.now c.in-Some.more.now c.ors.left _ c.ors.invariant.0 c.in-Some.ensures.parts c.in_err-next.ensures.value)

pub more_conjunctions-ors-preserved : goal.more_conjunctions-ors-preserved
more_conjunctions-ors-preserved t c = (
  behind_goes fixed.Or (or_step (conjunction c.args.levels)) c.ors.rest.now c.in-Some.more.now c.in_ok-next.after.now c.ors.left c.in_ok-next.next _ c.ors.invariant.0 c.in-Some.ensures.parts c.in_ok-next.ensures.value c.in_ok-next.ensures.shorter,
  omega (arith, c.in_ok-next.ensures.shorter, c.in-Some.ensures.shorter),
)
