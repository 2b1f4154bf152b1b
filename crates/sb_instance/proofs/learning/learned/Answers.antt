use Rattle.std.proofs.Common.{arith, sym, ◌∙◌}
use Rattle.std.proofs.lemmas.Result.{err_from_is_err_and}
use Rattle.sb_instance.proofs.Learned.{bad_next, learned_first, learned_last, learns_next}
use Rattle.sb_instance.proofs.learning.learned.Goals as goal

pub loop-entry-init : goal.loop-entry-init
loop-entry-init c = learned_first c.args.log.now c.in_ok-catalog.catalog c.in_ok-catalog.ensures

pub returns-then-not-may_learn-clause-bad : goal.returns-then-not-may_learn-clause-bad
returns-then-not-may_learn-clause-bad c =
    bad_next c.args.log.now c.loop-entry.entry-index c.entry-item.result c.loop-entry.catalog (omega arith) c.entry-item.is c.loop-entry.invariant (sym c.may_learn.ensures ∙ c.if-not-may_learn.true)

pub returns-in_err-learn-clause-bad : goal.returns-in_err-learn-clause-bad
returns-in_err-learn-clause-bad c =
    let p = err_from_is_err_and c.from_residual-in_err-learn.result c.from_residual-in_err-learn.ensures.1 in
    rw (p.1, p.2) tt

pub loop-entry-preserved : goal.loop-entry-preserved
loop-entry-preserved c =
    learns_next c.args.log.now c.loop-entry.entry-index c.entry-item.result c.loop-entry.catalog c.learn.new.catalog (omega arith) c.entry-item.is c.loop-entry.invariant (sym c.may_learn.ensures ∙ c.if-not-may_learn.false) c.in_ok-learn.ensures

pub returns-clause-so : goal.returns-clause-so
returns-clause-so c = learned_last c.args.log.now c.loop-entry.entry-index c.loop-entry.catalog (omega arith) c.loop-entry.invariant
