use Rattle.std.proofs.Common.{arith}
use Rattle.sb_top.proofs.Writing.{none_of_next, part_of_next}
use Rattle.sb_top.proofs.output.write_steps.Goals as goal

pub returns-in-Err-clause-err : goal.returns-in-Err-clause-err
returns-in-Err-clause-err g c =
    none_of_next _ _ c.args.steps.now c.loop-whole.whole c.loop-whole.invariant.within c.loop-whole.invariant.so_far

pub returns-in-Err-write_all-clause-err : goal.returns-in-Err-write_all-clause-err
returns-in-Err-write_all-clause-err g c =
    let part = c.in-Err-write_all.ensures.err in
    part_of_next _ (g.K.Sink.written c.loop-whole.sink) _ c.args.steps.now c.loop-whole.whole part.0 c.index-steps-whole.result (omega arith) c.index-steps-whole.is c.loop-whole.invariant.so_far
    (rw (← c.in-Ok.ensures.text, ← c.as_slice.ensures.value) part.1)
