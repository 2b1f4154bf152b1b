use Rattle.std.proofs.Common.{◌+◌, drop}
use Rattle.std.proofs.lemmas.List.{drop_all}
use Rattle.std.proofs.lemmas.Result.{err_from_is_err_and}
use Rattle.sb_top.specs.Following.{CleansSide, InTurn}
use Rattle.sb_top.specs.Runs.{world_of}
use Rattle.sb_top.proofs.Driving.{next_at}
use Rattle.sb_top.proofs.Follows.{begun_next_as, can_clean_side, done_all, done_next}
use Rattle.sb_top.proofs.Handing.{pending_behind}
use Rattle.sb_top.proofs.Histories.{goes_on_both, goes_on_same, goes_on_so}
use Rattle.sb_top.proofs.clean.clean_sides.Goals as goal

pub loop-side-init : goal.loop-side-init
loop-side-init c = record { goes = goes_on_same _ _ _ c.requires.plain (λ more rest. rest); there = c.requires.there }

pub clean_side-requires-clause-plain : goal.clean_side-requires-clause-plain
clean_side-requires-clause-plain c = c.loop-side.invariant.goes.plain

pub returns-in_err-clean_side-clause-goes : goal.returns-in_err-clean_side-clause-goes
returns-in_err-clean_side-clause-goes c =
    let e = err_from_is_err_and c.from_residual.result c.from_residual.ensures.1 in
    rw e.1 (goes_on_both _ _ _ _ _ _ _ _ _ c.loop-side.invariant.goes c.in_err-clean_side.ensures.goes
    (λ xs ys state before begun. begun_next_as _ _ e.2 CleansSide can_clean_side (world_of c.loop-side.instance) (drop c.loop-side.side-index c.args.pending.now) _ (drop (c.loop-side.side-index + 1) c.args.pending.now)
    (InTurn CleansSide (world_of c.args.instance.now) c.args.pending.now) xs ys (next_at c.args.pending.now c.loop-side.side-index _ c.loop-side-test.true) before begun))

pub loop-side-preserved : goal.loop-side-preserved
loop-side-preserved c = record {
  goes = goes_on_both _ _ _ _ _ _ _ _ _ c.loop-side.invariant.goes c.in_ok-clean_side.ensures.goes
      (λ xs ys state before done. done_next CleansSide (world_of c.loop-side.instance) (world_of c.loop-side.instance) (world_of c.clean_side.new.instance) (drop c.loop-side.side-index c.args.pending.now) _ (drop (c.loop-side.side-index + 1) c.args.pending.now)
      (InTurn CleansSide (world_of c.args.instance.now) c.args.pending.now) xs ys (next_at c.args.pending.now c.loop-side.side-index _ c.loop-side-test.true) before done state);
  there = pending_behind c.loop-side.instance c.clean_side.new.instance c.args.pending.now c.loop-side.side-index c.in_ok-clean_side.ensures.keeps c.loop-side.invariant.there;
}

pub returns-clause-goes : goal.returns-clause-goes
returns-clause-goes c =
    goes_on_so _ _ _ _ _ _ c.loop-side.invariant.goes
    (λ xs before. done_all CleansSide (world_of c.loop-side.instance) (drop c.loop-side.side-index c.args.pending.now) (InTurn CleansSide (world_of c.args.instance.now) c.args.pending.now) xs
    (drop_all c.loop-side.side-index c.args.pending.now c.loop-side-test.false) before)
