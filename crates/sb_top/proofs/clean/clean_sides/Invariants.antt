use Rattle.std.proofs.Common.{drop}
use Rattle.std.specs.List.{AllByRecursion}
use Rattle.sb_top.specs.Following.{CleansSide, InTurn}
use Rattle.sb_top.specs.Runs.{GoesBefore, GoesOn, IsPending, world_of}
use Rattle.sb_top.proofs.clean.clean_sides.Given as goal

abbrev pub invariant-loop-side : goal.invariant-loop-side
invariant-loop-side l = record {
  goes : GoesOn l.fn.instance l.fn.history.steps l.instance l.history.steps
      (GoesBefore (InTurn CleansSide (world_of l.instance) (drop l.side-index l.pending)) (InTurn CleansSide (world_of l.fn.instance) l.pending));
  there : AllByRecursion (IsPending l.instance) (drop l.side-index l.pending);
}
