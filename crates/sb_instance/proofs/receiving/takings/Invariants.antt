use Rattle.std.proofs.Common.{◌≡◌, drop, ◌++◌, map}
use Rattle.sb_instance.specs.Candidates.{takes}
use Rattle.sb_instance.proofs.receiving.takings.Given as goal

abbrev pub invariant-loop-item : goal.invariant-loop-item
invariant-loop-item l = l.ops.items ++ map (takes l.queue) (drop l.item-index l.items) ≡ map (takes l.queue) l.items
