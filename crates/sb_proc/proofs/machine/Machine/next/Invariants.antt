use Rattle.sb_proc.specs.Machines.{Reaches}
use Rattle.sb_proc.proofs.Weights.{weights}
use Rattle.sb_proc.proofs.machine.Machine.next.Given as goal

abbrev pub invariant-turns : goal.invariant-turns
invariant-turns l = Reaches l.initial.self l.self

abbrev pub decreases-turns : goal.decreases-turns
decreases-turns l = weights l.self.rest
