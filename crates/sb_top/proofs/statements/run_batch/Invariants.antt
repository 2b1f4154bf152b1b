use Rattle.std.proofs.Common.{◌-◌, length}
use Rattle.sb_top.specs.Following.{begun}
use Rattle.sb_top.specs.Runs.{GoesOn, LeadsThrough}
use Rattle.sb_top.proofs.statements.run_batch.Given as goal

abbrev pub invariant-turns : goal.invariant-turns
invariant-turns l = GoesOn l.fn.instance l.fn.history.steps l.instance l.history.steps (λ steps. LeadsThrough (begun l.fn.variables l.fn.text l.fn.block) steps l.machine)

abbrev pub decreases-turns : goal.decreases-turns
decreases-turns l = 200000 - length l.history.steps
