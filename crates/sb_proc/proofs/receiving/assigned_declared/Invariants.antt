use Rattle.std.proofs.Common.{◌≡◌, drop}
use Rattle.sb_proc.specs.Scopes.{all_declared}
use Rattle.sb_proc.specs.Seen.{scope_of}
use Rattle.sb_proc.proofs.receiving.assigned_declared.Given as goal

abbrev pub invariant-loop-assignment : goal.invariant-loop-assignment
invariant-loop-assignment l = all_declared (scope_of l.seen) (λ x. x.variable) (drop l.assignment-index l.assignments) ≡ all_declared (scope_of l.seen) (λ x. x.variable) l.assignments
