use Rattle.std.proofs.Common.{◌≡◌, drop, fold}
use Rattle.sb_proc.specs.Replies.{after_assignment}
use Rattle.sb_proc.specs.Scopes.{scope_with}
use Rattle.sb_proc.proofs.replies.take_columns.Given as goal

abbrev pub invariant-loop-assignment : goal.invariant-loop-assignment
invariant-loop-assignment l =
    scope_with l.variables (fold (after_assignment l.item) l.variables.variables (drop l.assignment-index l.assignments))
    ≡ scope_with l.initial.variables (fold (after_assignment l.item) l.initial.variables.variables l.assignments)
