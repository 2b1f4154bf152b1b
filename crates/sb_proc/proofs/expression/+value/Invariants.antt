use Rattle.std.proofs.Common.{◌≡◌, drop}
use Rattle.sb_proc.specs.Expressions as says
use Rattle.sb_proc.specs.Folds.{try_fold}
use Rattle.sb_proc.specs.Seen.{scope_of}
use Rattle.sb_proc.proofs.expression.+value.Given as goal

abbrev pub invariant-sum-loop-term : goal.invariant-sum-loop-term
invariant-sum-loop-term l =
    try_fold (says.with_term (scope_of l.seen)) l.total (drop l.term-index l.terms) ≡ try_fold (says.with_term (scope_of l.seen)) l.fn.first l.terms
