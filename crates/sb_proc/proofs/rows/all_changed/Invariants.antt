use Rattle.std.proofs.Common.{◌≡◌, drop}
use Rattle.sb_proc.specs.Folds.{try_fold}
use Rattle.sb_proc.specs.Requests.{with_change, all_changed}
use Rattle.sb_proc.specs.Seen.{scope_of}
use Rattle.sb_proc.proofs.rows.all_changed.Given as goal

abbrev pub invariant-loop-change : goal.invariant-loop-change
invariant-loop-change l = try_fold (with_change (scope_of l.seen)) l.changed (drop l.change-index l.changes) ≡ all_changed (scope_of l.seen) l.changes
