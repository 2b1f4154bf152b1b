use Rattle.std.proofs.Common.{◌≤◌}
use Rattle.sb_txn.proofs.GivenBack.{IsGivingBack}
use Rattle.sb_txn.proofs.giving.give_back.Given as goal

abbrev pub invariant-loop-guard : goal.invariant-loop-guard
invariant-loop-guard l =
    IsGivingBack l.fn.guards.items l.fn.locks.holds l.guards.items l.locks.holds × (l.fn.locks.spare ≤ l.locks.spare)

abbrev pub decreases-loop-guard : goal.decreases-loop-guard
decreases-loop-guard l = goal.left-loop-guard l
