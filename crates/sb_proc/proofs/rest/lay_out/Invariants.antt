use Rattle.std.proofs.Common.{◌≡◌, ◌++◌, length}
use Rattle.sb_proc.proofs.rest.lay_out.Given as goal

abbrev pub decreases-items : goal.decreases-items
decreases-items g l = length l.opened

abbrev pub invariant-items : goal.invariant-items
invariant-items g l = l.opened ++ l.others.items ≡ l.initial.opened ++ l.initial.others.items
