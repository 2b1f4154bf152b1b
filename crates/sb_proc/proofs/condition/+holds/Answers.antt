use Rattle.sb_proc.specs.Seen.{scope_of}
use Rattle.sb_proc.proofs.Values.{holds_all, holds_any}
use Rattle.sb_proc.proofs.condition.+holds.Goals as goal

pub holds-returns-in-All : goal.holds-returns-in-All
holds-returns-in-All t c =
    rw (← holds_all (scope_of c.args.seen.now) c.args.condition.now c.in-All.tests c.as_slice.result.now c.in-All.is c.as_slice.ensures) c.all_hold.ensures

pub holds-returns-in-Any : goal.holds-returns-in-Any
holds-returns-in-Any t c =
    rw (← holds_any (scope_of c.args.seen.now) c.args.condition.now c.in-Any.tests c.as_slice-in-Any.result.now c.in-Any.is c.as_slice-in-Any.ensures) c.any_holds.ensures
