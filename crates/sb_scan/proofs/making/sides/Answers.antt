use Rattle.sb_scan.proofs.Firsts.{sides_are}
use Rattle.sb_scan.proofs.making.sides.Goals as goal

pub loop-entry-init : goal.loop-entry-init
loop-entry-init c = rw c.new-found.ensures.items (sides_are c.args.log.now)
