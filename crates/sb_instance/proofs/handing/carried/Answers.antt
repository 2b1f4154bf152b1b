use Rattle.std.proofs.Common.{◌-◌, arith}
use Rattle.sb_instance.proofs.Handed.{none_at_zero, at_next}
use Rattle.sb_instance.proofs.handing.carried.Goals as goal

pub returns-then-number-eq0 : goal.returns-then-number-eq0
returns-then-number-eq0 c = none_at_zero c.args.who c.args.log.now c.args.side c.args.number (omega arith)

pub returns : goal.returns
returns c = at_next c.args.who c.args.log.now c.args.side c.args.number (c.args.number - 1) c.carried_after.result (omega arith) c.carried_after.ensures
