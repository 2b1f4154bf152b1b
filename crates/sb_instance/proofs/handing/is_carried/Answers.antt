use Rattle.std.proofs.Common.{◌-◌, ◌∙◌, ap, arith}
use Rattle.std.specs.Prelude.{is_some}
use Rattle.sb_instance.proofs.Handed.{none_at_zero, is_at_next}
use Rattle.sb_instance.proofs.handing.is_carried.Goals as goal

pub returns-then-number-eq0 : goal.returns-then-number-eq0
returns-then-number-eq0 c = ap is_some (none_at_zero c.args.who c.args.log.now c.args.side c.args.number (omega arith))

pub returns : goal.returns
returns c =
    c.is_carried_after.ensures ∙ is_at_next c.args.who c.args.log.now c.args.side c.args.number (c.args.number - 1) (omega arith)
