use Rattle.std.proofs.Common.{arith}
use Rattle.sb_model.specs.Messages.{numbered}
use Rattle.sb_instance.proofs.Carried.{behind_all}
use Rattle.sb_instance.proofs.carrying.messages_behind.Goals as goal

pub returns : goal.returns
returns c =
    behind_all c.in_ok-messages.messages.items c.as_slice-all.result.now (numbered c.args.log.now c.args.side) c.loop-place.place c.args.count c.loop-place.rest.items
    c.as_slice-all.ensures.value c.in_ok-messages.ensures (omega arith) c.loop-place.invariant
