use Rattle.std.proofs.Common.{◌≡◌, drop}
use Rattle.sb_model.specs.Messages.{is_closed_by_ack}
use Rattle.sb_scan.proofs.sent.is_closed_by_ack.Given as goal

abbrev pub invariant-loop-entry : goal.invariant-loop-entry
invariant-loop-entry l = is_closed_by_ack (drop l.entry-index l.log) l.side ≡ is_closed_by_ack l.log l.side
