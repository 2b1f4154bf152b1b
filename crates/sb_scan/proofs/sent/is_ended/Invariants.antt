use Rattle.std.proofs.Common.{◌≡◌, drop}
use Rattle.sb_model.specs.Messages.{is_ended}
use Rattle.sb_scan.proofs.sent.is_ended.Given as goal

abbrev pub invariant-loop-entry : goal.invariant-loop-entry
invariant-loop-entry l = is_ended (drop l.entry-index l.log) l.side ≡ is_ended l.log l.side
