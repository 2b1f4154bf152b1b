use Rattle.std.proofs.Common.{◌≡◌, drop}
use Rattle.sb_model.specs.Messages.{is_expired}
use Rattle.sb_scan.proofs.sent.is_expired.Given as goal

abbrev pub invariant-loop-entry : goal.invariant-loop-entry
invariant-loop-entry l = is_expired (drop l.entry-index l.log) l.side ≡ is_expired l.log l.side
