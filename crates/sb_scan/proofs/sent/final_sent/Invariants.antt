use Rattle.std.proofs.Common.{◌≡◌, drop}
use Rattle.sb_model.specs.Messages.{final_sent}
use Rattle.sb_scan.proofs.sent.final_sent.Given as goal

abbrev pub invariant-loop-entry : goal.invariant-loop-entry
invariant-loop-entry l = final_sent (drop l.entry-index l.log) l.side ≡ final_sent l.log l.side
