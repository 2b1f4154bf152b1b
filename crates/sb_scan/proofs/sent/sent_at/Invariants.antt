use Rattle.std.proofs.Common.{◌≡◌, drop}
use Rattle.sb_model.specs.Messages.{sends}
use Rattle.sb_scan.specs.Seen.{nth_or_left}
use Rattle.sb_scan.proofs.sent.sent_at.Given as goal

abbrev pub invariant-loop-entry : goal.invariant-loop-entry
invariant-loop-entry l = nth_or_left (sends (drop l.entry-index l.log) l.side) l.left ≡ nth_or_left (sends l.log l.side) l.n
