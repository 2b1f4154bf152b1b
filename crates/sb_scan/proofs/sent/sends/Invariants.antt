use Rattle.std.proofs.Common.{◌≡◌, drop, ◌++◌, map}
use Rattle.sb_model.specs.Messages.{sends}
use Rattle.sb_scan.specs.Seen.{content_seen}
use Rattle.sb_scan.proofs.sent.sends.Given as goal

abbrev pub invariant-loop-entry : goal.invariant-loop-entry
invariant-loop-entry l = map content_seen l.messages.items ++ sends (drop l.entry-index l.log) l.side ≡ sends l.log l.side
