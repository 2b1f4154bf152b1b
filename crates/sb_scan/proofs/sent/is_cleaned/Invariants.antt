use Rattle.std.proofs.Common.{◌≡◌, drop}
use Rattle.sb_model.specs.Messages.{is_cleaned}
use Rattle.sb_scan.proofs.sent.is_cleaned.Given as goal

abbrev pub invariant-loop-entry : goal.invariant-loop-entry
invariant-loop-entry l = is_cleaned (drop l.entry-index l.log) l.side ≡ is_cleaned l.log l.side
