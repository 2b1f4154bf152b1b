use Rattle.std.proofs.Common.{◌≡◌, drop}
use Rattle.sb_model.specs.Items.{is_taken}
use Rattle.sb_scan.proofs.item.is_taken.Given as goal

abbrev pub invariant-loop-entry : goal.invariant-loop-entry
invariant-loop-entry l = is_taken (drop l.entry-index l.log) l.number ≡ is_taken l.log l.number
