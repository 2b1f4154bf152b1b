use Rattle.std.proofs.Common.{◌≡◌, drop}
use Rattle.sb_model.specs.Sides.{made}
use Rattle.sb_scan.proofs.making.made.Given as goal

abbrev pub invariant-loop-entry : goal.invariant-loop-entry
invariant-loop-entry l = made (drop l.entry-index l.log) l.side ≡ made l.log l.side
