use Rattle.std.proofs.Common.{◌≡◌, drop, map}
use Rattle.std.specs.Prelude.{fold}
use Rattle.sb_model.specs.Sides.{makings, sides}
use Rattle.sb_scan.specs.Seen.{making_of}
use Rattle.sb_scan.specs.Firsts.{with_first}
use Rattle.sb_scan.proofs.making.sides.Given as goal

abbrev pub invariant-loop-entry : goal.invariant-loop-entry
invariant-loop-entry l = fold with_first (map making_of l.found.items) (makings (drop l.entry-index l.log)) ≡ sides l.log
