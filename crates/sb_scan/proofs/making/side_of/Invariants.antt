use Rattle.std.proofs.Common.{◌≡◌, drop, map}
use Rattle.std.specs.Prelude.{find}
use Rattle.sb_model.specs.Sides.{sides, same_id}
use Rattle.sb_scan.specs.Seen.{making_of}
use Rattle.sb_scan.proofs.making.side_of.Given as goal

abbrev pub invariant-loop-found : goal.invariant-loop-found
invariant-loop-found l = find (λ m. same_id m.handle l.handle) (map making_of (drop l.found-index l.known)) ≡ find (λ m. same_id m.handle l.handle) (sides l.log)
