use Rattle.std.proofs.Common.{◌≡◌, drop, map}
use Rattle.std.specs.List.{list_any}
use Rattle.sb_model.specs.Sides.{same_side}
use Rattle.sb_scan.specs.Seen.{making_of}
use Rattle.sb_scan.proofs.making.is_known.Given as goal

abbrev pub invariant-loop-known : goal.invariant-loop-known
invariant-loop-known l = list_any (λ m. same_side l.side m.side) (map making_of (drop l.known-index l.sides)) ≡ list_any (λ m. same_side l.side m.side) (map making_of l.sides)
