use Rattle.std.proofs.Common.{◌≡◌, drop}
use Rattle.std.specs.Prelude.{flat_map, None}
use Rattle.std.specs.List.{last_or}
use Rattle.sb_model.specs.Groups.{group_moved}
use Rattle.sb_model.specs.Sides.{ops_of}
use Rattle.sb_scan.proofs.group.last_moved.Given as goal

abbrev pub invariant-loop-entry : goal.invariant-loop-entry
invariant-loop-entry l = last_or l.last (flat_map (group_moved l.side) (ops_of (drop l.entry-index l.log))) ≡ last_or None (flat_map (group_moved l.side) (ops_of l.log))
