use Rattle.std.proofs.Common.{◌≡◌, drop}
use Rattle.std.specs.Prelude.{flat_map, None}
use Rattle.std.specs.List.{last_or}
use Rattle.sb_model.specs.Groups.{group_moved}
use Rattle.sb_pick.proofs.candidates.last_moved.Given as goal

abbrev pub invariant-loop-op : goal.invariant-loop-op
invariant-loop-op l = last_or l.last (flat_map (group_moved l.side) (drop l.op-index l.taken)) ≡ last_or None (flat_map (group_moved l.side) l.taken)
