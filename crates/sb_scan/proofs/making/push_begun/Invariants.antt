use Rattle.std.proofs.Common.{◌≡◌, drop, map}
use Rattle.std.specs.Prelude.{flat_map, fold}
use Rattle.sb_model.specs.Sides.{made_by_op}
use Rattle.sb_scan.specs.Seen.{making_of}
use Rattle.sb_scan.specs.Firsts.{with_first}
use Rattle.sb_scan.proofs.making.push_begun.Given as goal

abbrev pub invariant-loop-op : goal.invariant-loop-op
invariant-loop-op l = fold with_first (map making_of l.sides.items) (flat_map made_by_op (drop l.op-index l.ops)) ≡ fold with_first (map making_of l.fn.sides.items) (flat_map made_by_op l.ops)
