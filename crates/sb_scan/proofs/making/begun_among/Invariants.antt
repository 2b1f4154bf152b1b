use Rattle.std.proofs.Common.{◌≡◌, drop}
use Rattle.std.specs.Prelude.{find, flat_map}
use Rattle.sb_model.specs.Sides.{is_of, made_by_op}
use Rattle.sb_scan.proofs.making.begun_among.Given as goal

abbrev pub invariant-loop-op : goal.invariant-loop-op
invariant-loop-op l = find (is_of l.side) (flat_map made_by_op (drop l.op-index l.ops)) ≡ find (is_of l.side) (flat_map made_by_op l.ops)
