use Rattle.std.proofs.Common.{◌≡◌, drop, ◌==◌}
use Rattle.std.specs.Prelude.{flat_map}
use Rattle.std.specs.List.{list_any}
use Rattle.sb_model.specs.Items.{taken_by}
use Rattle.sb_scan.proofs.item.ops_take.Given as goal

abbrev pub invariant-loop-op : goal.invariant-loop-op
invariant-loop-op l = list_any (λ n. n == l.number) (flat_map taken_by (drop l.op-index l.ops)) ≡ list_any (λ n. n == l.number) (flat_map taken_by l.ops)
