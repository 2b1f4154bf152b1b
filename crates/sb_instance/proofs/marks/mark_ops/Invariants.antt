use Rattle.std.proofs.Common.{◌≡◌, ℕ, drop, ◌<◌, ◌==◌, ◌||◌, false, length, get_or}
use Rattle.std.specs.Prelude.{flat_map}
use Rattle.std.specs.List.{list_any}
use Rattle.sb_model.specs.Items.{taken_by}
use Rattle.sb_instance.proofs.marks.mark_ops.Given as goal

abbrev pub invariant-loop-op : goal.invariant-loop-op
invariant-loop-op l = (n : ℕ) → n < length l.marks → (get_or l.marks n false || list_any (λ m. m == n) (flat_map taken_by (drop l.op-index l.ops))) ≡ (get_or l.fn.marks n false || list_any (λ m. m == n) (flat_map taken_by l.ops))
