use Rattle.std.proofs.Common.{refl, ◌∙◌, arith}
use Rattle.std.specs.Prelude.{flat_map}
use Rattle.sb_model.specs.Items.{taken_by}
use Rattle.sb_instance.proofs.Marking.{marked_more}
use Rattle.sb_instance.proofs.marks.mark_ops.Goals as goal

pub loop-op-preserved : goal.loop-op-preserved
loop-op-preserved c = λ n h.
    marked_more (flat_map taken_by) taken_by (λ x xs. refl) c.args.ops.now c.loop-op.op-index c.op-item.result n _ _ (omega arith) c.op-item.is (c.mark_op.ensures.marked n h)
    ∙ c.loop-op.invariant n (omega arith)
