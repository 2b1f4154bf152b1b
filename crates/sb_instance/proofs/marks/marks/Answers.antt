use Rattle.std.proofs.Common.{◌∙◌, arith}
use Rattle.std.specs.Prelude.{flat_map}
use Rattle.std.proofs.lemmas.Grind.{flat_map-append}
use Rattle.sb_model.specs.Sides.{ops_of, ops_of_entry}
use Rattle.sb_model.specs.Items.{taken, taken_by}
use Rattle.sb_instance.proofs.Marking.{marked_more}
use Rattle.sb_instance.proofs.marks.marks.Goals as goal

pub loop-entry-preserved : goal.loop-entry-preserved
loop-entry-preserved c = λ n h.
    marked_more taken (λ e. flat_map taken_by (ops_of_entry e)) (λ e log. flat_map-append taken_by (ops_of_entry e) (ops_of log)) c.args.log.now c.loop-entry.entry-index
    c.entry-item.result n _ _ (omega arith) c.entry-item.is (c.mark_entry.ensures.marked n h)
    ∙ c.loop-entry.invariant n (omega arith)
