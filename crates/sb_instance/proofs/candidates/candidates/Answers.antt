use Rattle.std.proofs.Common.{◌++◌, sym, ap, ◌∙◌, arith}
use Rattle.std.specs.Prelude.{option_map}
use Rattle.sb_scan.specs.Shown.{item_seen}
use Rattle.sb_instance.specs.Untaken.{untaken}
use Rattle.sb_instance.proofs.Untaken.{with_item, without_item}
use Rattle.sb_instance.proofs.candidates.candidates.Goals as goal
use Rattle.sb_instance.proofs.candidates.candidates.Goals.{in-Some+in_ok-facts+in_ok-push_untaken, in_default}

pub loop-entry-preserved : goal.loop-entry-preserved
loop-entry-preserved c =
    elim c.match-item_in.branch [
      | in-Some+in_ok-facts+in_ok-push_untaken w ↦ record {
        few = omega arith;
        known = rw w.known-is w.facts_for.ensures.known;
        rest = rw (w.number-is, w.found-is)
            (with_item c.args.log.now c.args.queue.now c.args.filter c.in_ok-marks.marks.items w.in_ok-facts.facts w.in-Some.item c.loop-entry.found.items w.push_untaken.new.found.items
            c.loop-entry.number c.loop-entry.entry-index c.entry-item.result (omega arith) c.entry-item.is c.loop-entry.invariant.few c.in_ok-marks.ensures.length c.in_ok-marks.ensures.marked
            (ap (option_map item_seen) (sym w.in-Some.is) ∙ c.item_in.ensures) w.in_ok-facts.ensures.found
            (w.in_ok-push_untaken.ensures.ok ∙ ap (λ xs. c.loop-entry.found.items ++ untaken xs w.in_ok-facts.facts w.in-Some.item) w.as_slice.ensures.value)
            ∙ c.loop-entry.invariant.rest);
      }
      | in_default w ↦ record {
        few = omega arith;
        known = rw w.known-is c.loop-entry.invariant.known;
        rest = rw (w.number-is, w.found-is)
            (without_item c.args.log.now c.args.queue.now c.args.filter c.loop-entry.found.items c.loop-entry.number c.loop-entry.entry-index c.entry-item.result (omega arith) c.entry-item.is
            (ap (option_map item_seen) (sym w.in_default.is) ∙ c.item_in.ensures)
            ∙ c.loop-entry.invariant.rest);
      }
    ]
