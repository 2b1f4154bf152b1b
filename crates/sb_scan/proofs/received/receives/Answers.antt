use Rattle.std.proofs.Common.{◌+◌, ◌++◌, drop, map, ap, sym, ◌∙◌, append_assoc, arith}
use Rattle.std.specs.Prelude.{filter_map, flat_map}
use Rattle.sb_model.specs.Sides.{ops_of_entry}
use Rattle.sb_model.specs.Items.{item_at, received_content, taken, taken_by}
use Rattle.sb_scan.specs.Seen.{content_seen}
use Rattle.sb_scan.proofs.Looking.{taken_step}
use Rattle.sb_scan.proofs.received.receives.Goals as goal

pub loop-entry-preserved : goal.loop-entry-preserved
loop-entry-preserved c =
    ap (λ b. b ++ flat_map (received_content c.args.side) (filter_map (item_at c.args.log.now) (taken (drop (c.loop-entry.entry-index + 1) c.args.log.now)))) c.in_ok-push_received_in.ensures
    ∙ append_assoc (map content_seen c.loop-entry.contents.items)
    (flat_map (received_content c.args.side) (filter_map (item_at c.args.log.now) (flat_map taken_by (ops_of_entry c.entry-item.result))))
    (flat_map (received_content c.args.side) (filter_map (item_at c.args.log.now) (taken (drop (c.loop-entry.entry-index + 1) c.args.log.now))))
    ∙ ap (λ u. map content_seen c.loop-entry.contents.items ++ u) (sym (taken_step (received_content c.args.side) (item_at c.args.log.now) c.args.log.now c.loop-entry.entry-index c.entry-item.result (omega arith) c.entry-item.is))
    ∙ c.loop-entry.invariant
