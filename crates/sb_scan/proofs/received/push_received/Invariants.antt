use Rattle.std.proofs.Common.{◌≡◌, ◌++◌, drop, map}
use Rattle.std.specs.Prelude.{filter_map, flat_map}
use Rattle.sb_model.specs.Items.{item_at, received_content, taken_by}
use Rattle.sb_scan.specs.Seen.{content_seen}
use Rattle.sb_scan.proofs.received.push_received.Given as goal

abbrev pub invariant-loop-op : goal.invariant-loop-op
invariant-loop-op l =
    map content_seen l.contents.items ++ flat_map (received_content l.side) (filter_map (item_at l.log) (flat_map taken_by (drop l.op-index l.ops)))
    ≡ map content_seen l.fn.contents.items ++ flat_map (received_content l.side) (filter_map (item_at l.log) (flat_map taken_by l.ops))
