use Rattle.std.proofs.Common.{◌≡◌, ◌++◌, drop, map}
use Rattle.std.specs.Prelude.{filter_map, flat_map}
use Rattle.sb_model.specs.Items.{item_at, received_content, receives, taken}
use Rattle.sb_scan.specs.Seen.{content_seen}
use Rattle.sb_scan.proofs.received.receives.Given as goal

abbrev pub invariant-loop-entry : goal.invariant-loop-entry
invariant-loop-entry l =
    map content_seen l.contents.items ++ flat_map (received_content l.side) (filter_map (item_at l.log) (taken (drop l.entry-index l.log)))
    ≡ receives l.log l.side
