use Rattle.std.proofs.Common.{◌≡◌, drop, ◌++◌, ◌≤◌, ◌+◌, map}
use Rattle.std.specs.Prelude.{filter}
use Rattle.sb_model.specs.Items.{items, items_from, waiting, waits_in}
use Rattle.sb_scan.specs.Shown.{item_seen}
use Rattle.sb_scan.proofs.item.waiting.Given as goal

abbrev pub invariant-loop-entry : goal.invariant-loop-entry
invariant-loop-entry l = record {
  few : l.number ≤ l.entry-index + 1;
  rest : map item_seen l.found.items ++ filter (waits_in l.log l.queue) (items_from l.number (drop l.entry-index l.log)) ≡ waiting l.log l.queue;
}
