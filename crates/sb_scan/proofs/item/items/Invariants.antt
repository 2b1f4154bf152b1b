use Rattle.std.proofs.Common.{◌≡◌, drop, ◌++◌, ◌≤◌, ◌+◌, map}
use Rattle.sb_model.specs.Items.{items, items_from}
use Rattle.sb_scan.specs.Shown.{item_seen}
use Rattle.sb_scan.proofs.item.items.Given as goal

abbrev pub invariant-loop-entry : goal.invariant-loop-entry
invariant-loop-entry l = record {
  few : l.number ≤ l.entry-index + 1;
  rest : map item_seen l.found.items ++ items_from l.number (drop l.entry-index l.log) ≡ items l.log;
}
