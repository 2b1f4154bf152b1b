use Rattle.std.proofs.Common.{◌≡◌, ◌==◌, ◌+◌, ◌≤◌, drop}
use Rattle.std.specs.Prelude.{find}
use Rattle.sb_model.specs.Items.{item_at, items_from}
use Rattle.sb_scan.proofs.received.item_at.Given as goal

abbrev pub invariant-loop-entry : goal.invariant-loop-entry
invariant-loop-entry l = record {
  few : l.next ≤ l.entry-index + 1;
  rest : find (λ item. item.number == l.number) (items_from l.next (drop l.entry-index l.log)) ≡ item_at l.log l.number;
}
