use Rattle.std.proofs.Common.{◌≡◌, ◌+◌, ◌≤◌, [], ◌++◌, map, drop}
use Rattle.sb_model.specs.Items.{items_from}
use Rattle.sb_model.specs.Pick.{candidates}
use Rattle.sb_instance.specs.Candidates.{placed, placed_seen}
use Rattle.sb_instance.proofs.Known.{AreFacts}
use Rattle.sb_instance.proofs.Untaken.{admitted}
use Rattle.sb_instance.proofs.candidates.candidates.Given as goal

abbrev pub invariant-loop-entry : goal.invariant-loop-entry
invariant-loop-entry l = record {
  few : l.number ≤ l.entry-index + 1;
  known : AreFacts l.log l.queue l.filter l.known.items;
  rest : map placed_seen l.found.items ++ map (placed l.log) (admitted l.log l.queue l.filter (items_from l.number (drop l.entry-index l.log)))
      ≡ map (placed l.log) (candidates l.log [] 0 l.queue l.filter);
}
