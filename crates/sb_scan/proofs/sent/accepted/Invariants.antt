use Rattle.std.proofs.Common.{◌≡◌, drop, ◌≤◌, ◌+◌}
use Rattle.sb_model.specs.Messages.{accepted}
use Rattle.sb_scan.proofs.sent.accepted.Given as goal

abbrev pub invariant-loop-entry : goal.invariant-loop-entry
invariant-loop-entry l = record {
  few : l.count ≤ l.entry-index;
  rest : l.count + accepted (drop l.entry-index l.log) l.side ≡ accepted l.log l.side;
}
