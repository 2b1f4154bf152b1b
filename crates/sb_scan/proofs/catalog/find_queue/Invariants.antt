use Rattle.std.proofs.Common.{◌≡◌, drop}
use Rattle.sb_model.specs.Catalog.{find_queue}
use Rattle.sb_scan.proofs.catalog.find_queue.Given as goal

abbrev pub invariant-loop-entry : goal.invariant-loop-entry
invariant-loop-entry l = find_queue (drop l.entry-index l.log) l.name ≡ find_queue l.log l.name
