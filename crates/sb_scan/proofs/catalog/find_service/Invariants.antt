use Rattle.std.proofs.Common.{◌≡◌, drop}
use Rattle.sb_model.specs.Catalog.{find_service}
use Rattle.sb_scan.proofs.catalog.find_service.Given as goal

abbrev pub invariant-loop-entry : goal.invariant-loop-entry
invariant-loop-entry l = find_service (drop l.entry-index l.log) l.name ≡ find_service l.log l.name
