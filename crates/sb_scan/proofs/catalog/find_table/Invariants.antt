use Rattle.std.proofs.Common.{◌≡◌, drop}
use Rattle.sb_model.specs.Catalog.{find_table}
use Rattle.sb_scan.proofs.catalog.find_table.Given as goal

abbrev pub invariant-loop-entry : goal.invariant-loop-entry
invariant-loop-entry l = find_table (drop l.entry-index l.log) l.name ≡ find_table l.log l.name
