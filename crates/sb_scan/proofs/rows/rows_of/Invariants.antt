use Rattle.std.proofs.Common.{◌≡◌, drop}
use Rattle.std.specs.Prelude.{fold, option_map}
use Rattle.sb_model.specs.Sides.{ops_of}
use Rattle.sb_model.specs.Rows.{row_after, rows_of}
use Rattle.sb_scan.specs.Rows.{row_seen}
use Rattle.sb_scan.proofs.rows.rows_of.Given as goal

abbrev pub invariant-loop-entry : goal.invariant-loop-entry
invariant-loop-entry l = fold (row_after l.table l.key) (option_map row_seen l.last) (ops_of (drop l.entry-index l.log)) ≡ rows_of l.log l.table l.key
