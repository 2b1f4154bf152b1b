use Rattle.std.proofs.Common.{◌≡◌, drop}
use Rattle.std.specs.Prelude.{fold, option_map}
use Rattle.sb_model.specs.Rows.{row_after}
use Rattle.sb_scan.specs.Rows.{row_seen}
use Rattle.sb_scan.proofs.rows.row_behind.Given as goal

abbrev pub invariant-loop-op : goal.invariant-loop-op
invariant-loop-op l = fold (row_after l.table l.key) (option_map row_seen l.last) (drop l.op-index l.ops) ≡ fold (row_after l.table l.key) (option_map row_seen l.fn.row) l.ops
