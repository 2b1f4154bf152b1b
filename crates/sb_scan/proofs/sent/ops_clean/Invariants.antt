use Rattle.std.proofs.Common.{◌≡◌, drop}
use Rattle.std.specs.List.{list_any}
use Rattle.sb_model.specs.Messages.{cleans}
use Rattle.sb_scan.proofs.sent.ops_clean.Given as goal

abbrev pub invariant-loop-op : goal.invariant-loop-op
invariant-loop-op l = list_any (cleans l.side) (drop l.op-index l.ops) ≡ list_any (cleans l.side) l.ops
