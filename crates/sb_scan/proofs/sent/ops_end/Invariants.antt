use Rattle.std.proofs.Common.{◌≡◌, drop}
use Rattle.std.specs.List.{list_any}
use Rattle.sb_model.specs.Messages.{ends_side}
use Rattle.sb_scan.proofs.sent.ops_end.Given as goal

abbrev pub invariant-loop-op : goal.invariant-loop-op
invariant-loop-op l = list_any (ends_side l.side) (drop l.op-index l.ops) ≡ list_any (ends_side l.side) l.ops
