use Rattle.std.proofs.Common.{◌≡◌, length, take}
use Rattle.std.specs.List.{flat_map}
use Rattle.sb_model.specs.Spelling.{op_bytes}
use Rattle.sb_entry.specs.Lengths.{capped}
use Rattle.sb_entry.proofs.lengths.ops_len.Given as goal

abbrev pub invariant-loop-op : goal.invariant-loop-op
invariant-loop-op l = l.total ≡ capped (length (flat_map op_bytes (take l.op-index l.ops)))
