use Rattle.std.proofs.Common.{◌≡◌, ◌++◌, take}
use Rattle.std.specs.List.{flat_map}
use Rattle.sb_model.specs.Spelling.{op_bytes}
use Rattle.sb_entry.proofs.entry_writing.put_ops.Given as goal

abbrev pub invariant-loop-op : goal.invariant-loop-op
invariant-loop-op l = l.out.items ≡ l.initial.out.items ++ flat_map op_bytes (take l.op-index l.ops)
