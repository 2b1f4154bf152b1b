use Rattle.std.proofs.Common.{◌≡◌, ◌++◌, drop}
use Rattle.std.specs.List.{flat_map}
use Rattle.sb_show.specs.Values as says
use Rattle.sb_show.proofs.value.push_bytes.Given as goal

abbrev pub invariant-loop-byte : goal.invariant-loop-byte
invariant-loop-byte l = l.out.items ++ flat_map says.byte_text (drop l.byte-index l.bytes) ≡ l.fn.out.items ++ flat_map says.byte_text l.bytes
