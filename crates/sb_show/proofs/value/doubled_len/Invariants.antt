use Rattle.std.proofs.Common.{◌≡◌, length, take}
use Rattle.std.specs.List.{flat_map}
use Rattle.sb_show.specs.Values.{capped}
use Rattle.sb_show.specs.Values.{name_byte}
use Rattle.sb_show.proofs.value.doubled_len.Given as goal

abbrev pub invariant-loop-byte : goal.invariant-loop-byte
invariant-loop-byte l = l.total ≡ capped (length (flat_map name_byte (take l.byte-index l.name)))
