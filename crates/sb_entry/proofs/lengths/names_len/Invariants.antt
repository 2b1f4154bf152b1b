use Rattle.std.proofs.Common.{◌≡◌, length, take}
use Rattle.std.specs.List.{flat_map}
use Rattle.sb_fields.specs.Spelling.{text16}
use Rattle.sb_entry.specs.Lengths.{capped}
use Rattle.sb_entry.proofs.lengths.names_len.Given as goal

abbrev pub invariant-loop-name : goal.invariant-loop-name
invariant-loop-name l = l.total ≡ capped (length (flat_map text16 (take l.name-index l.names)))
