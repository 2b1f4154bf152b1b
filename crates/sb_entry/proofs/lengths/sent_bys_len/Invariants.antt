use Rattle.std.proofs.Common.{◌≡◌, length, take}
use Rattle.std.specs.List.{flat_map}
use Rattle.sb_model.specs.Spelling.{sent_by_bytes}
use Rattle.sb_entry.specs.Lengths.{capped}
use Rattle.sb_entry.proofs.lengths.sent_bys_len.Given as goal

abbrev pub invariant-loop-sent : goal.invariant-loop-sent
invariant-loop-sent l = l.total ≡ capped (length (flat_map sent_by_bytes (take l.sent-index l.types)))
