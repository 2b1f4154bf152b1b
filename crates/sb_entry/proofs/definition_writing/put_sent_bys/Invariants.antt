use Rattle.std.proofs.Common.{◌≡◌, ◌++◌, take}
use Rattle.std.specs.List.{flat_map}
use Rattle.sb_model.specs.Spelling.{sent_by_bytes}
use Rattle.sb_entry.proofs.definition_writing.put_sent_bys.Given as goal

abbrev pub invariant-loop-sent : goal.invariant-loop-sent
invariant-loop-sent l = l.out.items ≡ l.initial.out.items ++ flat_map sent_by_bytes (take l.sent-index l.types)
