use Rattle.std.proofs.Common.{◌≡◌, length, take}
use Rattle.std.specs.List.{flat_map}
use Rattle.sb_show.specs.Values.{capped}
use Rattle.sb_show.specs.Answers.{received_line}
use Rattle.sb_show.proofs.answer.all_received_len.Given as goal

abbrev pub invariant-loop-received : goal.invariant-loop-received
invariant-loop-received l = l.sum ≡ capped (length (flat_map received_line (take l.received-index l.items)))
