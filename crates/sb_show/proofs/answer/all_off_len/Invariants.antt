use Rattle.std.proofs.Common.{◌≡◌, length, take}
use Rattle.std.specs.List.{flat_map}
use Rattle.sb_show.specs.Values.{capped}
use Rattle.sb_show.specs.Answers.{off_text}
use Rattle.sb_show.proofs.answer.all_off_len.Given as goal

abbrev pub invariant-loop-queue : goal.invariant-loop-queue
invariant-loop-queue l = l.sum ≡ capped (length (flat_map off_text (take l.queue-index l.queues)))
