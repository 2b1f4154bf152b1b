use Rattle.std.proofs.Common.{◌≡◌, ◌++◌, drop}
use Rattle.std.specs.List.{flat_map}
use Rattle.sb_show.specs.Answers as says
use Rattle.sb_show.proofs.answer.push_all_off.Given as goal

abbrev pub invariant-loop-queue : goal.invariant-loop-queue
invariant-loop-queue l = l.out.items ++ flat_map says.off_text (drop l.queue-index l.queues) ≡ l.fn.out.items ++ flat_map says.off_text l.queues
