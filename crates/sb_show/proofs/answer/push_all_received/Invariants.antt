use Rattle.std.proofs.Common.{◌≡◌, ◌++◌, drop}
use Rattle.std.specs.List.{flat_map}
use Rattle.sb_show.specs.Answers as says
use Rattle.sb_show.proofs.answer.push_all_received.Given as goal

abbrev pub invariant-loop-received : goal.invariant-loop-received
invariant-loop-received l = l.out.items ++ flat_map says.received_line (drop l.received-index l.items) ≡ l.fn.out.items ++ flat_map says.received_line l.items
