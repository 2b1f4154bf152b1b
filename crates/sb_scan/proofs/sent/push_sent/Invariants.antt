use Rattle.std.proofs.Common.{◌≡◌, drop, ◌++◌, map}
use Rattle.std.specs.Prelude.{flat_map}
use Rattle.sb_model.specs.Messages.{content_of_send}
use Rattle.sb_scan.specs.Seen.{content_seen}
use Rattle.sb_scan.proofs.sent.push_sent.Given as goal

abbrev pub invariant-loop-op : goal.invariant-loop-op
invariant-loop-op l = map content_seen l.messages.items ++ flat_map (content_of_send l.side) (drop l.op-index l.ops) ≡ map content_seen l.fn.messages.items ++ flat_map (content_of_send l.side) l.ops
