use Rattle.std.proofs.Common.{◌≡◌, drop}
use Rattle.std.specs.Prelude.{flat_map}
use Rattle.sb_model.specs.Messages.{content_of_send}
use Rattle.sb_scan.specs.Seen.{nth_or_left}
use Rattle.sb_scan.proofs.sent.sent_among.Given as goal

abbrev pub invariant-loop-op : goal.invariant-loop-op
invariant-loop-op l = nth_or_left (flat_map (content_of_send l.side) (drop l.op-index l.ops)) l.left ≡ nth_or_left (flat_map (content_of_send l.side) l.ops) l.n
