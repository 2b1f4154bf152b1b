use Rattle.std.proofs.Common.{◌≡◌, drop, max}
use Rattle.std.specs.Prelude.{fold}
use Rattle.sb_model.specs.Messages.{acked, acks}
use Rattle.sb_scan.proofs.sent.acked.Given as goal

abbrev pub invariant-loop-entry : goal.invariant-loop-entry
invariant-loop-entry l = fold (λ most ack. max most ack.0) l.most (acks (drop l.entry-index l.log) l.side) ≡ acked l.log l.side
