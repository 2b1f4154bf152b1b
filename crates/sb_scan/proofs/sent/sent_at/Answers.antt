use Rattle.std.proofs.Common.{◌+◌, sym, ◌∙◌, ap, drop, arith}
use Rattle.sb_model.specs.Messages.{sends}
use Rattle.sb_scan.proofs.Looking.{nth_then, sent_step}
use Rattle.sb_scan.proofs.sent.sent_at.Goals as goal

pub returns-in-Ok : goal.returns-in-Ok
returns-in-Ok c =
    ap (λ r. nth_then r (sends (drop (c.loop-entry.entry-index + 1) c.args.log.now) c.args.side)) c.in-Ok.ensures
    ∙ sym (sent_step c.args.side c.args.log.now c.loop-entry.entry-index c.loop-entry.left c.entry-item.result (omega arith) c.entry-item.is)
    ∙ c.loop-entry.invariant

pub loop-entry-preserved : goal.loop-entry-preserved
loop-entry-preserved c =
    ap (λ r. nth_then r (sends (drop (c.loop-entry.entry-index + 1) c.args.log.now) c.args.side)) c.in-Err.ensures
    ∙ sym (sent_step c.args.side c.args.log.now c.loop-entry.entry-index c.loop-entry.left c.entry-item.result (omega arith) c.entry-item.is)
    ∙ c.loop-entry.invariant
