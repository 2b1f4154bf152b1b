use Rattle.std.proofs.Common.{◌≡◌, sym, ◌∙◌, ap, arith}
use Rattle.std.specs.Prelude.{slice_get, option_map, flat_map}
use Rattle.sb_model.specs.Messages.{sends, final_sent, final_content, ends}
use Rattle.sb_scan.specs.Seen.{content_seen}
use Rattle.sb_scan.proofs.Looking.{slice_get-append, get_then, get_first, first_past}
use Rattle.sb_scan.proofs.sent.message_at.Goals as goal

pub returns-in-Ok : goal.returns-in-Ok
returns-in-Ok c =
    ap (λ r. get_then r (final_sent c.args.log.now c.args.side)) c.in-Ok.ensures
    ∙ sym (slice_get-append (sends c.args.log.now c.args.side) (final_sent c.args.log.now c.args.side) c.args.n)

pub returns-in-Err-eq0 : goal.returns-in-Err-eq0
returns-in-Err-eq0 c =
    let is_first : 0 ≡ c.in-Err-eq0.field-0 = omega arith in
    sym (get_first (option_map content_seen c.final_sent.result)) ∙ ap (λ xs. slice_get xs 0) c.final_sent.ensures
    ∙ ap (slice_get (final_sent c.args.log.now c.args.side)) is_first
    ∙ ap (λ r. get_then r (final_sent c.args.log.now c.args.side)) c.in-Err-eq0.ensures
    ∙ sym (slice_get-append (sends c.args.log.now c.args.side) (final_sent c.args.log.now c.args.side) c.args.n)

pub returns-in-Err : goal.returns-in-Err
returns-in-Err c =
    first_past (flat_map final_content (ends c.args.log.now c.args.side)) c.in-Err.field-0 (omega arith)
    ∙ ap (λ r. get_then r (final_sent c.args.log.now c.args.side)) c.in-Err.ensures
    ∙ sym (slice_get-append (sends c.args.log.now c.args.side) (final_sent c.args.log.now c.args.side) c.args.n)
