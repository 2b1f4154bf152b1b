use Rattle.std.proofs.Common.{length, map, drop, ap, sym, ◌∙◌, arith}
use Rattle.std.proofs.lemmas.List.{drop-map, length-drop}
use Rattle.sb_model.specs.Messages.{acked, numbered}
use Rattle.sb_scan.specs.Seen.{content_seen}
use Rattle.sb_scan.proofs.sent.unacked.Goals as goal

pub returns-clause-rest : goal.returns-clause-rest
returns-clause-rest c =
    ap (map content_seen) c.in_ok-rest.ensures ∙ sym (drop-map content_seen c.acked.result c.as_slice.result.now)
    ∙ ap (λ all. drop c.acked.result (map content_seen all)) c.as_slice.ensures.value
    ∙ ap (drop c.acked.result) c.in_ok-messages.ensures
    ∙ ap (λ n. drop n (numbered c.args.log.now c.args.side)) c.acked.ensures

pub returns-clause-numbers : goal.returns-clause-numbers
returns-clause-numbers c = λ some.
    let length-rest = ap length c.in_ok-rest.ensures ∙ length-drop c.acked.result c.as_slice.result.now in
    omega arith
