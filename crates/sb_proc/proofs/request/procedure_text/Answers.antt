use Rattle.std.proofs.Common.{◌∙◌}
use Rattle.sb_proc.proofs.Cuts.{text_is}
use Rattle.sb_proc.proofs.request.procedure_text.Goals as goal

pub returns : goal.returns
returns c =
    c.from_string.ensures ∙ c.in_ok-text.ensures.lossy
    ∙ text_is c.args.at c.end_of_last.result c.min-end.result c.min-start.result c.args.batch.now c.as_bytes-bytes.result.now _ c.as_slice.result.now _ c.in_ok-found.ensures.cut
    c.as_bytes-bytes.ensures.value c.as_slice.ensures.value c.end_of_last.ensures c.min-end.ensures c.min-start.ensures
