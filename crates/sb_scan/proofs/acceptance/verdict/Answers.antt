use Rattle.std.proofs.Common.{◌∙◌, ap}
use Rattle.sb_model.specs.Messages.{is_closed}
use Rattle.sb_scan.proofs.acceptance.verdict.Goals as goal

pub verdict_by-requires-clause-closed : goal.verdict_by-requires-clause-closed
verdict_by-requires-clause-closed c = c.is_closed.ensures ∙ ap (is_closed c.args.log.now) c.receiver-to.ensures
