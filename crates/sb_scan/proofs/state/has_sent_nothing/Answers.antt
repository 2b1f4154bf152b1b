use Rattle.std.proofs.Common.{◌∙◌, ap}
use Rattle.sb_model.specs.Messages.{sends}
use Rattle.sb_scan.proofs.Looking.{is_past, first_is_past}
use Rattle.sb_scan.proofs.state.has_sent_nothing.Goals as goal

pub returns-in-Ok : goal.returns-in-Ok
returns-in-Ok c = ap is_past c.in-Ok.ensures ∙ first_is_past (sends c.args.log.now c.args.side)

pub returns-in-Err : goal.returns-in-Err
returns-in-Err c = ap is_past c.in-Err.ensures ∙ first_is_past (sends c.args.log.now c.args.side)
