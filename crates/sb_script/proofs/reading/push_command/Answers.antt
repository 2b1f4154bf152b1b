use Rattle.std.proofs.Common.{sym, ap, ◌∙◌}
use Rattle.sb_script.specs.Commands.{command_of}
use Rattle.sb_script.proofs.Goes.{command_goes, command_stops}
use Rattle.sb_script.proofs.reading.push_command.Goals as goal

pub returns-in_ok-push-in-Ok-clause-goes_on : goal.returns-in_ok-push-in-Ok-clause-goes_on
returns-in_ok-push-in-Ok-clause-goes_on c =
    λ ps. command_goes c.args.number c.args.line.now ps c.args.commands.now.items c.push.new.self.items c.in-Ok.command c.in_ok-push-in-Ok.ensures.items (sym c.in-Ok.is ∙ c.in_ok-command.ensures ∙ ap command_of c.trimmed.ensures)

pub returns-in-Err-clause-stops : goal.returns-in-Err-clause-stops
returns-in-Err-clause-stops c =
    λ ps. rw c.refusal.ensures (command_stops c.args.number c.args.line.now ps c.args.commands.now.items c.in-Err.why (sym c.in-Err.is ∙ c.in_ok-command.ensures ∙ ap command_of c.trimmed.ensures))
