use Rattle.std.proofs.Common.{◌∷◌, string_bytes}
use Rattle.sb_script.specs.Script.{batch, command_line}
use Rattle.sb_script.proofs.Goes.{after_goes, after_stops}
use Rattle.sb_script.proofs.reading.Reading.end_by_command.Goals as goal

pub returns-in-Ok-clause-goes_on : goal.returns-in-Ok-clause-goes_on
returns-in-Ok-clause-goes_on c =
    λ ps. after_goes c.push_command.result (batch c.args.self.now.first (string_bytes c.args.self.now.batch) ∷ command_line c.args.self.now.number c.args.line.now ∷ ps) (command_line c.args.self.now.number c.args.line.now ∷ ps) ps c.args.self.now.commands.items c.end_by_go.new.self.commands.items c.push_command.new.commands.items
    (c.in-Ok.ensures.goes_on (command_line c.args.self.now.number c.args.line.now ∷ ps))
    (rw c.as_bytes.ensures.value at (c.push_command.ensures.goes_on ps))

pub returns-in-Ok-clause-stops : goal.returns-in-Ok-clause-stops
returns-in-Ok-clause-stops c =
    λ ps. after_stops c.push_command.result (batch c.args.self.now.first (string_bytes c.args.self.now.batch) ∷ command_line c.args.self.now.number c.args.line.now ∷ ps) (command_line c.args.self.now.number c.args.line.now ∷ ps) c.args.self.now.commands.items c.end_by_go.new.self.commands.items
    (c.in-Ok.ensures.goes_on (command_line c.args.self.now.number c.args.line.now ∷ ps))
    (rw c.as_bytes.ensures.value at (c.push_command.ensures.stops ps))

pub returns-in-Err-clause-stops : goal.returns-in-Err-clause-stops
returns-in-Err-clause-stops c = λ ps. c.in-Err.ensures.stops (command_line c.args.self.now.number c.args.line.now ∷ ps)
