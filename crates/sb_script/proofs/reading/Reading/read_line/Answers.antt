use Rattle.std.proofs.Common.{◌+◌, [], ◌∷◌, ap, ◌∙◌, string_bytes}
use Rattle.sb_script.specs.declared.lines.Line.TheVariants as line
use Rattle.sb_script.specs.Lines.{line_of}
use Rattle.sb_script.specs.Script.{batch, command_line, pieces}
use Rattle.sb_script.specs.Reading.{left}
use Rattle.sb_script.proofs.Goes.{text_goes, go_goes, command_line_goes, stops_as, pieces_behind}
use Rattle.sb_script.proofs.reading.Reading.read_line.Goals as goal

pub returns-in-Text-clause-goes_on : goal.returns-in-Text-clause-goes_on
returns-in-Text-clause-goes_on c =
    λ ls. text_goes c.keep_line.result c.args.self.now c.keep_line.new.self c.args.line.now ls (c.in-Text.ensures ∙ ap line_of c.as_bytes.ensures.value) c.keep_line.ensures.batch c.keep_line.ensures.commands c.keep_line.ensures.first c.keep_line.ensures.number

pub returns-in-Go-clause-goes_on : goal.returns-in-Go-clause-goes_on
returns-in-Go-clause-goes_on c =
    λ ls. go_goes c.end_by_go.result c.args.self.now c.end_by_go.new.self c.args.line.now ls (c.in-Go.ensures ∙ ap line_of c.as_bytes.ensures.value) c.end_by_go.ensures.batch c.end_by_go.ensures.first c.end_by_go.ensures.number (c.end_by_go.ensures.goes_on (left c.end_by_go.new.self ls))

pub returns-in-Go-clause-stops : goal.returns-in-Go-clause-stops
returns-in-Go-clause-stops c =
    λ ls. stops_as c.end_by_go.result (left c.args.self.now (c.args.line.now ∷ ls)) (batch c.args.self.now.first (string_bytes c.args.self.now.batch) ∷ pieces (c.args.self.now.number + 1) [] (c.args.self.now.number + 1) ls) c.args.self.now.commands.items
    (pieces_behind line.Go c.args.self.now.first (string_bytes c.args.self.now.batch) c.args.self.now.number c.args.line.now ls (c.in-Go.ensures ∙ ap line_of c.as_bytes.ensures.value))
    (c.end_by_go.ensures.stops (pieces (c.args.self.now.number + 1) [] (c.args.self.now.number + 1) ls))

pub returns-in-Command-clause-goes_on : goal.returns-in-Command-clause-goes_on
returns-in-Command-clause-goes_on c =
    λ ls. command_line_goes c.end_by_command.result c.args.self.now c.end_by_command.new.self c.args.line.now ls (c.in-Command.ensures ∙ ap line_of c.as_bytes.ensures.value) c.end_by_command.ensures.batch c.end_by_command.ensures.first c.end_by_command.ensures.number (c.end_by_command.ensures.goes_on (left c.end_by_command.new.self ls))

pub returns-in-Command-clause-stops : goal.returns-in-Command-clause-stops
returns-in-Command-clause-stops c =
    λ ls. stops_as c.end_by_command.result (left c.args.self.now (c.args.line.now ∷ ls)) (batch c.args.self.now.first (string_bytes c.args.self.now.batch) ∷ command_line c.args.self.now.number c.args.line.now ∷ pieces (c.args.self.now.number + 1) [] (c.args.self.now.number + 1) ls) c.args.self.now.commands.items
    (pieces_behind line.Command c.args.self.now.first (string_bytes c.args.self.now.batch) c.args.self.now.number c.args.line.now ls (c.in-Command.ensures ∙ ap line_of c.as_bytes.ensures.value))
    (c.end_by_command.ensures.stops (pieces (c.args.self.now.number + 1) [] (c.args.self.now.number + 1) ls))
