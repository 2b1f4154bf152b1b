use Rattle.sb_proc.proofs.Going.{turn_refused}
use Rattle.sb_proc.proofs.Turning.{of_words}
use Rattle.sb_proc.specs.Steps.{next_words}
use Rattle.sb_proc.proofs.machine.Machine.go_on.Goals as goal

pub returns-in-Err-clause-refused : goal.returns-in-Err-clause-refused
returns-in-Err-clause-refused c = turn_refused c.args.self.now c.computed.new.self c.in-Err.fault c.refused.result c.in-Err.ensures c.refused.ensures

pub returns-in-Err-clause-words : goal.returns-in-Err-clause-words
returns-in-Err-clause-words c = of_words (next_words c.computed.new.self) c.in-Err.fault c.refused.result c.refused.ensures
