use Rattle.sb_script.proofs.Within.{commands_within}
use Rattle.sb_script.proofs.facts.numbers_of_commands_are_within.Goals as goal

pub returns : goal.returns
returns c = commands_within
