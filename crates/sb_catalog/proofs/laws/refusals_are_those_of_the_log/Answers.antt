use Rattle.sb_catalog.proofs.Known.{refusal_of_log}
use Rattle.sb_catalog.proofs.laws.refusals_are_those_of_the_log.Goals as goal

pub returns : goal.returns
returns c = refusal_of_log
