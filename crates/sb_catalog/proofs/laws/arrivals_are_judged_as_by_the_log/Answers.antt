use Rattle.sb_catalog.proofs.Arrivals.{here_of_log}
use Rattle.sb_catalog.proofs.laws.arrivals_are_judged_as_by_the_log.Goals as goal

pub returns : goal.returns
returns c = here_of_log
