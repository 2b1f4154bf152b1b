use Rattle.sb_pick.proofs.Logs.{picks_by_log}
use Rattle.sb_pick.proofs.laws.picks_are_those_of_the_log.Goals as goal

pub returns : goal.returns
returns c = picks_by_log
