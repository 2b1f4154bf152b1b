use Rattle.sb_routes.proofs.OfLogs.{level_of_log}
use Rattle.sb_routes.proofs.laws.levels_are_those_of_the_log.Goals as goal

pub returns : goal.returns
returns c = level_of_log
