use Rattle.sb_routes.proofs.OfLogs.{route_of_log}
use Rattle.sb_routes.proofs.laws.routes_are_those_of_the_log.Goals as goal

pub returns : goal.returns
returns c = route_of_log
