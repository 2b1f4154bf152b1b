use Rattle.std.proofs.Common.{◌+◌, ◌*◌}
use Rattle.sb_parse.proofs.routes.+route.Given as goal

abbrev pub decreases-route_another : goal.decreases-route_another
decreases-route_another l = 2 * l.left + 1

abbrev pub decreases-route_more : goal.decreases-route_more
decreases-route_more l = 2 * l.left
