use Rattle.std.proofs.Common.{◌+◌, ◌*◌}
use Rattle.sb_parse.proofs.priorities.+priority.Given as goal

abbrev pub decreases-priority_another : goal.decreases-priority_another
decreases-priority_another l = 2 * l.left + 1

abbrev pub decreases-priority_more : goal.decreases-priority_more
decreases-priority_more l = 2 * l.left
