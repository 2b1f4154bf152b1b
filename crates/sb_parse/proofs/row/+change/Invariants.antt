use Rattle.std.proofs.Common.{◌+◌, ◌*◌}
use Rattle.sb_parse.proofs.row.+change.Given as goal

abbrev pub decreases-change_another : goal.decreases-change_another
decreases-change_another l = 2 * l.left + 1

abbrev pub decreases-change_more : goal.decreases-change_more
decreases-change_more l = 2 * l.left
