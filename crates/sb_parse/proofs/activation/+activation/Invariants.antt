use Rattle.std.proofs.Common.{◌+◌, ◌*◌}
use Rattle.sb_parse.proofs.activation.+activation.Given as goal

abbrev pub decreases-activation_another : goal.decreases-activation_another
decreases-activation_another l = 2 * l.left + 1

abbrev pub decreases-activation_more : goal.decreases-activation_more
decreases-activation_more l = 2 * l.left
