use Rattle.std.proofs.Common.{◌+◌, ◌*◌}
use Rattle.sb_parse.proofs.dialog.+dialog.Given as goal

abbrev pub decreases-dialog_another : goal.decreases-dialog_another
decreases-dialog_another l = 2 * l.left + 1

abbrev pub decreases-dialog_more : goal.decreases-dialog_more
decreases-dialog_more l = 2 * l.left
