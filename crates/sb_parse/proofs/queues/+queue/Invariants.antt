use Rattle.std.proofs.Common.{◌+◌, ◌*◌}
use Rattle.sb_parse.proofs.queues.+queue.Given as goal

abbrev pub decreases-queue_another : goal.decreases-queue_another
decreases-queue_another l = 2 * l.left + 1

abbrev pub decreases-queue_more : goal.decreases-queue_more
decreases-queue_more l = 2 * l.left
