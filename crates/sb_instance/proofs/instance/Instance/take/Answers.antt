use Rattle.std.proofs.Common.{sym, subst}
use Rattle.sb_instance.specs.Sending.{IsQuiet}
use Rattle.sb_instance.proofs.Sent.{quiet_takes}
use Rattle.sb_instance.proofs.instance.Instance.take.Goals as goal

pub commit-requires : goal.commit-requires
commit-requires c = subst IsQuiet (sym c.in-Ok.ensures) (quiet_takes c.args.queue.now c.as_slice.result.now)
