use Rattle.sb_laws.proofs.Starts.{ready_starts}
use Rattle.sb_laws.proofs.ready_logs_start_linked.Goals as goal

pub returns : goal.returns
returns c = ready_starts
