use Rattle.sb_laws.proofs.Starts.{linked_after}
use Rattle.sb_laws.proofs.stays_linked.Goals as goal

pub returns : goal.returns
returns c = linked_after
