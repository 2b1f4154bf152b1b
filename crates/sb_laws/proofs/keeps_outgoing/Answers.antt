use Rattle.sb_laws.proofs.Starts.{outgoing_after}
use Rattle.sb_laws.proofs.keeps_outgoing.Goals as goal

pub returns : goal.returns
returns c = outgoing_after
