use Rattle.sb_laws.proofs.Starts.{formed_after}
use Rattle.sb_laws.proofs.stays_well_formed.Goals as goal

pub returns : goal.returns
returns c = formed_after
