use Rattle.sb_laws.proofs.CountWorlds.{rollbacks_along}
use Rattle.sb_laws.proofs.counts_rollbacks.Goals as goal

pub returns : goal.returns
returns c = rollbacks_along
