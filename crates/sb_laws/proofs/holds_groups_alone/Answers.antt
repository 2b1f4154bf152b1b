use Rattle.sb_laws.proofs.Histories.{alone_along}
use Rattle.sb_laws.proofs.holds_groups_alone.Goals as goal

pub returns : goal.returns
returns c = alone_along
