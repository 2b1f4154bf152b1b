use Rattle.sb_laws.proofs.Histories.{whole_along}
use Rattle.sb_laws.proofs.commits_whole.Goals as goal

pub returns : goal.returns
returns c = whole_along
