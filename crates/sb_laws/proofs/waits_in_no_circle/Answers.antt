use Rattle.sb_laws.proofs.Histories.{no_circle_along}
use Rattle.sb_laws.proofs.waits_in_no_circle.Goals as goal

pub returns : goal.returns
returns c = no_circle_along
