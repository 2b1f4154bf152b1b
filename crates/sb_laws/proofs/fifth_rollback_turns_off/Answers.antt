use Rattle.sb_laws.proofs.Fifth.{fifth_along}
use Rattle.sb_laws.proofs.fifth_rollback_turns_off.Goals as goal

pub returns : goal.returns
returns c = fifth_along
