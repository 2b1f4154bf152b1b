use Rattle.sb_laws.proofs.LowWorlds.{drawn_stay_fresh}
use Rattle.sb_laws.proofs.drawn_handles_stay_fresh.Goals as goal

pub returns : goal.returns
returns c = drawn_stay_fresh
