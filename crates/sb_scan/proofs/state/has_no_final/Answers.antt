use Rattle.std.proofs.Common.{ap}
use Rattle.sb_model.specs.States.{is_empty}
use Rattle.sb_scan.proofs.state.has_no_final.Goals as goal

pub returns-in-Some : goal.returns-in-Some
returns-in-Some c = ap is_empty c.in-Some.ensures

pub returns-in-None : goal.returns-in-None
returns-in-None c = ap is_empty c.in-None.ensures
