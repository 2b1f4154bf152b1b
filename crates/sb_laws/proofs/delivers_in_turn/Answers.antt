use Rattle.sb_laws.proofs.Starts.{in_turn_after}
use Rattle.sb_laws.proofs.delivers_in_turn.Goals as goal

pub returns : goal.returns
returns c = in_turn_after
