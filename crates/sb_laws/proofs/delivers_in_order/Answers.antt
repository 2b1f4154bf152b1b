use Rattle.sb_laws.proofs.Starts.{delivered_after}
use Rattle.sb_laws.proofs.delivers_in_order.Goals as goal

pub returns : goal.returns
returns c = delivered_after
