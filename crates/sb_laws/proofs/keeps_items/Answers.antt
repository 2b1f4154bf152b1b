use Rattle.sb_laws.proofs.Starts.{items_after}
use Rattle.sb_laws.proofs.keeps_items.Goals as goal

pub returns : goal.returns
returns c = items_after
