use Rattle.sb_entry.proofs.Sized.{entry_sized}
use Rattle.sb_entry.proofs.laws.entry_has_its_size.Goals as goal

pub returns : goal.returns
returns c = entry_sized
