use Rattle.sb_entry.proofs.EntryLaws.{entry_read}
use Rattle.sb_entry.proofs.laws.entry_is_read_again.Goals as goal

pub returns : goal.returns
returns c = λ entry rest fits. (entry_read.reads entry fits).again rest
