use Rattle.sb_entry.proofs.WholeLaws.{one_from}
use Rattle.sb_entry.proofs.EntryLaws.{entry_read}
use Rattle.sb_entry.proofs.laws.entry_has_one_spelling.Goals as goal

pub returns : goal.returns
returns c = one_from entry_read
