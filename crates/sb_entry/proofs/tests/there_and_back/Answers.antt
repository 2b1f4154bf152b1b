use Rattle.sb_entry.proofs.FitsLaws.{entry_fits}
use Rattle.sb_entry.proofs.tests.there_and_back.Goals as goal

pub encode-requires : goal.encode-requires
encode-requires g c = entry_fits c.in_ok-entry.entry c.in_ok-entry.ensures.spelled.0
