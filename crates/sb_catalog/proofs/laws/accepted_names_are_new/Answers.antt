use Rattle.sb_catalog.proofs.Judged.{accepted_is_new}
use Rattle.sb_catalog.proofs.laws.accepted_names_are_new.Goals as goal

pub returns : goal.returns
returns c = accepted_is_new
