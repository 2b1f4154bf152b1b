use Rattle.sb_catalog.proofs.Judged.{verdict_by_missing}
use Rattle.sb_catalog.proofs.laws.verdicts_are_by_what_is_here.Goals as goal

pub returns : goal.returns
returns c = verdict_by_missing
