use Rattle.sb_rows.proofs.Shown.{rows-entry}
use Rattle.sb_rows.proofs.laws.rows_are_those_of_the_log.Goals as goal

pub returns-clause-entry : goal.returns-clause-entry
returns-clause-entry c = rows-entry
