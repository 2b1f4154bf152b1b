use Rattle.sb_endpoint.proofs.Applied.{entry_of}
use Rattle.sb_endpoint.proofs.laws.kept_in_step_with_the_log.Goals as goal

pub returns-clause-entry : goal.returns-clause-entry
returns-clause-entry c = entry_of
