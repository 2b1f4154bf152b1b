use Rattle.sb_pick.proofs.Places.{defined_is_known, known_stays}
use Rattle.sb_pick.proofs.laws.known_queues_stay_known.Goals as goal

pub returns-clause-known : goal.returns-clause-known
returns-clause-known c = known_stays

pub returns-clause-defined : goal.returns-clause-defined
returns-clause-defined c = defined_is_known
