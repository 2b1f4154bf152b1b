use Rattle.sb_endpoint.proofs.Judged.{group_by_facts, made_by_facts, numbered_by_facts, state_by_facts}
use Rattle.sb_endpoint.proofs.laws.facts_are_those_of_the_log.Goals as goal

pub returns-clause-state : goal.returns-clause-state
returns-clause-state c = state_by_facts

pub returns-clause-group : goal.returns-clause-group
returns-clause-group c = group_by_facts

pub returns-clause-made : goal.returns-clause-made
returns-clause-made c = made_by_facts

pub returns-clause-numbered : goal.returns-clause-numbered
returns-clause-numbered c = numbered_by_facts
