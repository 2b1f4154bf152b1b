use Rattle.sb_endpoint.proofs.Answered.{ack_by_facts, data_by_facts}
use Rattle.sb_endpoint.proofs.laws.answers_are_those_of_the_log.Goals as goal

pub returns-clause-data : goal.returns-clause-data
returns-clause-data c = data_by_facts

pub returns-clause-ack : goal.returns-clause-ack
returns-clause-ack c = ack_by_facts
