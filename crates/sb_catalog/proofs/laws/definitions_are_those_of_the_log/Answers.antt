use Rattle.sb_catalog.proofs.Known.{type_of_log, contract_of_log, service_of_log, table_of_log, procedure_of_log}
use Rattle.sb_catalog.proofs.laws.definitions_are_those_of_the_log.Goals as goal

pub returns : goal.returns
returns c = record {
  message_types = type_of_log;
  contracts = contract_of_log;
  queues = λ log k h name. h.queues name;
  services = service_of_log;
  procedures = procedure_of_log;
  tables = table_of_log;
}
