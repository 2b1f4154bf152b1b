use Rattle.sb_grammar.proofs.BarredWords.{xml_empty, retention_off, encryption_off, transport_host, route_option, into_filter, into_statement, into_turn, into_endings}
use Rattle.sb_grammar.proofs.facts.barred_words_of_parts.Goals as goal

pub returns-clause-validation : goal.returns-clause-validation
returns-clause-validation c = xml_empty

pub returns-clause-retention : goal.returns-clause-retention
returns-clause-retention c = retention_off

pub returns-clause-encryption : goal.returns-clause-encryption
returns-clause-encryption c = encryption_off

pub returns-clause-address : goal.returns-clause-address
returns-clause-address c = transport_host

pub returns-clause-route : goal.returns-clause-route
returns-clause-route c = route_option

pub returns-clause-filter_or_into : goal.returns-clause-filter_or_into
returns-clause-filter_or_into c = into_filter

pub returns-clause-statement_or_into : goal.returns-clause-statement_or_into
returns-clause-statement_or_into c = into_statement

pub returns-clause-turn_or_into : goal.returns-clause-turn_or_into
returns-clause-turn_or_into c = into_turn

pub returns-clause-ending_or_into : goal.returns-clause-ending_or_into
returns-clause-ending_or_into c = into_endings
