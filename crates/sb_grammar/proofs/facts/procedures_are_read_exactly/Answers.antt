use Rattle.sb_grammar.proofs.BatchLaws.{procedure_is_grammar}
use Rattle.sb_grammar.proofs.facts.procedures_are_read_exactly.Goals as goal

pub returns : goal.returns
returns c = procedure_is_grammar
