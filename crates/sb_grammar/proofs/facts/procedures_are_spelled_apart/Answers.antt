use Rattle.sb_grammar.specs.Batches.{procedure}
use Rattle.sb_grammar.proofs.BatchLaws.{procedure_is_grammar}
use Rattle.sb_grammar.proofs.WholeLaws.{spelled_apart}
use Rattle.sb_grammar.proofs.facts.procedures_are_spelled_apart.Goals as goal

pub returns : goal.returns
returns c = λ n. spelled_apart (procedure n) (procedure_is_grammar n)
