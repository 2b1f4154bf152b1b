use Rattle.sb_grammar.specs.Batches.{batch}
use Rattle.sb_grammar.proofs.BatchLaws.{batch_is_grammar}
use Rattle.sb_grammar.proofs.WholeLaws.{spelled_apart}
use Rattle.sb_grammar.proofs.facts.batches_are_spelled_apart.Goals as goal

pub returns : goal.returns
returns c = λ n. spelled_apart (batch n) (batch_is_grammar n)
