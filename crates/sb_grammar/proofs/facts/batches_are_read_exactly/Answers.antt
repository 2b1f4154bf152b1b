use Rattle.sb_grammar.proofs.BatchLaws.{batch_is_grammar}
use Rattle.sb_grammar.proofs.facts.batches_are_read_exactly.Goals as goal

pub returns : goal.returns
returns c = batch_is_grammar
