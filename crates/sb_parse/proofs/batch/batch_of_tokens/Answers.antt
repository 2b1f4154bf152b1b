use Rattle.sb_grammar.specs.Batches.{batch}
use Rattle.sb_grammar.proofs.BatchLaws.{batch_is_grammar}
use Rattle.sb_parse.proofs.WholeAnswers.{read_is, names_is, only_is}
use Rattle.sb_parse.proofs.batch.batch_of_tokens.Goals as goal

pub returns-clause-spelled : goal.returns-clause-spelled
returns-clause-spelled c = read_is (batch 64) (batch_is_grammar 64) c.args.tokens.now c.whole_batch.result c.whole_batch.ensures

pub returns-clause-only : goal.returns-clause-only
returns-clause-only c = only_is (batch 64) (batch_is_grammar 64) c.args.tokens.now c.whole_batch.result c.whole_batch.ensures

pub returns-clause-place : goal.returns-clause-place
returns-clause-place c = names_is (batch 64) (batch_is_grammar 64) c.args.tokens.now c.whole_batch.result c.whole_batch.ensures
