use Rattle.sb_grammar.specs.Batches.{procedure}
use Rattle.sb_grammar.proofs.BatchLaws.{procedure_is_grammar}
use Rattle.sb_parse.proofs.WholeAnswers.{read_is, names_is, only_is}
use Rattle.sb_parse.proofs.batch.procedure_of_tokens.Goals as goal

pub returns-clause-spelled : goal.returns-clause-spelled
returns-clause-spelled c = read_is (procedure 64) (procedure_is_grammar 64) c.args.tokens.now c.whole_procedure.result c.whole_procedure.ensures

pub returns-clause-only : goal.returns-clause-only
returns-clause-only c = only_is (procedure 64) (procedure_is_grammar 64) c.args.tokens.now c.whole_procedure.result c.whole_procedure.ensures

pub returns-clause-place : goal.returns-clause-place
returns-clause-place c = names_is (procedure 64) (procedure_is_grammar 64) c.args.tokens.now c.whole_procedure.result c.whole_procedure.ensures
