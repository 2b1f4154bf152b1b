use Rattle.sb_grammar.proofs.StatementWords.{begun_block, statement_end, transaction_begin, procedure_create}
use Rattle.sb_grammar.proofs.facts.fixed_words_of_statements.Goals as goal

pub returns-clause-begun : goal.returns-clause-begun
returns-clause-begun c = begun_block

pub returns-clause-end : goal.returns-clause-end
returns-clause-end c = statement_end

pub returns-clause-transaction : goal.returns-clause-transaction
returns-clause-transaction c = transaction_begin

pub returns-clause-procedures : goal.returns-clause-procedures
returns-clause-procedures c = procedure_create
