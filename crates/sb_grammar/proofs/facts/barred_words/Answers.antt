use Rattle.sb_grammar.proofs.StatementWords.{barred_statement, barred_turn, try_block}
use Rattle.sb_grammar.proofs.facts.barred_words.Goals as goal

pub returns-clause-statement : goal.returns-clause-statement
returns-clause-statement c = barred_statement

pub returns-clause-turn : goal.returns-clause-turn
returns-clause-turn c = barred_turn

pub returns-clause-block : goal.returns-clause-block
returns-clause-block c = try_block
