use Rattle.sb_grammar.proofs.FixedWords.{open_unbracketed, cast_literal, open_item, cast_item, not_null, is_compared, null_literal}
use Rattle.sb_grammar.proofs.facts.fixed_words_of_expressions.Goals as goal

pub returns-clause-bracket : goal.returns-clause-bracket
returns-clause-bracket c = open_unbracketed

pub returns-clause-cast : goal.returns-clause-cast
returns-clause-cast c = cast_literal

pub returns-clause-bracketed_test : goal.returns-clause-bracketed_test
returns-clause-bracketed_test c = open_item

pub returns-clause-cast_in_test : goal.returns-clause-cast_in_test
returns-clause-cast_in_test c = cast_item

pub returns-clause-not_null : goal.returns-clause-not_null
returns-clause-not_null c = not_null

pub returns-clause-null_test : goal.returns-clause-null_test
returns-clause-null_test c = is_compared

pub returns-clause-null : goal.returns-clause-null
returns-clause-null c = null_literal
