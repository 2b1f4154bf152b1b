use Rattle.sb_grammar.proofs.FixedWords.{cleanup_error, star_columns, variable_columns, cast_column, n_change, no_count_variable, any_name, any_text, default_number, max_number}
use Rattle.sb_grammar.proofs.facts.fixed_words_of_parts.Goals as goal

pub returns-clause-cleanup : goal.returns-clause-cleanup
returns-clause-cleanup c = cleanup_error

pub returns-clause-all_columns : goal.returns-clause-all_columns
returns-clause-all_columns c = star_columns

pub returns-clause-assignments : goal.returns-clause-assignments
returns-clause-assignments c = variable_columns

pub returns-clause-cast_column : goal.returns-clause-cast_column
returns-clause-cast_column c = cast_column

pub returns-clause-number_change : goal.returns-clause-number_change
returns-clause-number_change c = n_change

pub returns-clause-no_count : goal.returns-clause-no_count
returns-clause-no_count c = no_count_variable

pub returns-clause-any_name : goal.returns-clause-any_name
returns-clause-any_name c = any_name

pub returns-clause-any_text : goal.returns-clause-any_text
returns-clause-any_text c = any_text

pub returns-clause-default_level : goal.returns-clause-default_level
returns-clause-default_level c = default_number

pub returns-clause-max_length : goal.returns-clause-max_length
returns-clause-max_length c = max_number
