use Rattle.sb_parse.proofs.QuoteLaws.{text_stands_for, national_stands_for, quoted_stands_for, bracketed_stands_for}
use Rattle.sb_parse.proofs.facts.quoted_tokens_stand_for.Goals as goal

pub returns-clause-text : goal.returns-clause-text
returns-clause-text c = text_stands_for

pub returns-clause-national : goal.returns-clause-national
returns-clause-national c = national_stands_for

pub returns-clause-name : goal.returns-clause-name
returns-clause-name c = quoted_stands_for

pub returns-clause-bracketed : goal.returns-clause-bracketed
returns-clause-bracketed c = bracketed_stands_for
