use Rattle.sb_script.proofs.Alone.{none_is_spelled, only_none_is_spelled}
use Rattle.sb_script.proofs.facts.texts_without_tokens_spell_none.Goals as goal

pub returns-clause-spelled : goal.returns-clause-spelled
returns-clause-spelled c = none_is_spelled

pub returns-clause-only : goal.returns-clause-only
returns-clause-only c = only_none_is_spelled
