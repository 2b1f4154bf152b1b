use Rattle.sb_catalog.proofs.Allowed.{name_by_controls}
use Rattle.sb_catalog.proofs.texts.is_name.Goals as goal

pub returns-then-characters-le128 : goal.returns-then-characters-le128
returns-then-characters-le128 c = name_by_controls c.args.bytes.now _ _ c.count_characters-characters.ensures.characters c.if-characters-le128.true.0 c.if-characters-le128.true.1 c.has_control.ensures
