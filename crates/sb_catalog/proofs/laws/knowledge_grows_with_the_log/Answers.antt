use Rattle.sb_catalog.proofs.Growth.{nothing_is_known, room_changes_nothing, definition_is_known, setting_is_told, others_change_nothing}
use Rattle.sb_catalog.proofs.laws.knowledge_grows_with_the_log.Goals as goal

pub returns : goal.returns
returns c = record {
  empty = nothing_is_known;
  room = room_changes_nothing;
  defined = definition_is_known;
  told = setting_is_told;
  others = others_change_nothing;
}
