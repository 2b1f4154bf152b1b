-- The ids that a making names.
use Rattle.std.specs.Prelude.{List, [], ◌∷◌}
use Rattle.sb_log.specs.declared.identifiers.Handle.{Handle}
use Rattle.sb_model.specs.Sides.{Making}

abbrev pub ids_made : Making → List Handle
ids_made m = m.side.conversation ∷ m.handle ∷ m.group ∷ []
