use Rattle.std.proofs.Common.{◌≡◌, drop}
use Rattle.std.specs.Prelude.{find, flat_map}
use Rattle.sb_model.specs.Catalog.{message_def, definitions}
use Rattle.sb_model.specs.Sides.{same_name}
use Rattle.sb_scan.proofs.catalog.defined_type.Given as goal

abbrev pub invariant-loop-entry : goal.invariant-loop-entry
invariant-loop-entry l = find (λ def. same_name def.name l.name) (flat_map message_def (definitions (drop l.entry-index l.log))) ≡ find (λ def. same_name def.name l.name) (flat_map message_def (definitions l.log))
