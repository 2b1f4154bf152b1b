-- The part of a priority's refusals that speaks of names.
use Rattle.std.specs.Prelude.{List, [], ◌∷◌, Option, find}
use Rattle.sb_log.specs.declared.entries.Entry.{Entry}
use Rattle.sb_log.specs.declared.refusals.Refusal.{Refusal}
use Rattle.sb_log.specs.declared.refusals.Refusal.TheVariants as refusal
use Rattle.sb_log.specs.declared.definitions.PriorityDef.{PriorityDef}
use Rattle.sb_model.specs.Sides.{same_name}
use Rattle.sb_model.specs.Catalog.{priorities, find_contract, find_service}
use Rattle.sb_model.specs.Definitions.{first_refusal, taken_if, missing_if_named}

abbrev pub priority_names : List Entry → PriorityDef → Option Refusal
priority_names log d = first_refusal
    (taken_if (find (λ r. same_name r.name d.name) (priorities log)) d.name
    ∷ missing_if_named (find_contract log) refusal.NoContract d.contract
    ∷ missing_if_named (find_service log) refusal.NoService d.local ∷ [])
