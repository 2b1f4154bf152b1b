-- How many of the candidates a RECEIVE gives.
use Rattle.std.specs.Prelude.{ℕ, Bool, List, Option, None, Some, take}
use Rattle.std.specs.Option.{option_eq}
use Rattle.sb_log.specs.declared.identifiers.Handle.{Handle}
use Rattle.sb_model.specs.Sides.{same_id}
use Rattle.sb_instance.specs.Candidates.{Placed}

abbrev pub is_of_group : Handle → Placed → Bool
is_of_group g p = option_eq same_id p.group (Some g)

-- all of a list, or so many from its front
abbrev pub up_to : {A : Type 0} → Option ℕ → List A → List A
up_to None xs = xs
up_to (Some n) xs = take n xs
