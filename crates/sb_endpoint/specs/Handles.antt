-- Which side a handle names.
use Rattle.std.specs.Prelude.{Bool, ◌||◌, if◌then◌else◌, List, [], ◌∷◌, Option, Some, None}
use Rattle.std.specs.Option.{option_or}
use Rattle.sb_log.specs.declared.identifiers.Handle.{Handle}
use Rattle.sb_log.specs.declared.identifiers.SideId.{SideId}
use Rattle.sb_log.specs.declared.entries.NewSide.{NewSide}
use Rattle.sb_model.specs.Sides.{Making, making, same_id, same_side}

-- a side that was made before makes no handle again, and a handle that names a side goes on naming it
abbrev pub side_with : Bool → SideId → Handle → Handle → Option SideId → Option SideId
side_with was_made side own h found = if was_made then found else option_or found (if same_id own h then Some side else None)

-- the side that the handle names behind these makings, in turn
abbrev pub side_after : (SideId → Bool) → List Making → Handle → Option SideId → Option SideId
side_after was_made [] h found = found
side_after was_made (m ∷ ms) h found =
    side_after (λ s. same_side m.side s || was_made s) ms h (side_with (was_made m.side) m.side m.handle h found)

-- the making of a side by a frame, if it makes one
abbrev pub made_new : SideId → Option NewSide → List Making
made_new side None = []
made_new side (Some new) = making side new ∷ []
