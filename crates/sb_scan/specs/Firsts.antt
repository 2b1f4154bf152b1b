-- The first making of each side, taken up one by one.
use Rattle.std.specs.Prelude.{Bool, if◌then◌else◌, List, [], ◌∷◌, ◌++◌}
use Rattle.std.specs.List.{list_any}
use Rattle.sb_model.specs.Sides.{Making, same_side}

abbrev pub is_same_side : Making → Making → Bool
is_same_side m other = same_side m.side other.side

-- the makings so far, and this one where its side is new
abbrev pub with_first : List Making → Making → List Making
with_first known m = if list_any (is_same_side m) known then known else known ++ m ∷ []
