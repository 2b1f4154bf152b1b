-- The numbers of tables: the places of their names.
use Rattle.std.specs.Prelude.{◌≡◌, ℕ, if◌then◌else◌, List, [], ◌∷◌, ◌++◌, Some, position, slice_index_or}
use Rattle.std.specs.List.{list_any}
use Rattle.sb_model.specs.Sides.{Bytes, same_name}

-- the names by their numbers, and how many more fit without memory
pub record Numbered : Type 0 where
  pub names : List Bytes
  pub room : ℕ

-- a new name goes last
abbrev pub with_name : List Bytes → Bytes → List Bytes
with_name names name = if list_any (same_name name) names then names else names ++ name ∷ []

abbrev pub name_at : List Bytes → ℕ → Bytes
name_at names n = slice_index_or names n []

-- it is the number of the name at its place
abbrev pub IsNumber : List Bytes → ℕ → Type 0
IsNumber names n = position (same_name (name_at names n)) names ≡ Some n
