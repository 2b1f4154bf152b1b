-- The best match of a name against definitions that may leave it open.
use Rattle.std.specs.Prelude.{nat_lt, if◌then◌else◌, ℕ, Bool, true, List, Option, Some, None, fold}
use Rattle.sb_model.specs.Sides.{Bytes, same_name}

-- a priority's part admits a name: it names none, or this one
abbrev pub admits : Option Bytes → Bytes → Bool
admits None name = true
admits (Some own) name = same_name own name

abbrev pub points : {A : Type 0} → Option A → ℕ → ℕ
points None n = 0
points (Some x) n = n

-- the first of the best
abbrev pub better : {A : Type 0} → (A → ℕ) → Option A → A → Option A
better score None x = Some x
better score (Some best) x = if nat_lt (score best) (score x) then Some x else Some best

abbrev pub best_by : {A : Type 0} → (A → ℕ) → List A → Option A
best_by score xs = fold (better score) None xs
