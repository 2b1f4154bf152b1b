-- Values whose tables stand as numbers.
use Rattle.std.specs.Prelude.{ℕ, ℤ, Bool, ◌&&◌, List, IsSome, nat_eq}
use Rattle.std.specs.Map.{lookup}
use Rattle.std.specs.Ordering.{int_eq}
use Rattle.sb_model.specs.Sides.{Bytes}
use Rattle.sb_model.specs.Transactions.{Key}
use Rattle.sb_rows.specs.Numbers.{name_at, IsNumber}

abbrev pub same_place : ℕ × ℤ → ℕ × ℤ → Bool
same_place a b = nat_eq a.0 b.0 && int_eq a.1 b.1

-- the entry with its table's name
abbrev pub named : {V : Type 0} → List Bytes → (ℕ × ℤ) × V → Key × V
named names e = (record { table = name_at names e.0.0; key = e.0.1 }, e.1)

-- each key that has a value stands under the number of a table
abbrev pub AreNumbered : {V : Type 0} → List Bytes → List ((ℕ × ℤ) × V) → Type 0
AreNumbered names es = (n : ℕ) (k : ℤ) → IsSome (lookup (same_place (n, k)) es) → IsNumber names n
