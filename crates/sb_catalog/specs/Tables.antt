-- Definitions that are found by their names.
use Rattle.std.specs.Prelude.{◌≡◌, ℕ, List, [], ◌∷◌, Option, find, refl}
use Rattle.std.specs.Coded.{Coded, code_by, coded×, coded_list, coded_ℕ}
use Rattle.sb_model.specs.Sides.{Bytes, same_name}

-- definitions in order, and how many more fit without memory
pub record Table (D : Type 0) : Type 0 where
  pub defs : List D
  pub room : ℕ

-- it is stored as the pair of its fields
abbrev pub table_code : {D : Type 0} → Coded D → Coded (Table D)
table_code {D} code =
    code_by (List D × ℕ) (coded× (coded_list code) coded_ℕ) (λ t. (t.defs, t.room)) (λ p. record { defs = p.0; room = p.1 }) (λ _. refl)

-- the first with this name
abbrev pub found : {D : Type 0} → (D → Bytes) → List D → Bytes → Option D
found name defs wanted = find (λ d. same_name (name d) wanted) defs

-- each definition stands under its name
abbrev pub StandByName : {K D : Type 0} → (K → Bytes) → (D → Bytes) → List (K × D) → Type 0
StandByName key name [] = Unit {0}
StandByName key name (e ∷ es) = (key e.0 ≡ name e.1) × StandByName key name es
