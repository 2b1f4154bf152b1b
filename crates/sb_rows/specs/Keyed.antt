-- Values by table and key.
use Rattle.std.specs.Prelude.{ℕ, ℤ, ◌&&◌, List, Option, refl}
use Rattle.std.specs.Coded.{Coded, code_by, coded×, coded_list, coded_ℕ, coded_ℤ}
use Rattle.std.specs.Map.{lookup}
use Rattle.sb_model.specs.Rows.{same_int}
use Rattle.sb_model.specs.Sides.{Bytes, same_name}
use Rattle.sb_model.specs.Transactions.{Key}

-- values with their keys, and how many more fit without memory
pub record Keyed (V : Type 0) : Type 0 where
  pub entries : List (Key × V)
  pub room : ℕ

-- the first value with this table and key
abbrev pub value_in : {V : Type 0} → List (Key × V) → Bytes → ℤ → Option V
value_in entries t k = lookup (λ own. same_name own.table t && same_int own.key k) entries

-- a key is stored as the pair of its fields
abbrev pub key_code : Coded Key
key_code = code_by (Bytes × ℤ) (coded× (coded_list coded_ℕ) coded_ℤ) (λ k. (k.table, k.key)) (λ p. record { table = p.0; key = p.1 }) (λ _. refl)

abbrev pub keyed_code : {V : Type 0} → Coded V → Coded (Keyed V)
keyed_code {V} code =
    code_by (List (Key × V) × ℕ) (coded× (coded_list (coded× key_code code)) coded_ℕ) (λ t. (t.entries, t.room)) (λ p. record { entries = p.0; room = p.1 }) (λ _. refl)
