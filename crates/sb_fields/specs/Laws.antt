-- What holds of spellings.
use Rattle.std.specs.Prelude.{◌≡◌, ◌++◌}
use Rattle.sb_fields.specs.Spelling.{Bytes}

-- A spelling of one value is no spelling of another, and none begins another one.
abbrev pub OneSpelling : {A : Type 0} → (A → Bytes) → (A → Type 0) → Type 0
OneSpelling {A} spell Fits = (a b : A) (x y : Bytes) → Fits a → Fits b → spell a ++ x ≡ spell b ++ y → (a ≡ b) × (x ≡ y)
