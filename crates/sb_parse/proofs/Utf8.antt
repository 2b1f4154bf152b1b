-- A text in UTF-8, by the test that computes.
use Rattle.std.proofs.Common.{◌≡◌, ℕ, List, true, false, Option, Some, None, refl}
use Rattle.std.specs.Prelude.{is_some}
use Rattle.std.specs.Str.{IsUtf8, is_utf8}
use Rattle.std.proofs.lemmas.Bool.{false_from_ne_true}
use Rattle.std.proofs.lemmas.Str.{is_utf8-from_IsUtf8, IsUtf8-from_is_utf8}

pub utf8_true : (bs : List ℕ) → IsUtf8 bs → is_utf8 bs ≡ true
utf8_true bs u = is_utf8-from_IsUtf8 bs u

pub utf8_false : (bs : List ℕ) → (IsUtf8 bs → ⊥) → is_utf8 bs ≡ false
utf8_false bs h = false_from_ne_true (is_utf8 bs) (λ e. h (IsUtf8-from_is_utf8 bs e))

pub some_unit : (o : Option (Unit {0})) → is_some o ≡ true → o ≡ Some tt
some_unit None e = absurd cc
some_unit (Some u) e = refl

pub none_unit : (o : Option (Unit {0})) → is_some o ≡ false → o ≡ None
none_unit None e = refl
none_unit (Some u) e = absurd cc
