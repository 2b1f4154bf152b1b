-- Bytes are UTF-8 or not.
use Rattle.std.proofs.Common.{◌≡◌, ℕ, Bool, true, false, List, refl}
use Rattle.std.specs.Str.{IsUtf8, is_utf8}
use Rattle.std.proofs.lemmas.Str.{IsUtf8-from_is_utf8, is_utf8-from_IsUtf8}

decided : (b : Bool) → (b ≡ true → ⊥) → b ≡ false
decided true h = absurd (h refl)
decided false h = refl

pub is_utf8-false : (bytes : List ℕ) → ¬ (IsUtf8 bytes) → is_utf8 bytes ≡ false
is_utf8-false bytes h = decided (is_utf8 bytes) (λ e. h (IsUtf8-from_is_utf8 bytes e))

-- what the test says of bytes that are text, and of those that aren't
pub ruleset utf8_tests = (is_utf8-from_IsUtf8, is_utf8-false)
