-- The one spelling of numbers, texts and bytes.
use Rattle.std.specs.Prelude.{ℕ, Bool, true, false, if◌then◌else◌, List, [], ◌∷◌, ◌++◌, ◌<◌, ◌^◌, Option, Some, None, length}
use Rattle.std.specs.Str.{IsUtf8}
use Rattle.byteorder.specs.Endian.{big_bytes}

abbrev pub Bytes : Type 0
Bytes = List ℕ

-- a number stands in so many bytes, the greatest first
unfoldable pub number : ℕ → ℕ → Bytes
number width n = big_bytes width n

-- a text stands behind its length, which has two bytes
unfoldable pub text16 : Bytes → Bytes
text16 text = number 2 (length text) ++ text

-- a text that has such a spelling
abbrev pub IsText16 : Bytes → Type 0
IsText16 text = (length text < 2 ^ 16) × IsUtf8 text

-- bytes stand behind their length, which has four bytes
unfoldable pub bytes32 : Bytes → Bytes
bytes32 bytes = number 4 (length bytes) ++ bytes

-- the byte 0 for false, 1 for true
unfoldable pub flag : Bool → Bytes
flag b = number 1 (if b then 1 else 0)

-- whether something is there, and what is there
unfoldable pub optional : {A : Type 0} → (A → Bytes) → Option A → Bytes
optional spell None = flag false
optional spell (Some x) = flag true ++ spell x
