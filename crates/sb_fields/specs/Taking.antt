-- What stands at the front of bytes: a value and the bytes after it, or nothing.
use Rattle.std.specs.Prelude.{◌≡◌, ◌<◌, ℕ, Bool, if◌then◌else◌, List, nat_lt, Option, Some, None, length, take, drop, slice_index}
use Rattle.std.specs.Str.{is_utf8}
use Rattle.byteorder.specs.Endian.{big_number}
use Rattle.sb_fields.specs.Spelling.{Bytes}

-- a value and the bytes after it
abbrev pub Taken : Type 0 → Type 0
Taken A = Option (A × Bytes)

-- one taking after the other
infixl 10 ◌>>=◌
abbrev pub ◌>>=◌ : {A B : Type 0} → Taken A → (A × Bytes → Taken B) → Taken B
None >>= next = None
(Some taken) >>= next = next taken

-- so many bytes
abbrev pub take_front : ℕ → Bytes → Taken Bytes
take_front count bytes = if nat_lt (length bytes) count then None else Some (take count bytes, drop count bytes)

-- the number that so many bytes spell, the greatest first
unfoldable pub take_number : ℕ → Bytes → Taken ℕ
take_number width bytes = if nat_lt (length bytes) width then None else Some (big_number width (take width bytes), drop width bytes)

-- as many bytes as the number before them says, which has so many bytes itself
unfoldable pub take_counted : ℕ → Bytes → Taken Bytes
take_counted width bytes = do
  count ← take_number width bytes
  take_front count.0 count.1

-- bytes behind a length of two bytes, where they are UTF-8
unfoldable pub take_text16 : Bytes → Taken Bytes
take_text16 bytes = do
  text ← take_counted 2 bytes
  if is_utf8 text.0 then Some text else None

-- bytes behind a length of four bytes
unfoldable pub take_bytes32 : Bytes → Taken Bytes
take_bytes32 bytes = take_counted 4 bytes

-- what a function returned, seen by view, is what stands at the front
abbrev pub Takes : {X A : Type 0} → (X → A × Bytes) → Option X → Taken A → Type 0
Takes view None taken = taken ≡ None
Takes view (Some x) taken = taken ≡ Some (view x)
