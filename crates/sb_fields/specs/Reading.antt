-- Reading fields one after the other, with the place of the first that can't be read.
use Rattle.std.specs.Prelude.{◌≡◌, ℕ, zero, suc, ◌-◌, ◌==◌, nat_le, Bool, if◌then◌else◌, List, [], ◌∷◌, Option, Some, None, Result, Ok, Err, length}
use Rattle.sb_fields.specs.Spelling.{Bytes}
use Rattle.sb_fields.specs.Taking.{Taken, take_number, take_text16, take_bytes32}

-- a value and the bytes after it, or how many bytes are left from the first field that can't be read
abbrev pub Read : Type 0 → Type 0
Read A = Result (A × Bytes) ℕ

abbrev pub Reading : Type 0 → Type 0
Reading A = Bytes → Read A

-- what is read next, unless a field before it couldn't be read
abbrev pub go_on : {A B : Type 0} → Read A → (A → Reading B) → Read B
go_on (Ok got) next = next got.0 got.1
go_on (Err left) next = Err left

unfoldable pub read_then : {A B : Type 0} → Reading A → (A → Reading B) → Reading B
read_then read next bytes = go_on (read bytes) next

infixl 10 ◌>>=◌
abbrev pub ◌>>=◌ : {A B : Type 0} → Reading A → (A → Reading B) → Reading B
read >>= next = read_then read next

-- a value for which nothing is read
unfoldable pub give : {A : Type 0} → A → Reading A
give x bytes = Ok (x, bytes)

-- one field: it stands at the front, or it can't be read
abbrev pub found : {A : Type 0} → Taken A → Bytes → Read A
found None bytes = Err (length bytes)
found (Some taken) bytes = Ok taken

unfoldable pub field : {A : Type 0} → (Bytes → Taken A) → Reading A
field take bytes = found (take bytes) bytes

-- one field whose value passes a test; where it doesn't, the field can't be read
unfoldable pub such_that : {A : Type 0} → (A → Bool) → Reading A → Reading A
such_that test read bytes = go_on (read bytes) (λ x rest. if test x then Ok (x, rest) else Err (length bytes))

abbrev pub number_at : ℕ → Reading ℕ
number_at width = field (take_number width)

unfoldable pub flag_at : Reading Bool
flag_at = do
  byte ← such_that (λ byte. nat_le byte 1) (number_at 1)
  give (byte == 1)

unfoldable pub some_at : {A : Type 0} → Reading A → Reading (Option A)
some_at read = do
  x ← read
  give (Some x)

unfoldable pub optional_at : {A : Type 0} → Reading A → Reading (Option A)
optional_at read = do
  there ← flag_at
  if there then some_at read else give None

-- so many values, one after the other
unfoldable pub list_at : {A : Type 0} → Reading A → ℕ → Reading (List A)
list_at read zero = give []
list_at read (suc count) = do
  x ← read
  xs ← list_at read count
  give (x ∷ xs)

-- the value that all of the bytes are, or the position of the first field that can't be read, or of the first byte left over
abbrev pub ended : {A : Type 0} → ℕ → Read A → Result A ℕ
ended len (Ok got) = if length got.1 == 0 then Ok got.0 else Err (len - length got.1)
ended len (Err left) = Err (len - left)

unfoldable pub whole : {A : Type 0} → Reading A → Bytes → Result A ℕ
whole read bytes = ended (length bytes) (read bytes)
