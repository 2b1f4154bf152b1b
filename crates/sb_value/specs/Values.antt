-- Values, and how they convert.
use Rattle.std.specs.Prelude.{ℕ, ℤ, pos, negsuc, int_le, ◌+◌, ◌*◌, Bool, true, false, ◌&&◌, if◌then◌else◌, List, [], ◌∷◌, Option, Some, None, option_map, option_and_then, encode_utf8_all}
use Rattle.std.specs.Char.Utf16.{utf16_lossy_chars, has_unpaired_surrogate}
use Rattle.std.specs.Fmt.{signed_decimal}
use Rattle.std.specs.Str.Parse.{signed_digits_value}
use Rattle.sb_log.specs.Handles.{handle_of_text, text_of_handle}
use Rattle.sb_log.specs.declared.identifiers.Handle.{Handle}
use Rattle.sb_log.specs.declared.refusals.ValueKind.{ValueKind}
use Rattle.sb_log.specs.declared.refusals.ValueKind.TheVariants as kind
use Rattle.sb_model.specs.ErrorBody.{utf16}
use Rattle.sb_model.specs.Sides.{Bytes, same_name}
use Rattle.sb_value.specs.declared.value.Value.{Value}
use Rattle.sb_value.specs.declared.value.Value.TheVariants as value

abbrev pub is_null : Value → Bool
is_null value.Null = true
is_null _ = false

-- a BIGINT has 64 bits
abbrev pub is_bigint : ℤ → Bool
is_bigint z = int_le (negsuc 9223372036854775807) z && int_le z (pos 9223372036854775807)

-- pairs of bytes as units of UTF-16, the low byte first
abbrev pub units : Bytes → Option (List ℕ)
units [] = Some []
units (low ∷ []) = None
units (low ∷ high ∷ rest) = option_map (λ more. (low + 256 * high) ∷ more) (units rest)

-- the text that units spell, unless a surrogate among them has no partner
abbrev pub text_of_units : List ℕ → Option Bytes
text_of_units us = if has_unpaired_surrogate us then None else Some (encode_utf8_all (utf16_lossy_chars us))

-- the text of well-formed UTF-16LE
unfoldable pub text_of_utf16 : Bytes → Option Bytes
text_of_utf16 bytes = option_and_then text_of_units (units bytes)

-- the BIGINT whose text this is: no sign but a minus, no zeros in front
unfoldable pub number_of_text : Bytes → Option ℤ
number_of_text text =
    let z = signed_digits_value 10 text in
    if is_bigint z && same_name (signed_decimal z) text then Some z else None

-- a BIGINT, as its use wants it: only a BIGINT is one
abbrev pub as_number : Value → Option ℤ
as_number (value.Number n) = Some n
as_number _ = None

-- a text: also bytes of well-formed UTF-16LE, and an identifier by its spelling
abbrev pub as_text : Value → Option Bytes
as_text (value.Text text) = Some text
as_text (value.Bytes bytes) = text_of_utf16 bytes
as_text (value.Identifier handle) = Some (text_of_handle handle)
as_text _ = None

-- bytes: also a text in UTF-16LE
abbrev pub as_bytes : Value → Option Bytes
as_bytes (value.Bytes bytes) = Some bytes
as_bytes (value.Text text) = Some (utf16 text)
as_bytes _ = None

-- an identifier: also a text that spells one
unfoldable pub as_identifier : Value → Option Handle
as_identifier (value.Identifier handle) = Some handle
as_identifier (value.Text text) = handle_of_text text
as_identifier _ = None

-- a value that isn't NULL, as one of a kind
abbrev pub as_kind : ValueKind → Value → Option Value
as_kind kind.Bigint v = option_map value.Number (as_number v)
as_kind kind.Text v = option_map value.Text (as_text v)
as_kind kind.Bytes v = option_map value.Bytes (as_bytes v)
as_kind kind.Identifier v = option_map value.Identifier (as_identifier v)

-- a value as one of a kind, as it is stored; NULL is of each
abbrev pub converted : ValueKind → Value → Option Value
converted k value.Null = Some value.Null
converted k v = as_kind k v

-- CAST makes a BIGINT of its text too, and a text of a BIGINT
abbrev pub cast : ValueKind → Value → Option Value
cast kind.Text (value.Number n) = Some (value.Text (signed_decimal n))
cast kind.Bigint (value.Text text) = option_map value.Number (number_of_text text)
cast k v = converted k v
