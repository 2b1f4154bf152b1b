-- What a name is.
use Rattle.std.specs.Prelude.{ℕ, List, Option, Some, None, Bool, not, ◌&&◌, ◌||◌, ◌==◌, nat_lt, nat_le, if◌then◌else◌, length, filter, is_none}
use Rattle.std.specs.List.{position}
use Rattle.std.specs.Option.{option_map}
use Rattle.sb_log.specs.declared.names.NameRefused.{NameRefused}
use Rattle.sb_log.specs.declared.names.NameRefused.TheVariants.{Length, Control}

-- a byte of a UTF-8 text that begins a character
abbrev pub begins_character : ℕ → Bool
begins_character byte = nat_lt byte 0x80 || nat_le 0xc0 byte

-- how many characters a text has
abbrev pub character_count : List ℕ → ℕ
character_count text = length (filter begins_character text)

-- a control character: below U+0020, or U+007F
abbrev pub is_control : ℕ → Bool
is_control byte = nat_lt byte 0x20 || byte == 0x7f

-- a name has 1 to 128 characters, as an identifier of Transact-SQL
abbrev pub has_name_length : List ℕ → Bool
has_name_length text = nat_le 1 (character_count text) && nat_le (character_count text) 128

-- why a text is no name: its length, else its first control character
abbrev pub name_refusal : List ℕ → Option NameRefused
name_refusal text =
    if has_name_length text then option_map Control (position is_control text) else Some (Length (character_count text))

abbrev pub is_name : List ℕ → Bool
is_name text = is_none (name_refusal text)
