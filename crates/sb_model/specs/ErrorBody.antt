-- The body of an Error message: the UTF-16LE of an XML text.
use Rattle.std.specs.Prelude.{ℕ, ◌==◌, ◌+◌, ◌-◌, ◌/◌, ◌%◌, if◌then◌else◌, List, [], ◌∷◌, ◌++◌, flat_map, codes, decimal, nat_lt, chars}
use Rattle.sb_model.specs.Sides.{Bytes}

-- a number below 2^16 as two bytes, the low one first
abbrev pub unit_bytes : ℕ → List ℕ
unit_bytes n = (n % 256) ∷ (n / 256) ∷ []

-- the UTF-16LE of one character
abbrev pub utf16_of : ℕ → List ℕ
utf16_of c =
    if nat_lt c 0x10000 then unit_bytes c
    else unit_bytes (0xd800 + (c - 0x10000) / 1024) ++ unit_bytes (0xdc00 + (c - 0x10000) % 1024)

-- the UTF-16LE of a text
abbrev pub utf16 : Bytes → List ℕ
utf16 text = flat_map utf16_of (chars text)

-- a character as XML writes it
abbrev pub escaped_character : ℕ → List ℕ
escaped_character c =
    if c == 38 then codes "&amp;" else (if c == 60 then codes "&lt;" else (if c == 62 then codes "&gt;" else c ∷ []))

-- the characters of the XML text, from those of the code and of the description
abbrev pub error_characters : List ℕ → List ℕ → List ℕ
error_characters code text =
    codes "<Error xmlns=\"http://schemas.microsoft.com/SQL/ServiceBroker/Error\"><Code>" ++ (code ++ (codes "</Code><Description>"
    ++ (flat_map escaped_character text ++ codes "</Description></Error>")))

abbrev pub error_body : ℕ → Bytes → Bytes
error_body code text = flat_map utf16_of (error_characters (decimal code) (chars text))

-- the body of the Error that a passed lifetime brings
abbrev pub lifetime_body : Bytes
lifetime_body = flat_map utf16_of (error_characters (codes "-1") (codes "The lifetime has passed"))
