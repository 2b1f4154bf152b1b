-- How handles are spelled.
use Rattle.std.specs.Prelude.{ℕ, List, Option, None, ◌==◌, if◌then◌else◌, length}
use Rattle.std.specs.Option.{option_map}
use Rattle.std.specs.Int.{to_be_bytes, from_be_bytes, w128}
use Rattle.uuid.specs.Text.{hyphenated_text, parsed, lower}
use Rattle.sb_log.specs.declared.identifiers.Handle.{Handle}

-- a handle is spelled as its 16 bytes, the greatest first, in 32 lower-case digits with hyphens (RFC 9562, section 4)
unfoldable pub text_of_handle : Handle → List ℕ
text_of_handle handle = hyphenated_text lower (to_be_bytes w128 handle.0)

-- the handle that a text of 36 characters spells, its letters in either case
abbrev pub handle_of_text : List ℕ → Option Handle
handle_of_text text = option_map (λ bytes. record { 0 = from_be_bytes w128 bytes }) (if length text == 36 then parsed text else None)
