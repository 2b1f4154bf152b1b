-- How long the parts of a transcript are.
use Rattle.std.proofs.Common.{◌≡◌, ℕ, List, [], ◌∷◌, length, ◌+◌, refl, arith}
use Rattle.std.specs.Prelude.{flat_map}
use Rattle.std.proofs.lemmas.List.{length-append}
use Rattle.uuid.proofs.TextLemmas.{by_index_length}
use Rattle.sb_log.specs.Handles.{text_of_handle}
use Rattle.sb_log.specs.declared.identifiers.Handle.{Handle}
use Rattle.sb_show.specs.Values.{byte_text}

pub length-handle : (h : Handle) → length (text_of_handle h) ≡ 36
unfolding text_of_handle
length-handle h = by_index_length 36 _

-- two digits a byte
pub length-digits : (bytes : List ℕ) → length (flat_map byte_text bytes) ≡ length bytes + length bytes
length-digits [] = refl
length-digits (b ∷ bs) = let rest = length-digits bs in omega (arith, rest)

-- the length of what is put together, of an id and of digits
pub ruleset lengths = (length-append, length-handle, length-digits)
