-- The digits of the UTF-16LE of characters, one by one.
use Rattle.std.proofs.Common.{◌≡◌, ℕ, ◌+◌, ◌<◌, List, [], ◌∷◌, ◌++◌, length, get_or, drop, refl, ap, sym, ◌∙◌}
use Rattle.std.specs.Prelude.{flat_map}
use Rattle.std.proofs.lemmas.List.{at_drop_more}
use Rattle.std.proofs.lemmas.Grind.{flat_map-append}
use Rattle.sb_model.specs.ErrorBody.{utf16_of}
use Rattle.sb_show.specs.Values.{byte_text}

abbrev pub shown_units : List ℕ → List ℕ
shown_units characters = flat_map byte_text (flat_map utf16_of characters)

pub shown_step : (cs : List ℕ) (n c : ℕ) → (n < length cs) × (c ≡ get_or cs n c) → shown_units (drop n cs) ≡ flat_map byte_text (utf16_of c) ++ shown_units (drop (n + 1) cs)
shown_step cs n c h =
    at_drop_more shown_units cs n c h.0
    ∙ flat_map-append byte_text (utf16_of (get_or cs n c)) (flat_map utf16_of (drop (n + 1) cs))
    ∙ ap (λ x. flat_map byte_text (utf16_of x) ++ shown_units (drop (n + 1) cs)) (sym h.1)

pub append_none : (xs : List ℕ) → xs ++ [] ≡ xs
append_none [] = refl
append_none (x ∷ xs) = ap (λ ys. x ∷ ys) (append_none xs)
