-- The UTF-16LE of escaped characters, one by one.
use Rattle.std.proofs.Common.{◌≡◌, ℕ, ◌+◌, ◌<◌, List, [], ◌∷◌, ◌++◌, length, get_or, drop, refl, ap, sym, ◌∙◌, append_assoc}
use Rattle.std.specs.Prelude.{flat_map}
use Rattle.std.proofs.lemmas.List.{at_drop_more}
use Rattle.std.proofs.lemmas.Grind.{flat_map-append}
use Rattle.sb_model.specs.ErrorBody.{utf16_of, escaped_character}

abbrev pub escaped_units : List ℕ → List ℕ
escaped_units characters = flat_map utf16_of (flat_map escaped_character characters)

pub append_none : (xs : List ℕ) → xs ++ [] ≡ xs
append_none [] = refl
append_none (x ∷ xs) = ap (λ ys. x ∷ ys) (append_none xs)

pub escaped_step : (cs : List ℕ) (n c : ℕ) → (n < length cs) × (c ≡ get_or cs n c) → escaped_units (drop n cs) ≡ flat_map utf16_of (escaped_character c) ++ escaped_units (drop (n + 1) cs)
escaped_step cs n c h =
    at_drop_more escaped_units cs n c h.0
    ∙ flat_map-append utf16_of (escaped_character (get_or cs n c)) (flat_map escaped_character (drop (n + 1) cs))
    ∙ ap (λ x. flat_map utf16_of (escaped_character x) ++ escaped_units (drop (n + 1) cs)) (sym h.1)

-- the next character of a text
pub units_step : (cs : List ℕ) (n c : ℕ) → (n < length cs) × (c ≡ get_or cs n c) → flat_map utf16_of (drop n cs) ≡ utf16_of c ++ flat_map utf16_of (drop (n + 1) cs)
units_step cs n c h =
    at_drop_more (flat_map utf16_of) cs n c h.0 ∙ ap (λ x. utf16_of x ++ flat_map utf16_of (drop (n + 1) cs)) (sym h.1)

-- pieces one after the other
pub five_pieces : (a b c d e : List ℕ) → (((flat_map utf16_of a ++ flat_map utf16_of b) ++ flat_map utf16_of c) ++ flat_map utf16_of d) ++ flat_map utf16_of e ≡ flat_map utf16_of (a ++ (b ++ (c ++ (d ++ e))))
five_pieces a b c d e = simp (append_assoc, flat_map-append)
