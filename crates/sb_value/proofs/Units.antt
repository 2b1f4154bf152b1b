-- Units of UTF-16 from pairs of bytes, one pair after another.
use Rattle.std.proofs.Common.{◌≡◌, ℕ, ◌+◌, ◌*◌, ◌<◌, ◌≤◌, List, [], ◌∷◌, ◌++◌, length, get_or, drop, Option, Some, None, option_map, refl, ap, sym, ◌∙◌, arith}
use Rattle.sb_value.specs.Values.{units}

at_end : (made more : List ℕ) (x : ℕ) → made ++ (x ∷ more) ≡ (made ++ x ∷ []) ++ more
at_end [] more x = refl
at_end (y ∷ made) more x = ap (λ (z : List ℕ). y ∷ z) (at_end made more x)

onward : (u : Option (List ℕ)) (made : List ℕ) (x : ℕ) → option_map (λ m. made ++ m) (option_map (λ m. x ∷ m) u) ≡ option_map (λ m. (made ++ x ∷ []) ++ m) u
onward None made x = refl
onward (Some m) made x = ap (λ (z : List ℕ). Some z) (at_end made m x)

pub units_step : (z made more : List ℕ) (whole : Option (List ℕ)) (a b : ℕ) → 2 ≤ length z → a ≡ get_or z 0 0 → b ≡ get_or z 1 0 → more ≡ made ++ (a + 256 * b) ∷ [] → whole ≡ option_map (λ m. made ++ m) (units z) → whole ≡ option_map (λ m. more ++ m) (units (drop 2 z))
units_step [] made more whole a b some is_a is_b pushed e = absurd (omega arith)
units_step (c ∷ []) made more whole a b some is_a is_b pushed e = absurd (omega arith)
units_step (c ∷ d ∷ z) made more whole a b some is_a is_b pushed e =
    e ∙ onward (units z) made (c + 256 * d)
    ∙ ap (λ (v : ℕ). option_map (λ m. (made ++ (v + 256 * d) ∷ []) ++ m) (units z)) (sym is_a)
    ∙ ap (λ (v : ℕ). option_map (λ m. (made ++ (a + 256 * v) ∷ []) ++ m) (units z)) (sym is_b)
    ∙ ap (λ (y : List ℕ). option_map (λ m. y ++ m) (units z)) (sym pushed)

append_none : (made : List ℕ) → made ++ [] ≡ made
append_none [] = refl
append_none (x ∷ made) = ap (λ (z : List ℕ). x ∷ z) (append_none made)

pub units_all : (z made : List ℕ) (whole : Option (List ℕ)) → length z ≡ 0 → whole ≡ option_map (λ m. made ++ m) (units z) → Some made ≡ whole
units_all [] made whole h e = sym (e ∙ ap (λ (y : List ℕ). Some y) (append_none made))
units_all (x ∷ z) made whole h e = absurd (omega arith)

pub units_odd : (z made : List ℕ) (whole : Option (List ℕ)) → length z < 2 → (length z ≡ 0 → ⊥) → whole ≡ option_map (λ m. made ++ m) (units z) → None ≡ whole
units_odd [] made whole h some e = absurd (some refl)
units_odd (x ∷ []) made whole h some e = sym e
units_odd (x ∷ y ∷ z) made whole h some e = absurd (omega arith)
