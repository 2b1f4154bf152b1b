-- What is left of a block, when the opened one is laid before the others.
use Rattle.std.proofs.Common.{◌≡◌, ◌<◌, List, [], ◌∷◌, ◌++◌, length, sym, ap, ◌∙◌, append_assoc, arith, length-append}

module _ {A : Type 0} where
  -- one more is laid
  pub laid_turn : (opened popped others pushed whole : List A) (x : A) → opened ≡ popped ++ x ∷ [] → pushed ≡ x ∷ others → opened ++ others ≡ whole → popped ++ pushed ≡ whole
  laid_turn opened popped others pushed whole x pops pushes so_far =
      let turned : (popped ++ x ∷ []) ++ others ≡ popped ++ (x ∷ others) = simp append_assoc in
      ap (λ xs. popped ++ xs) pushes ∙ sym turned ∙ ap (λ xs. xs ++ others) (sym pops) ∙ so_far

  pub laid_less : (opened popped : List A) (x : A) → opened ≡ popped ++ x ∷ [] → length popped < length opened
  laid_less opened popped x pops = omega (arith, length-append popped (x ∷ []), ap length pops)

  pub laid_end : (opened others whole : List A) → opened ≡ [] → opened ++ others ≡ whole → others ≡ whole
  laid_end opened others whole none so_far = ap (λ xs. xs ++ others) (sym none) ∙ so_far
