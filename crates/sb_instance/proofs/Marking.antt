-- What is left to mark, as a pass over a list goes on.
use Rattle.std.proofs.Common.{◌≡◌, ℕ, ◌+◌, ◌<◌, Bool, ◌||◌, ◌==◌, List, ◌∷◌, ◌++◌, length, get_or, drop, sym, ap, ◌∙◌}
use Rattle.std.specs.List.{list_any}
use Rattle.std.proofs.Math.Bool.{or_assoc}
use Rattle.std.proofs.lemmas.List.{at_drop_more}
use Rattle.std.proofs.lemmas.List.Folds.{list_any-append}

-- the marks after an element, with what is left after it, say what those before it said with what was left
pub marked_more : {A : Type 0} (of_all : List A → List ℕ) (of_one : A → List ℕ) → ((x : A) (xs : List A) → of_all (x ∷ xs) ≡ of_one x ++ of_all xs) →
    (xs : List A) (i : ℕ) (x : A) (n : ℕ) (old new : Bool) → i < length xs → x ≡ get_or xs i x → new ≡ (old || list_any (λ m. m == n) (of_one x)) →
    (new || list_any (λ m. m == n) (of_all (drop (i + 1) xs))) ≡ (old || list_any (λ m. m == n) (of_all (drop i xs)))
marked_more of_all of_one step xs i x n old new h at e =
    ap (λ b. b || list_any (λ m. m == n) (of_all (drop (i + 1) xs))) e
    ∙ or_assoc old (list_any (λ m. m == n) (of_one x)) (list_any (λ m. m == n) (of_all (drop (i + 1) xs)))
    ∙ ap (λ b. old || b) (sym (list_any-append (λ m. m == n) (of_one x) (of_all (drop (i + 1) xs))))
    ∙ ap (λ ms. old || list_any (λ m. m == n) ms) (sym (step x (drop (i + 1) xs)))
    ∙ ap (λ y. old || list_any (λ m. m == n) (of_all (y ∷ drop (i + 1) xs))) at
    ∙ sym (at_drop_more (λ ys. old || list_any (λ m. m == n) (of_all ys)) xs i x h)
