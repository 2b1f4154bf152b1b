-- The best of a list by a rank, and the first of it on ties.
use Rattle.std.specs.Prelude.{ℕ, ◌==◌, List, [], ◌∷◌, Option, find, max}

-- the best rank in the list
abbrev pub best_rank : {A : Type 0} → (A → ℕ) → List A → ℕ
best_rank rank [] = 0
best_rank rank (x ∷ xs) = max (rank x) (best_rank rank xs)

-- the first element with the best rank
abbrev pub first_best : {A : Type 0} → (A → ℕ) → List A → Option A
first_best rank xs = find (λ x. rank x == best_rank rank xs) xs
