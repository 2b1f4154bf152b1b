-- What all elements of a list have, the best of those that pass a test has.
use Rattle.std.proofs.Common.{◌≡◌, ℕ, ◌≤◌, Bool, true, false, cond, ◌&&◌, List, [], ◌∷◌, length, drop, refl, ap, sym, subst, ◌∙◌}
use Rattle.std.specs.Prelude.{Option, Some, None, nat_lt, filter, fold}
use Rattle.std.specs.List.{list_all}
use Rattle.std.proofs.Math.ListN.{drop_of_length-le}
use Rattle.sb_model.specs.Matches.{better, best_by}
use Rattle.sb_routes.specs.Best.{first_best}
use Rattle.sb_routes.proofs.Ranking.{best_is_first}

pub pass_ends : {A B : Type 0} (h : B → A → B) (b : B) (p : A → Bool) (xs : List A) (i : ℕ) → length xs ≤ i → b ≡ fold h b (filter p (drop i xs))
pass_ends h b p xs i past = ap (λ ys. fold h b (filter p ys)) (sym (drop_of_length-le xs past))

abbrev pub Passes : {A : Type 0} → (A → Bool) → Option A → Type 0
Passes q None = Unit {0}
Passes q (Some x) = q x ≡ true

and_left : (a b : Bool) → (a && b) ≡ true → a ≡ true
and_left true b e = refl
and_left false b e = e

and_right : (a b : Bool) → (a && b) ≡ true → b ≡ true
and_right true b e = e
and_right false b e = absurd (false_true e)
  where
    false_true : false ≡ true → ⊥
    false_true h = cc

chosen : {A : Type 0} (q : A → Bool) (t : Bool) (x b : A) → q x ≡ true → q b ≡ true → Passes q (cond t (Some x) (Some b))
chosen q true x b of_x of_b = of_x
chosen q false x b of_x of_b = of_b

one_better : {A : Type 0} (s : A → ℕ) (q : A → Bool) (o : Option A) (x : A) → Passes q o → q x ≡ true → Passes q (better s o x)
one_better s q None x of_o of_x = of_x
one_better s q (Some b) x of_o of_x = chosen q (nat_lt (s b) (s x)) x b of_x of_o

either_passes : {A : Type 0} (s : A → ℕ) (q : A → Bool) (o : Option A) (x : A) (xs : List A) (t : Bool)
    → Passes q (fold (better s) (better s o x) xs) → Passes q (fold (better s) o xs) → Passes q (fold (better s) o (cond t (x ∷ xs) xs))
either_passes s q o x xs true taken passed = taken
either_passes s q o x xs false taken passed = passed

fold_passes : {A : Type 0} (s : A → ℕ) (p q : A → Bool) (o : Option A) (xs : List A) → Passes q o → list_all q xs ≡ true → Passes q (fold (better s) o (filter p xs))
fold_passes s p q o [] of_o all = of_o
fold_passes s p q o (x ∷ xs) of_o all =
    either_passes s q o x (filter p xs) (p x)
    (fold_passes s p q (better s o x) xs (one_better s q o x of_o (and_left (q x) (list_all q xs) all)) (and_right (q x) (list_all q xs) all))
    (fold_passes s p q o xs of_o (and_right (q x) (list_all q xs) all))

-- what all have, the best of some has
pub best_passes : {A : Type 0} (s : A → ℕ) (p q : A → Bool) (xs : List A) → list_all q xs ≡ true → Passes q (best_by s (filter p xs))
best_passes s p q xs all = fold_passes s p q None xs tt all

-- so has the first best, where it is x
pub first_passes : {A : Type 0} (s : A → ℕ) (p q : A → Bool) (xs : List A) (x : A) → list_all q xs ≡ true → Some x ≡ first_best s (filter p xs) → q x ≡ true
first_passes {A} s p q xs x all is =
    let P : Option A → Type 0 = Passes q in
    subst P (best_is_first s (filter p xs) ∙ sym is) (best_passes s p q xs all)
