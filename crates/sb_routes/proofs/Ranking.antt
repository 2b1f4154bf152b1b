-- The best of one pass is the first with the best rank.
use Rattle.std.proofs.Common.{◌≡◌, ℕ, ◌<◌, Bool, true, false, cond, List, [], ◌∷◌, refl, ap, ◌∙◌, arith}
use Rattle.std.specs.Prelude.{Option, Some, nat_lt, ◌==◌, max, find, fold}
use Rattle.std.proofs.Math.Nat.{max-eq_left, max-eq_right}
use Rattle.std.proofs.lemmas.Bool.{ltb-true, ltb-false, lt-ltb, le-ltb, eq-eqb, ne_eqb}
use Rattle.sb_model.specs.Matches.{better, best_by}
use Rattle.sb_routes.specs.Best.{best_rank, first_best}

-- x of rank a stands before others, of which f finds the first of a rank, and whose best rank is m
best_with : {A : Type 0} (a m : ℕ) (f : ℕ → Option A) (x : A) → cond (nat_lt a m) (f m) (Some x) ≡ cond (a == max a m) (Some x) (f (max a m))
best_with {A} a m f x = by (nat_lt a m) refl
  where
    by : (t : Bool) → nat_lt a m ≡ t → cond (nat_lt a m) (f m) (Some x) ≡ cond (a == max a m) (Some x) (f (max a m))
    by true e =
        let below : a < m = ltb-true a m e in
        let most : max a m ≡ m = max-eq_right (omega (arith, below)) in
        let other : (a == m) ≡ false = ne_eqb a m (λ same. omega (arith, below, same)) in
        rw (e, most, other) refl
    by false e =
        let most : max a m ≡ a = max-eq_left (ltb-false a m e) in
        rw (e, most, eq-eqb a a refl) refl

-- the same where b of rank c stands before x
best_behind : {A : Type 0} (c a m : ℕ) (f : ℕ → Option A) (b x : A)
    → cond (nat_lt c a) (cond (nat_lt a m) (f m) (Some x)) (cond (nat_lt c m) (f m) (Some b))
    ≡ cond (nat_lt c (max a m)) (cond (a == max a m) (Some x) (f (max a m))) (Some b)
best_behind {A} c a m f b x = by (nat_lt c a) refl (nat_lt c m) refl
  where
    by : (t : Bool) → nat_lt c a ≡ t → (u : Bool) → nat_lt c m ≡ u
        → cond (nat_lt c a) (cond (nat_lt a m) (f m) (Some x)) (cond (nat_lt c m) (f m) (Some b))
        ≡ cond (nat_lt c (max a m)) (cond (a == max a m) (Some x) (f (max a m))) (Some b)
    by true e u d =
        let more : nat_lt c (max a m) ≡ true = lt-ltb c (max a m) (omega (arith, ltb-true c a e)) in
        rw (e, more) (best_with a m f x)
    by false e true d =
        let most : max a m ≡ m = max-eq_right (omega (arith, ltb-false c a e, ltb-true c m d)) in
        let other : (a == m) ≡ false = ne_eqb a m (λ same. omega (arith, ltb-false c a e, ltb-true c m d, same)) in
        rw (e, d, most, d, other) refl
    by false e false d =
        let no_more : nat_lt c (max a m) ≡ false = le-ltb c (max a m) (omega (arith, ltb-false c a e, ltb-false c m d)) in
        rw (e, d, no_more) refl

chosen : {A : Type 0} (s : A → ℕ) (t : Bool) (b x : A) (xs : List A) → fold (better s) (cond t (Some x) (Some b)) xs ≡ cond t (fold (better s) (Some x) xs) (fold (better s) (Some b) xs)
chosen s true b x xs = refl
chosen s false b x xs = refl

-- a pass that begins with b keeps it unless a better one comes
pub better_than : {A : Type 0} (s : A → ℕ) (b : A) (xs : List A) → fold (better s) (Some b) xs ≡ cond (nat_lt (s b) (best_rank s xs)) (first_best s xs) (Some b)
better_than s b [] = rw (le-ltb (s b) 0 (omega arith)) refl
better_than s b (x ∷ xs) =
    chosen s (nat_lt (s b) (s x)) b x xs
    ∙ ap (λ o. cond (nat_lt (s b) (s x)) o (fold (better s) (Some b) xs)) (better_than s x xs)
    ∙ ap (λ o. cond (nat_lt (s b) (s x)) (cond (nat_lt (s x) (best_rank s xs)) (first_best s xs) (Some x)) o) (better_than s b xs)
    ∙ best_behind (s b) (s x) (best_rank s xs) (λ m. find (λ y. s y == m) xs) b x

pub best_is_first : {A : Type 0} (s : A → ℕ) (xs : List A) → best_by s xs ≡ first_best s xs
best_is_first s [] = refl
best_is_first s (x ∷ xs) = better_than s x xs ∙ best_with (s x) (best_rank s xs) (λ m. find (λ y. s y == m) xs) x
