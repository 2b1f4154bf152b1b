-- What is so of each element of a list, when it is filtered, mapped and put in order.
use Rattle.std.proofs.Common.{◌≡◌, Bool, true, false, cond, ◌&&◌, List, [], ◌∷◌, map, refl, ap, sym, ◌∙◌}
use Rattle.std.specs.Prelude.{filter}
use Rattle.std.specs.List.{AllByRecursion}
use Rattle.sb_model.specs.Sorting.{in_order, inserted}

pub filter_same : {A : Type 0} (p q : A → Bool) (xs : List A) → ((x : A) → p x ≡ q x) → filter p xs ≡ filter q xs
filter_same p q [] h = refl
filter_same p q (x ∷ xs) h =
    ap (λ t. cond t (x ∷ filter p xs) (filter p xs)) (h x) ∙ ap (λ ys. cond (q x) (x ∷ ys) ys) (filter_same p q xs h)

-- a filter behind a filter is one
pub filter_both : {A : Type 0} (p q : A → Bool) (xs : List A) → filter p (filter q xs) ≡ filter (λ x. q x && p x) xs
filter_both p q [] = refl
filter_both {A} p q (x ∷ xs) = by_test (q x) (filter_both p q xs)
  where
    by_test : (t : Bool) → filter p (filter q xs) ≡ filter (λ a. q a && p a) xs →
        filter p (cond t (x ∷ filter q xs) (filter q xs)) ≡ cond (t && p x) (x ∷ filter (λ a. q a && p a) xs) (filter (λ a. q a && p a) xs)
    by_test true rest = ap (λ ys. cond (p x) (x ∷ ys) ys) rest
    by_test false rest = rest

and_swap : (a b : Bool) → (a && b) ≡ (b && a)
and_swap true true = refl
and_swap true false = refl
and_swap false true = refl
and_swap false false = refl

pub filter_swap : {A : Type 0} (p q : A → Bool) (xs : List A) → filter p (filter q xs) ≡ filter q (filter p xs)
filter_swap p q xs =
    filter_both p q xs ∙ filter_same (λ x. q x && p x) (λ x. p x && q x) xs (λ x. and_swap (q x) (p x)) ∙ sym (filter_both q p xs)

-- two tests that agree where a third holds keep the same of what it holds of
pub filter_where : {A : Type 0} (p q w : A → Bool) (xs : List A) → ((x : A) → w x ≡ true → p x ≡ q x) → filter p (filter w xs) ≡ filter q (filter w xs)
filter_where {A} p q w xs h = filter_both p w xs ∙ filter_same (λ x. w x && p x) (λ x. w x && q x) xs (λ x. at x (w x) refl) ∙ sym (filter_both q w xs)
  where
    at : (x : A) (t : Bool) → w x ≡ t → (t && p x) ≡ (t && q x)
    at x true e = h x e
    at x false e = refl

module _ {A : Type 0} (P : A → Type 0) where
  pub filter_of : (p q : A → Bool) → ((x : A) → P x → p x ≡ q x) → (xs : List A) → AllByRecursion P xs → filter p xs ≡ filter q xs
  filter_of p q same [] h = refl
  filter_of p q same (x ∷ xs) h =
      ap (λ t. cond t (x ∷ filter p xs) (filter p xs)) (same x h.0) ∙ ap (λ ys. cond (q x) (x ∷ ys) ys) (filter_of p q same xs h.1)

  pub map_of : {B : Type 0} (f g : A → B) → ((x : A) → P x → f x ≡ g x) → (xs : List A) → AllByRecursion P xs → map f xs ≡ map g xs
  map_of f g same [] h = refl
  map_of f g same (x ∷ xs) h = ap (λ y. y ∷ map f xs) (same x h.0) ∙ ap (λ ys. g x ∷ ys) (map_of f g same xs h.1)

  pub all_passed : (p : A → Bool) → ((x : A) → p x ≡ true → P x) → (xs : List A) → AllByRecursion P (filter p xs)
  all_passed p so [] = tt
  all_passed p so (x ∷ xs) = by (p x) refl (all_passed p so xs)
    where
      by : (t : Bool) → p x ≡ t → AllByRecursion P (filter p xs) → AllByRecursion P (cond t (x ∷ filter p xs) (filter p xs))
      by true e rest = (so x e, rest)
      by false e rest = rest

  pub all_filtered : (p : A → Bool) (xs : List A) → AllByRecursion P xs → AllByRecursion P (filter p xs)
  all_filtered p [] h = tt
  all_filtered p (x ∷ xs) h = by (p x) (all_filtered p xs h.1)
    where
      by : (t : Bool) → AllByRecursion P (filter p xs) → AllByRecursion P (cond t (x ∷ filter p xs) (filter p xs))
      by true rest = (h.0, rest)
      by false rest = rest

  all_inserted : (before : A → A → Bool) (x : A) (xs : List A) → P x → AllByRecursion P xs → AllByRecursion P (inserted before x xs)
  all_inserted before x [] own h = (own, tt)
  all_inserted before x (y ∷ ys) own h = by (before y x) (all_inserted before x ys own h.1)
    where
      by : (t : Bool) → AllByRecursion P (inserted before x ys) → AllByRecursion P (cond t (y ∷ inserted before x ys) (x ∷ y ∷ ys))
      by true rest = (h.0, rest)
      by false rest = (own, h)

  pub all_in_order : (before : A → A → Bool) (xs : List A) → AllByRecursion P xs → AllByRecursion P (in_order before xs)
  all_in_order before [] h = tt
  all_in_order before (x ∷ xs) h = all_inserted before x (in_order before xs) h.0 (all_in_order before xs h.1)
