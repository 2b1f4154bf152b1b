-- The first places at which tests pass, and names at their places.
use Rattle.std.proofs.Common.{◌≡◌, ℕ, ◌+◌, ◌<◌, Bool, true, false, not, ◌||◌, cond, if◌then◌else◌, List, [], ◌∷◌, ◌++◌, length, map, position, nat_eq, nat_lt, Some, None, refl, ap, sym, subst, ◌∙◌, arith, length-append}
use Rattle.std.specs.List.{list_any, position_or_len}
use Rattle.std.specs.Cmp.Lexicographic.{nat_list_eq_equiv}
use Rattle.std.proofs.lemmas.Bool.{ltb-true, lt-ltb}
use Rattle.std.proofs.lemmas.Bool.Decides.{nat_tests}
use Rattle.std.proofs.lemmas.List.{map-append, length-map}
use Rattle.std.proofs.lemmas.List.Folds.{position_or_len_push}
use Rattle.std.proofs.lemmas.Option.{none-some, same_Some}
use Rattle.indexmap.specs.IndexSet.{insert_key}
use Rattle.sb_model.specs.Sides.{Bytes, same_name}
use Rattle.sb_rows.specs.Numbers.{with_name}

module _ {X : Type 0} (p : X → Bool) where
  -- a position is the first place, and within the list
  pub position_is : (xs : List X) (i : ℕ) → position p xs ≡ Some i → (position_or_len p xs ≡ i) × (i < length xs)
  position_is xs i h = by (nat_lt (position_or_len p xs) (length xs)) refl h
    where
      by : (b : Bool) → nat_lt (position_or_len p xs) (length xs) ≡ b → cond b (Some (position_or_len p xs)) None ≡ Some i → (position_or_len p xs ≡ i) × (i < length xs)
      by true e h = let same : position_or_len p xs ≡ i = same_Some _ _ h in (same, subst (λ n. n < length xs) same (ltb-true _ _ e))
      by false e h = absurd (none-some i h)

  pub position_from : (xs : List X) (i : ℕ) → position_or_len p xs ≡ i → i < length xs → position p xs ≡ Some i
  position_from xs i same within =
      ap (λ b. cond b (Some (position_or_len p xs)) None) (lt-ltb (position_or_len p xs) (length xs) (subst (λ n. n < length xs) (sym same) within))
      ∙ ap Some same

  -- one more at the end leaves it
  pub position-push : (xs : List X) (y : X) (i : ℕ) → position p xs ≡ Some i → position p (xs ++ y ∷ []) ≡ Some i
  position-push xs y i h =
      let at = position_is xs i h in
      let apart : nat_eq (position_or_len p xs) (length xs) ≡ false = unequal _ _ (subst (λ n. n < length xs) (sym at.0) at.1) in
      position_from (xs ++ y ∷ []) i
      (position_or_len_push p xs y ∙ ap (λ b. cond b (length xs + cond (p y) 0 1) (position_or_len p xs)) apart ∙ at.0)
      (longer (length xs) (length (xs ++ y ∷ [])) i at.1 (length-append xs (y ∷ [])))
    where
      unequal : (a b : ℕ) → a < b → nat_eq a b ≡ false
      unequal a b h = grind (arith, nat_tests)

      longer : (a b i : ℕ) → i < a → b ≡ a + 1 → i < b
      longer a b i h e = omega arith

  -- where it passes at the one that is added, the first place stays
  pub position_or_len-push : (xs : List X) (y : X) → p y ≡ true → position_or_len p (xs ++ y ∷ []) ≡ position_or_len p xs
  position_or_len-push xs y here = position_or_len_push p xs y ∙ by (position_or_len p xs) (length xs) (p y) here
    where
      by : (a b : ℕ) (t : Bool) → t ≡ true → cond (nat_eq a b) (b + cond t 0 1) a ≡ a
      by a b t e = grind (arith, nat_tests)

  module _ {K : Type 0} (f : K → X) where
    pub position_or_len-map : (ks : List K) → position_or_len p (map f ks) ≡ position_or_len (λ k. p (f k)) ks
    position_or_len-map [] = refl
    position_or_len-map (k ∷ ks) = ap (λ n. cond (not (p (f k))) (1 + n) 0) (position_or_len-map ks)

    pub position-map : (ks : List K) → position p (map f ks) ≡ position (λ k. p (f k)) ks
    position-map ks =
        (λ j. cond (nat_lt (position_or_len-map ks j) (length-map ks f j)) (Some (position_or_len-map ks j)) None)

    pub list_any-map : (ks : List K) → list_any p (map f ks) ≡ list_any (λ k. p (f k)) ks
    list_any-map [] = refl
    list_any-map (k ∷ ks) = ap (λ b. p (f k) || b) (list_any-map ks)

-- the names of the keys after an insertion
pub names-insert : {K : Type 0} (f : K → Bytes) (ks : List K) (k : K) → map f (insert_key (λ a b. same_name (f a) (f b)) ks k) ≡ with_name (map f ks) (f k)
names-insert f ks k =
    by (list_any (λ own. same_name (f k) (f own)) ks)
    ∙ ap (λ b. if b then map f ks else map f ks ++ f k ∷ []) (sym (list_any-map (same_name (f k)) f ks))
  where
    by : (b : Bool) → map f (if b then ks else ks ++ k ∷ []) ≡ (if b then map f ks else map f ks ++ f k ∷ [])
    by true = refl
    by false = map-append f ks (k ∷ [])

module _ (names : List Bytes) (name : Bytes) where
  -- a name that is there or is added has the place at which it was looked for
  pub placed : (i : ℕ) → i ≡ position_or_len (same_name name) names → i < length (with_name names name) → position (same_name name) (with_name names name) ≡ Some i
  placed i is within = position_from (same_name name) (with_name names name) i (stays (list_any (same_name name) names) ∙ sym is) within
    where
      stays : (b : Bool) → position_or_len (same_name name) (if b then names else names ++ name ∷ []) ≡ position_or_len (same_name name) names
      stays true = refl
      stays false = position_or_len-push (same_name name) names name (nat_list_eq_equiv.refl name)
