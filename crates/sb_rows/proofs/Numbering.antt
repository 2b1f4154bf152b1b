-- Numbers of names: each name has one, and keeps it when names are added.
use Rattle.std.proofs.Common.{◌≡◌, ℕ, ◌<◌, Bool, true, false, if◌then◌else◌, List, [], ◌∷◌, ◌++◌, length, position, nat_eq, Option, Some, None, ap, sym, subst, ◌∙◌, true≢false, refl}
use Rattle.std.specs.Bool.{Decides}
use Rattle.std.specs.List.{list_any}
use Rattle.std.specs.Cmp.Lexicographic.{bytes_decides, nat_list_eq_equiv}
use Rattle.std.proofs.lemmas.Bool.Decides.{Decides-eqb, same_from_decides}
use Rattle.std.proofs.lemmas.List.{get_or_append_left}
use Rattle.std.proofs.lemmas.List.Quantifiers.{position-Some}
use Rattle.std.proofs.lemmas.Option.{none-some, same_Some}
use Rattle.sb_model.specs.Sides.{Bytes, same_name}
use Rattle.sb_rows.specs.Numbers.{with_name, name_at, IsNumber}
use Rattle.sb_rows.proofs.Places.{position_is, position-push}

-- whether the number that was found is this one
abbrev pub is_number : Option ℕ → ℕ → Bool
is_number None m = false
is_number (Some n) m = nat_eq n m

is_number-Decides : (r : Option ℕ) (m : ℕ) → Decides (is_number r m) (r ≡ Some m)
is_number-Decides None m = ((λ h. absurd (true≢false (sym h))), (λ h. absurd (none-some m h)))
is_number-Decides (Some n) m = ((λ h. ap Some ((Decides-eqb n m).0 h)), (λ h. (Decides-eqb n m).1 (same_Some n m h)))

module _ (names : List Bytes) (t : Bytes) where
  -- the name at a number is this one exactly where the number is that of this name
  pub named_so : (m : ℕ) → IsNumber names m → same_name (name_at names m) t ≡ is_number (position (same_name t) names) m
  named_so m h = same_from_decides _ _ by_name (is_number-Decides (position (same_name t) names) m)
    where
      by_name : Decides (same_name (name_at names m) t) (position (same_name t) names ≡ Some m)
      by_name = (
        (λ s. subst (λ own. position (same_name own) names ≡ Some m) ((bytes_decides (name_at names m) t).0 s) h),
        (λ p. nat_list_eq_equiv.symm (name_at names m) t ∙ (position-Some (same_name t) names m [] p).1),
      )

  -- the name stands at its number
  pub name_at-number : (n : ℕ) → position (same_name t) names ≡ Some n → name_at names n ≡ t
  name_at-number n h = sym ((bytes_decides t (name_at names n)).0 (position-Some (same_name t) names n [] h).1)

  pub number_is : (n : ℕ) → position (same_name t) names ≡ Some n → IsNumber names n
  number_is n h = subst (λ own. position (same_name own) names ≡ Some n) (sym (name_at-number n h)) h

module _ (names : List Bytes) (name : Bytes) (n : ℕ) (h : IsNumber names n) where
  within : n < length names
  within = (position_is (same_name (name_at names n)) names n h).1

  -- a name keeps its number
  pub name_at-with_name : name_at (with_name names name) n ≡ name_at names n
  name_at-with_name = by (list_any (same_name name) names)
    where
      by : (b : Bool) → name_at (if b then names else names ++ name ∷ []) n ≡ name_at names n
      by true = refl
      by false = get_or_append_left names (name ∷ []) [] n within

  pub number-with_name : IsNumber (with_name names name) n
  number-with_name = subst (λ own. position (same_name own) (with_name names name) ≡ Some n) (sym name_at-with_name) (by (list_any (same_name name) names))
    where
      by : (b : Bool) → position (same_name (name_at names n)) (if b then names else names ++ name ∷ []) ≡ Some n
      by true = h
      by false = position-push (same_name (name_at names n)) names name n h
