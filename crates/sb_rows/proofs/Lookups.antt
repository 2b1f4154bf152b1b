-- Values under the names of tables and under their numbers.
use Rattle.std.proofs.Common.{◌≡◌, ℕ, Bool, true, false, cond, not, ◌&&◌, ◌==◌, if◌then◌else◌, List, [], ◌∷◌, map, filter, position, nat_eq, ℤ, Option, Some, None, is_some, refl, ap, sym, subst, ◌∙◌, arith}
use Rattle.std.specs.Prelude.{IsSome}
use Rattle.std.specs.Bool.{Decides}
use Rattle.std.specs.Cmp.{IsEquivalence, nat_eq_equiv}
use Rattle.std.specs.Cmp.Lexicographic.{bytes_decides}
use Rattle.std.specs.List.{IsDistinct}
use Rattle.std.specs.Map.{lookup, keys_of}
use Rattle.std.specs.Ordering.{int_eq}
use Rattle.std.proofs.lemmas.Bool.Decides.{Decides-eqb, Decides-int_eq, same_from_decides}
use Rattle.std.proofs.lemmas.Cmp.{int_eq_equiv, and_equiv}
use Rattle.std.proofs.lemmas.Int.{ints}
use Rattle.std.proofs.lemmas.Map.Entries.{option_filter, lookup-filter-values}
use Rattle.sb_model.specs.Rows.{same_int}
use Rattle.sb_model.specs.Sides.{Bytes, same_name}
use Rattle.sb_rows.specs.ByNumber.{same_place, named, AreNumbered}
use Rattle.sb_rows.specs.Keyed.{value_in}
use Rattle.sb_rows.specs.Numbers.{with_name, name_at, IsNumber}
use Rattle.sb_rows.specs.RowsAndLocks.{other_holder}
use Rattle.sb_rows.proofs.Numbering.{is_number, named_so, name_at-number, number_is, name_at-with_name, number-with_name}

equal_ints : (a b : ℤ) → same_int a b ≡ true → b ≡ a
equal_ints a b h = grind (arith, ints)

pub same_itself : (a : ℤ) → same_int a a ≡ true
same_itself a = grind (arith, ints)

pub same_int-is : (a b : ℤ) → same_int a b ≡ int_eq b a
same_int-is a b = same_from_decides _ _ by (Decides-int_eq b a)
  where
    by : Decides (same_int a b) (b ≡ a)
    by = ((λ h. equal_ints a b h), (λ h. subst (λ x. same_int a x ≡ true) (sym h) (same_itself a)))

on_first : IsEquivalence (λ (a b : ℕ × ℤ). nat_eq a.0 b.0)
on_first = record {
  refl = λ x. nat_eq_equiv.refl x.0;
  symm = λ x y. nat_eq_equiv.symm x.0 y.0;
  congr = λ x y z. nat_eq_equiv.congr x.0 y.0 z.0;
}

on_second : IsEquivalence (λ (a b : ℕ × ℤ). int_eq a.1 b.1)
on_second = record {
  refl = λ x. int_eq_equiv.refl x.1;
  symm = λ x y. int_eq_equiv.symm x.1 y.1;
  congr = λ x y z. int_eq_equiv.congr x.1 y.1 z.1;
}

pub place_equiv : IsEquivalence same_place
place_equiv = and_equiv on_first on_second

and_first : (a b : Bool) → (a && b) ≡ true → a ≡ true
and_first true b h = refl
and_first false b h = h

module _ {V : Type 0} where
  -- the value at the number that was found, and a key
  abbrev pub numbered_value : Option ℕ → ℤ → List ((ℕ × ℤ) × V) → Option V
  numbered_value None k es = None
  numbered_value (Some n) k es = lookup (same_place (n, k)) es

  abbrev AllNumbered : List Bytes → List ((ℕ × ℤ) × V) → Type 0
  AllNumbered names [] = Unit {0}
  AllNumbered names (e ∷ es) = IsNumber names e.0.0 × AllNumbered names es

  found_later : (b : Bool) (v : V) (o : Option V) → IsSome o → IsSome (cond b (Some v) o)
  found_later true v o h = refl
  found_later false v o h = h

  all_numbered : (names : List Bytes) (es : List ((ℕ × ℤ) × V)) → AreNumbered names es → AllNumbered names es
  all_numbered names [] h = tt
  all_numbered names (e ∷ es) h = (
    h e.0.0 e.0.1 (ap (λ b. is_some (cond b (Some e.1) (lookup (same_place e.0) es))) (place_equiv.refl e.0)),
    all_numbered names es (λ n k found. h n k (found_later (same_place (n, k) e.0) e.1 (lookup (same_place (n, k)) es) found)),
  )

  by_number : (names : List Bytes) (t : Bytes) (k : ℤ) (r : Option ℕ) → ((m : ℕ) → IsNumber names m → same_name (name_at names m) t ≡ is_number r m)
      → (es : List ((ℕ × ℤ) × V)) → AllNumbered names es → value_in (map (named names) es) t k ≡ numbered_value r k es
  by_number names t k None tells [] h = refl
  by_number names t k (Some n) tells [] h = refl
  by_number names t k None tells (e ∷ es) h =
      ap (λ b. cond (b && same_int e.0.1 k) (Some e.1) (value_in (map (named names) es) t k)) (tells e.0.0 h.0)
      ∙ by_number names t k None tells es h.1
  by_number names t k (Some n) tells (e ∷ es) h =
      ap (λ b. cond (b && same_int e.0.1 k) (Some e.1) (value_in (map (named names) es) t k)) (tells e.0.0 h.0)
      ∙ ap (λ b. cond (nat_eq n e.0.0 && b) (Some e.1) (value_in (map (named names) es) t k)) (same_int-is e.0.1 k)
      ∙ ap (cond (same_place (n, k) e.0) (Some e.1)) (by_number names t k (Some n) tells es h.1)

  -- a value is found under its table's name as under its number
  pub value_in-named : (names : List Bytes) (es : List ((ℕ × ℤ) × V)) → AreNumbered names es → (t : Bytes) (k : ℤ) → value_in (map (named names) es) t k ≡ numbered_value (position (same_name t) names) k es
  value_in-named names es h t k = by_number names t k (position (same_name t) names) (named_so names t) es (all_numbered names es h)

  -- the new entries have w at this number and key, and are as the old ones elsewhere
  abbrev pub Changes : ℕ × ℤ → Option V → List ((ℕ × ℤ) × V) → List ((ℕ × ℤ) × V) → Type 0
  Changes place w old new = (q : ℕ × ℤ) → lookup (same_place q) new ≡ cond (same_place place q) w (lookup (same_place q) old)

  pub AreNumbered-changed : (names : List Bytes) (n : ℕ) (key : ℤ) (w : Option V) (old new : List ((ℕ × ℤ) × V)) → IsNumber names n → AreNumbered names old → Changes (n, key) w old new → AreNumbered names new
  AreNumbered-changed names n key w old new number are changes = λ m k found.
      by m k (same_place (n, key) (m, k)) refl (subst IsSome (changes (m, k)) found)
    where
      by : (m : ℕ) (k : ℤ) (b : Bool) → same_place (n, key) (m, k) ≡ b → IsSome (cond b w (lookup (same_place (m, k)) old)) → IsNumber names m
      by m k true e some = subst (IsNumber names) ((Decides-eqb n m).0 (and_first (nat_eq n m) (int_eq key k) e)) number
      by m k false e some = are m k some

  -- a change at a number and key is one at that table and key
  pub value_in-changed : (names : List Bytes) (n : ℕ) (table : Bytes) (key : ℤ) (w : Option V) (old new : List ((ℕ × ℤ) × V)) → position (same_name table) names ≡ Some n
      → AreNumbered names old → AreNumbered names new → Changes (n, key) w old new
      → (t : Bytes) (k : ℤ) → value_in (map (named names) new) t k ≡ (if same_name table t && same_int key k then w else value_in (map (named names) old) t k)
  value_in-changed names n table key w old new at olds news changes t k =
      value_in-named names new news t k
      ∙ by (position (same_name t) names) same
      ∙ ap (λ o. if same_name table t && same_int key k then w else o) (sym (value_in-named names old olds t k))
    where
      same : same_name table t ≡ is_number (position (same_name t) names) n
      same = ap (λ own. same_name own t) (sym (name_at-number names table n at)) ∙ named_so names t n (number_is names table n at)

      by : (r : Option ℕ) → same_name table t ≡ is_number r n → numbered_value r k new ≡ (if same_name table t && same_int key k then w else numbered_value r k old)
      by None h = sym (ap (λ b. if b && same_int key k then w else None) h)
      by (Some m) h =
          changes (m, k)
          ∙ ap (λ b. cond (b && int_eq key k) w (lookup (same_place (m, k)) old)) (nat_eq_equiv.symm n m ∙ sym h)
          ∙ ap (λ b. cond (same_name table t && b) w (lookup (same_place (m, k)) old)) (int_eq_equiv.symm key k ∙ sym (same_int-is key k))

  -- a table without a number has no value
  pub value_in-absent : (names : List Bytes) (table : Bytes) (key : ℤ) (es : List ((ℕ × ℤ) × V)) → position (same_name table) names ≡ None → AreNumbered names es
      → (t : Bytes) (k : ℤ) → value_in (map (named names) es) t k ≡ (if same_name table t && same_int key k then None else value_in (map (named names) es) t k)
  value_in-absent names table key es absent are t k = by (same_name table t) refl (same_int key k)
    where
      by : (b : Bool) → same_name table t ≡ b → (s : Bool) → value_in (map (named names) es) t k ≡ (if b && s then None else value_in (map (named names) es) t k)
      by true e true =
          value_in-named names es are t k
          ∙ ap (λ r. numbered_value r k es) (subst (λ own. position (same_name own) names ≡ None) ((bytes_decides table t).0 e) absent)
      by true e false = refl
      by false e s = refl

  -- entries stay under their names when a name is added
  pub named-with_name : (names : List Bytes) (name : Bytes) (es : List ((ℕ × ℤ) × V)) → AreNumbered names es → map (named (with_name names name)) es ≡ map (named names) es
  named-with_name names name es h = by es (all_numbered names es h)
    where
      by : (es : List ((ℕ × ℤ) × V)) → AllNumbered names es → map (named (with_name names name)) es ≡ map (named names) es
      by [] h = refl
      by (e ∷ es) h = (λ j. (record { table = name_at-with_name names name e.0.0 h.0 j; key = e.0.1 }, e.1) ∷ by es h.1 j)

  pub AreNumbered-with_name : (names : List Bytes) (name : Bytes) (es : List ((ℕ × ℤ) × V)) → AreNumbered names es → AreNumbered (with_name names name) es
  AreNumbered-with_name names name es h = λ n k found. number-with_name names name n (h n k found)

-- what is left of an option that a number is taken out of
module _ (tx : ℕ) (old : List ((ℕ × ℤ) × ℕ)) (distinct : IsDistinct same_place (keys_of old)) (names : List Bytes) (olds : AreNumbered names old) where
  abbrev kept : ℕ → Bool
  kept by = not (by == tx)

  some_before : (o : Option ℕ) → IsSome (option_filter kept o) → IsSome o
  some_before None h = h
  some_before (Some by) h = refl

  filtered : (o : Option ℕ) → option_filter kept o ≡ other_holder tx o
  filtered None = refl
  filtered (Some by) = at (by == tx)
    where
      at : (b : Bool) → cond (not b) (Some by) None ≡ (if b then None else Some by)
      at true = refl
      at false = refl

  pub AreNumbered-filter : AreNumbered names (filter (λ e. kept e.1) old)
  AreNumbered-filter = λ n k found. olds n k (some_before _ (subst IsSome (lookup-filter-values place_equiv kept (n, k) old distinct) found))

  pub value_in-filter : (t : Bytes) (k : ℤ) → value_in (map (named names) (filter (λ e. kept e.1) old)) t k ≡ other_holder tx (value_in (map (named names) old) t k)
  value_in-filter t k =
      value_in-named names (filter (λ e. kept e.1) old) AreNumbered-filter t k
      ∙ by (position (same_name t) names)
      ∙ ap (other_holder tx) (sym (value_in-named names old olds t k))
    where
      by : (r : Option ℕ) → numbered_value r k (filter (λ e. kept e.1) old) ≡ other_holder tx (numbered_value r k old)
      by None = refl
      by (Some n) = lookup-filter-values place_equiv kept (n, k) old distinct ∙ filtered (lookup (same_place (n, k)) old)
