-- When a text may be a name.
use Rattle.std.proofs.Common.{◌≡◌, ℕ, suc, ◌+◌, ◌≤◌, Bool, true, false, cond, List, [], ◌∷◌, length, refl, ap, sym, ◌∙◌, arith}
use Rattle.std.specs.Prelude.{not, ◌||◌, nat_lt, Some, None, is_none}
use Rattle.std.specs.List.{list_any, position, prefix_len}
use Rattle.std.specs.Option.{option_map}
use Rattle.std.proofs.lemmas.Bool.{lt-ltb, le-ltb, ltb-true, ltb-false, le-leb, and_from}
use Rattle.sb_log.specs.Names.{character_count, is_control, is_name}
use Rattle.sb_log.specs.declared.names.NameRefused.TheVariants.{Length, Control}
use Rattle.sb_model.specs.Sides.{Bytes}

-- an element passes exactly where the first that passes stands within the list
any_within : {A : Type 0} (p : A → Bool) (xs : List A) → nat_lt (prefix_len (λ x. not (p x)) xs) (length xs) ≡ list_any p xs
any_within p [] = refl
any_within p (x ∷ xs) = by (p x) (any_within p xs)
  where
    one_more : (a b : ℕ) (t : Bool) → nat_lt a b ≡ t → nat_lt (1 + a) (suc b) ≡ t
    one_more a b true e = lt-ltb (1 + a) (suc b) (omega (arith, ltb-true a b e))
    one_more a b false e = le-ltb (1 + a) (suc b) (omega (arith, ltb-false a b e))

    by : (t : Bool) → nat_lt (prefix_len (λ y. not (p y)) xs) (length xs) ≡ list_any p xs → nat_lt (cond (not t) (1 + prefix_len (λ y. not (p y)) xs) 0) (suc (length xs)) ≡ (t || list_any p xs)
    by true e = lt-ltb 0 (suc (length xs)) (omega arith)
    by false e = one_more _ _ _ e

none_placed : (t : Bool) (i : ℕ) → is_none (option_map Control (cond t (Some i) None)) ≡ not t
none_placed true i = refl
none_placed false i = refl

-- what has 1 to 128 characters is a name unless there is a control character
pub name_by_controls : (text : Bytes) (n : ℕ) (t : Bool) → n ≡ character_count text → 1 ≤ n → n ≤ 128 → t ≡ list_any is_control text → not t ≡ is_name text
name_by_controls text n t counted some few told =
    ap not (told ∙ sym (any_within is_control text))
    ∙ sym (none_placed (nat_lt (prefix_len (λ x. not (is_control x)) text) (length text)) (prefix_len (λ x. not (is_control x)) text))
    ∙ ap (λ b. is_none (cond b (option_map Control (position is_control text)) (Some (Length (character_count text)))))
    (sym (and_from _ _ (le-leb 1 (character_count text) (omega arith)) (le-leb (character_count text) 128 (omega arith))))
