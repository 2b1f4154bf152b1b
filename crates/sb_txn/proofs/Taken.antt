-- What a caller cites: guards name groups apart while it takes groups that nobody held.
use Rattle.std.proofs.Common.{◌≡◌, ℕ, Bool, true, false, List, [], ◌∷◌, ◌++◌, refl, sym, ap, ◌∙◌}
use Rattle.std.specs.Prelude.{Option, Some, None, ◌==◌, find, option_map}
use Rattle.std.specs.List.{AllByRecursion, IsDistinct}
use Rattle.std.proofs.lemmas.Bool.{eqb-true}
use Rattle.std.proofs.lemmas.List.Elements.{recursion_from_All}
use Rattle.std.proofs.lemmas.Option.{none-some}
use Rattle.sb_groups.specs.Holds.{Hold, holder_of}
use Rattle.sb_txn.specs.Guards.{same_group, AreHeld, NameApart}

pub none_apart : NameApart []
unfolding IsDistinct
none_apart = tt

push_recursion : {X : Type 0} (P : X → Type 0) (xs : List X) (x : X) → AllByRecursion P xs → P x → AllByRecursion P (xs ++ x ∷ [])
push_recursion P [] x all here = (here, tt)
push_recursion P (y ∷ ys) x all here = (all.0, push_recursion P ys x all.1 here)

module _ (holds : List Hold) (taken : Hold) (free : holder_of holds taken.group ≡ None) where
  abbrev holder_at : ℕ → Option ℕ
  holder_at n = option_map (λ h. h.tx) (find (λ h. n == h.group.0) holds)

  -- a group that is held isn't one that nobody holds
  other_group : (g : Hold) → holder_of holds g.group ≡ Some g.tx → same_group g taken ≡ false
  other_group g held = by (same_group g taken) refl
    where
      by : (t : Bool) → same_group g taken ≡ t → t ≡ false
      by false is = refl
      by true is = absurd (none-some g.tx (sym free ∙ sym (ap holder_at (eqb-true g.group.0 taken.group.0 is)) ∙ held))

  pushed_apart : (guards : List Hold) → AllByRecursion (λ g. holder_of holds g.group ≡ Some g.tx) guards → NameApart guards → NameApart (guards ++ taken ∷ [])
  unfolding IsDistinct
  pushed_apart [] held apart = (tt, tt)
  pushed_apart (g ∷ gs) held apart = (push_recursion (λ y. same_group g y ≡ false) gs taken apart.0 (other_group g held.0), pushed_apart gs held.1 apart.1)

  pub apart_with_taken : (guards : List Hold) → AreHeld guards holds → NameApart guards → NameApart (guards ++ taken ∷ [])
  apart_with_taken guards held apart = pushed_apart guards (recursion_from_All _ guards held) apart
