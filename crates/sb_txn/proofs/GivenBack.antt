-- Guards that are given back from the last to the first.
use Rattle.std.proofs.Common.{◌≡◌, Bool, true, false, cond, ◌||◌, List, [], ◌∷◌, ◌++◌, refl, sym, ap, ◌∙◌}
use Rattle.std.specs.Prelude.{Some, None, ◌==◌}
use Rattle.std.specs.List.{AllByRecursion, IsDistinct}
use Rattle.std.proofs.lemmas.Cmp.{nat_eq_equiv}
use Rattle.std.proofs.lemmas.List.Elements.{All-from_recursion, recursion_from_All}
use Rattle.std.proofs.lemmas.List.Folds.{list_any-append}
use Rattle.sb_groups.specs.Holds.{Hold, holder_of, SetsHolder}
use Rattle.sb_txn.specs.Guards.{names, same_group, AreHeld, FreesGroups, NameApart}

-- all guards were held before; the rest of them are held yet, and once they are given back too, the groups of all are free
pub record IsGivingBack (all before rest now : List Hold) : Type 0 where
  pub held : AreHeld rest now
  pub apart : NameApart rest
  pub free : (after : List Hold) → FreesGroups rest now after → FreesGroups all before after

module _ {X : Type 0} (P : X → Type 0) where
  last_of : (rest : List X) (x : X) → AllByRecursion P (rest ++ x ∷ []) → P x
  last_of [] x h = h.0
  last_of (y ∷ rest) x h = last_of rest x h.1

  front_of : (rest : List X) (x : X) → AllByRecursion P (rest ++ x ∷ []) → AllByRecursion P rest
  front_of [] x h = tt
  front_of (y ∷ rest) x h = (h.0, front_of rest x h.1)

apart_front : (rest : List Hold) (x : Hold) → NameApart (rest ++ x ∷ []) → NameApart rest
unfolding IsDistinct
apart_front [] x h = tt
apart_front (g ∷ rest) x h = (front_of (λ y. same_group g y ≡ false) rest x h.0, apart_front rest x h.1)

apart_from_last : (rest : List Hold) (x : Hold) → NameApart (rest ++ x ∷ []) → AllByRecursion (λ g. same_group g x ≡ false) rest
unfolding IsDistinct
apart_from_last [] x h = tt
apart_from_last (g ∷ rest) x h = (last_of (λ y. same_group g y ≡ false) rest x h.0, apart_from_last rest x h.1)

module _ (x : Hold) (now after : List Hold) (set : SetsHolder now after x.group None) where
  -- the guards of other groups stay held
  still_held : (rest : List Hold) → AllByRecursion (λ g. same_group g x ≡ false) rest
      → AllByRecursion (λ g. holder_of now g.group ≡ Some g.tx) rest → AllByRecursion (λ g. holder_of after g.group ≡ Some g.tx) rest
  still_held [] other held = tt
  still_held (g ∷ rest) other held = (
    set g.group
        ∙ ap (λ t. cond t None (holder_of now g.group)) (nat_eq_equiv.symm x.group.0 g.group.0 ∙ other.0)
        ∙ held.0,
    still_held rest other.1 held.1,
  )

both : {A : Type 0} (a b : Bool) (none some : A) → cond a none (cond b none some) ≡ cond (a || (b || false)) none some
both true b none some = refl
both false true none some = refl
both false false none some = refl

module _ (all before rest now after : List Hold) (x : Hold) where
  pub last_given_back : IsGivingBack all before (rest ++ x ∷ []) now → SetsHolder now after x.group None → IsGivingBack all before rest after
  last_given_back is set = record {
    held = All-from_recursion _ rest (still_held x now after set rest (apart_from_last rest x is.apart)
        (front_of _ rest x (recursion_from_All _ (rest ++ x ∷ []) is.held)));
    apart = apart_front rest x is.apart;
    free = λ end freed. is.free end (λ group.
        freed group
        ∙ ap (cond (names rest group) None) (set group ∙ ap (λ t. cond t None (holder_of now group)) (nat_eq_equiv.symm x.group.0 group.0))
        ∙ both (names rest group) (group.0 == x.group.0) None (holder_of now group)
        ∙ ap (λ t. cond t None (holder_of now group)) (sym (list_any-append _ rest (x ∷ []))));
  }
