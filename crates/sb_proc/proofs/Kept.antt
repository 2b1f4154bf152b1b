-- What `retain` keeps, where its closure reads what it captured.
use Rattle.std.proofs.Common.{◌≡◌, Bool, true, false, cond, List, [], ◌∷◌, length, filter, refl, ap, ◌∙◌, subst, arith}
use Rattle.std.specs.List.{items_where_true}
use Rattle.std.specs.List.Retain.{IsFiltered, ReturnsInTurn}

module _ {X F : Type 0} (R : F → X → Bool → F → Type 0) (test : X → Bool) (f : F) (says : (x : X) (b : Bool) (g : F) → R f x b g → (b ≡ test x) × (g ≡ f)) where
  one_more : (b : Bool) (x : X) (bs : List Bool) (xs : List X) → b ≡ test x → items_where_true bs xs ≡ filter test xs →
      items_where_true (b ∷ bs) (x ∷ xs) ≡ filter test (x ∷ xs)
  one_more true x bs xs is rest = ap (λ zs. x ∷ zs) rest ∙ ap (λ t. cond t (x ∷ filter test xs) (filter test xs)) is
  one_more false x bs xs is rest = rest ∙ ap (λ t. cond t (x ∷ filter test xs) (filter test xs)) is

  in_turn : (bs : List Bool) (xs : List X) (q : F) → length bs ≡ length xs → ReturnsInTurn R f bs xs q → items_where_true bs xs ≡ filter test xs
  in_turn [] [] q same t = refl
  in_turn [] (x ∷ xs) q same t = absurd (omega arith)
  in_turn (b ∷ bs) [] q same t = absurd (omega arith)
  in_turn (b ∷ bs) (x ∷ xs) q same t =
      let told = says x b t.0 t.1 in
      one_more b x bs xs told.0 (in_turn bs xs q (omega arith) (subst (λ (g : F). ReturnsInTurn R g bs xs q) told.1 t.2))

  pub kept_by : (xs ys : List X) → IsFiltered R f xs ys → ys ≡ filter test xs
  kept_by xs ys h = h.4 ∙ in_turn h.0 xs h.1 h.2 h.3
