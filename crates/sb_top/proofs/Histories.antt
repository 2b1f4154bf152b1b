-- Histories that go on, one part after another.
use Rattle.std.proofs.Common.{◌≡◌, ℕ, ◌+◌, ◌<◌, ◌≤◌, length, length-append, arith, Bool, true, false, List, [], ◌∷◌, ◌++◌, refl, sym, ap, ◌∙◌, subst, append_assoc, append-nil}
use Rattle.std.specs.Prelude.{◌||◌, nat_le, nat_lt, take}
use Rattle.std.proofs.lemmas.Bool.{leb-false, ltb-false, ltb-true}
use Rattle.std.proofs.lemmas.List.{length-take-le, take-append-le, take_at}
use Rattle.sb_log.specs.declared.steps.Step.{Step}
use Rattle.sb_model.specs.Histories.{Legal, after, next}
use Rattle.sb_model.specs.Instance.{Part}
use Rattle.sb_model.specs.Steps.{World}
use Rattle.sb_top.specs.Room.{HasRoomThroughout, is_full}
use Rattle.sb_top.specs.Runs.{GoesOn, IsPlain, IsQuiet, IsStep, world_of}

legal-append : (w : World) (xs ys : List Step) → Legal w xs → Legal (after w xs) ys → Legal w (xs ++ ys)
legal-append w [] ys p q = q
legal-append w (x ∷ xs) ys p q = (p.0, legal-append (next w x) xs ys p.1 q)

pub after-append : (w : World) (xs ys : List Step) → after w (xs ++ ys) ≡ after (after w xs) ys
after-append w [] ys = refl
after-append w (x ∷ xs) ys = after-append (next w x) xs ys

quiet-append : (w : World) (xs ys : List Step) → IsQuiet w xs → IsQuiet (after w xs) ys → IsQuiet w (xs ++ ys)
quiet-append w [] ys p q = q
quiet-append w (x ∷ xs) ys p q = (p.0, p.1, p.2, quiet-append (next w x) xs ys p.3 q)

quiet_one : (p q : Part) (step : Step) → IsStep p step q → IsQuiet (world_of p) (step ∷ [])
quiet_one p q step is = (is.low, ap (λ w. w.b) (sym is.state), subst (λ w. IsPlain w.a) is.state is.plain, tt)

first_false : (b c : Bool) → b || c ≡ false → b ≡ false
first_false true c e = cc
first_false false c e = refl

below_none : (n : ℕ) → n < 0 → ⊥
below_none n inside = omega (arith, inside)

none_full : HasRoomThroughout []
none_full n inside = absurd (below_none n inside)

-- a step came to a history with room
roomy_one : (h : List Step) (step : Step) → is_full h ≡ false → HasRoomThroughout h → HasRoomThroughout (h ++ step ∷ [])
roomy_one h step room before n inside = by_place (nat_lt n (length h)) refl
  where
    by_place : (b : Bool) → nat_lt n (length h) ≡ b → is_full (take n (h ++ step ∷ [])) ≡ false
    by_place true e = ap is_full (take-append-le n h (step ∷ []) (omega (arith, ltb-true n (length h) e))) ∙ before n (ltb-true n (length h) e)
    by_place false e =
        let last : n ≡ length h = omega (arith, ltb-false n (length h) e, length-append h (step ∷ []), inside) in
        ap is_full (ap (λ k. take k (h ++ step ∷ [])) last ∙ take_at h (step ∷ []) (length h) refl) ∙ room

-- nothing happened
pub goes_on_same : (p : Part) (h : List Step) (P : List Step → Type 0) → IsPlain p → P [] → GoesOn p h p h P
goes_on_same p h P plain so = record { more = []; longer_is = sym (append-nil h); roomy = λ before. before; quiet = tt; legal = tt; state = refl; plain = plain; so = so }

-- nothing happened, by equations
pub goes_on_still : (p q : Part) (h i : List Step) (P : List Step → Type 0) → q ≡ p → i ≡ h → IsPlain p → P [] → GoesOn p h q i P
goes_on_still p q h i P same still plain so =
    record { more = []; longer_is = still ∙ sym (append-nil h); roomy = λ before. subst HasRoomThroughout (sym still) before; quiet = tt; legal = tt; state = ap world_of same; plain = subst IsPlain (sym same) plain; so = so }

-- one step
pub goes_on_one : (p q : Part) (h longer : List Step) (step : Step) (P : List Step → Type 0) → IsStep p step q → longer ≡ h ++ step ∷ [] → is_full h ≡ false → P (step ∷ []) → GoesOn p h q longer P
goes_on_one p q h longer step P is longer_is room so =
    record { more = step ∷ []; longer_is = longer_is; roomy = λ before. subst HasRoomThroughout (sym longer_is) (roomy_one h step room before); quiet = quiet_one p q step is; legal = (is.gives, tt); state = is.state; plain = is.plain; so = so }

-- one part and then another
pub goes_on_both : (a b c : Part) (h i j : List Step) (P Q R : List Step → Type 0) → GoesOn a h b i P → GoesOn b i c j Q
    → ((xs ys : List Step) → world_of c ≡ after (world_of b) ys → P xs → Q ys → R (xs ++ ys)) → GoesOn a h c j R
goes_on_both a b c h i j P Q R p q join =
    record {
      more = p.more ++ q.more;
      longer_is = q.longer_is ∙ ap (λ x. x ++ q.more) p.longer_is ∙ append_assoc h p.more q.more;
      roomy = λ before. q.roomy (p.roomy before);
      legal = legal-append (world_of a) p.more q.more p.legal (subst (λ w. Legal w q.more) p.state q.legal);
      quiet = quiet-append (world_of a) p.more q.more p.quiet (subst (λ w. IsQuiet w q.more) p.state q.quiet);
      state = q.state ∙ ap (λ w. after w q.more) p.state ∙ sym (after-append (world_of a) p.more q.more);
      plain = q.plain;
      so = join p.more q.more q.state p.so q.so;
    }

-- the steps are so in another way
pub goes_on_so : (a b : Part) (h i : List Step) (P Q : List Step → Type 0) → GoesOn a h b i P → ((xs : List Step) → P xs → Q xs) → GoesOn a h b i Q
goes_on_so a b h i P Q p turn = record { more = p.more; longer_is = p.longer_is; roomy = p.roomy; quiet = p.quiet; legal = p.legal; state = p.state; plain = p.plain; so = turn p.more p.so }

-- just these steps are so in another way
pub goes_on_at : (a b : Part) (h i : List Step) (P Q : List Step → Type 0) (p : GoesOn a h b i P) → Q p.more → GoesOn a h b i Q
goes_on_at a b h i P Q p so = record { more = p.more; longer_is = p.longer_is; roomy = p.roomy; quiet = p.quiet; legal = p.legal; state = p.state; plain = p.plain; so = so }

-- all of a history that began empty is so
pub so_all : (a b : Part) (h : List Step) (P : List Step → Type 0) → GoesOn a [] b h P → P h
so_all a b h P p = subst P (sym p.longer_is) p.so

pub legal_all : (a b : Part) (h : List Step) (P : List Step → Type 0) → GoesOn a [] b h P → Legal (world_of a) h
legal_all a b h P p = subst (Legal (world_of a)) (sym p.longer_is) p.legal

-- a history that began empty had room throughout
pub roomy_all : (a b : Part) (h : List Step) (P : List Step → Type 0) → GoesOn a [] b h P → HasRoomThroughout h
roomy_all a b h P p = p.roomy none_full

-- so it has at most 200,000 steps
pub few_steps : (h : List Step) → HasRoomThroughout h → length h ≤ 200000
few_steps [] roomy = omega arith
few_steps (s ∷ h) roomy =
    let room = roomy (length h) (omega arith) in
    let short : nat_le 200000 (length (take (length h) (s ∷ h))) ≡ false = first_false _ _ room in
    omega (arith, leb-false _ _ short, length-take-le (length h) (s ∷ h) (omega arith))

pub quiet_all : (a b : Part) (h : List Step) (P : List Step → Type 0) → GoesOn a [] b h P → IsQuiet (world_of a) h
quiet_all a b h P p = subst (IsQuiet (world_of a)) (sym p.longer_is) p.quiet
