-- What a run is, apart from how it is found: all of it is of the class, and what stands behind it isn't.
use Rattle.std.proofs.Common.{◌≡◌, ℕ, suc, ◌+◌, Bool, true, false, cond, List, [], ◌∷◌, take, drop, refl, ap, ◌∙◌, arith}
use Rattle.std.specs.List.{list_all}
use Rattle.sb_lex.specs.declared.piece.Class.{Class}
use Rattle.sb_lex.specs.Lex.{is_in, run}

-- no byte, or one that isn't of the class
abbrev pub Stops : Class → List ℕ → Type 0
Stops c [] = Unit {0}
Stops c (b ∷ z) = is_in c b ≡ false

pub run_more : (c : Class) (b : ℕ) (z : List ℕ) → is_in c b ≡ true → run c (b ∷ z) ≡ suc (run c z)
run_more c b z h = let e : 1 + run c z ≡ suc (run c z) = omega arith in ap (λ (t : Bool). cond t (1 + run c z) 0) h ∙ e

pub run_none : (c : Class) (b : ℕ) (z : List ℕ) → is_in c b ≡ false → run c (b ∷ z) ≡ 0
run_none c b z h = ap (λ (t : Bool). cond t (1 + run c z) 0) h

pub run_all : (c : Class) (z : List ℕ) → list_all (is_in c) (take (run c z) z) ≡ true
run_all c [] = refl
run_all c (b ∷ z) = by_test (is_in c b) refl (run_all c z)
  where
    by_test : (t : Bool) → is_in c b ≡ t → list_all (is_in c) (take (run c z) z) ≡ true → list_all (is_in c) (take (run c (b ∷ z)) (b ∷ z)) ≡ true
    by_test false h rec = ap (λ (n : ℕ). list_all (is_in c) (take n (b ∷ z))) (run_none c b z h)
    by_test true h rec = ap (λ (n : ℕ). list_all (is_in c) (take n (b ∷ z))) (run_more c b z h) ∙ rw (h, rec) refl

pub run_stops : (c : Class) (z : List ℕ) → Stops c (drop (run c z) z)
run_stops c [] = tt
run_stops c (b ∷ z) = by_test (is_in c b) refl (run_stops c z)
  where
    by_test : (t : Bool) → is_in c b ≡ t → Stops c (drop (run c z) z) → Stops c (drop (run c (b ∷ z)) (b ∷ z))
    by_test false h rec = rw (run_none c b z h) h
    by_test true h rec = rw (run_more c b z h) rec
