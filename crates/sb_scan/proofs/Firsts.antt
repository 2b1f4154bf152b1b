-- The first makings, as a fold and as the definition has them.
use Rattle.std.proofs.Common.{◌≡◌, List, [], ◌∷◌, ◌++◌, Bool, true, false, refl, ap, sym, ◌∙◌, append_assoc}
use Rattle.std.specs.Prelude.{fold, ◌||◌, if◌then◌else◌}
use Rattle.std.specs.List.{list_any}
use Rattle.std.proofs.lemmas.List.Folds.{list_any-append}
use Rattle.sb_log.specs.declared.identifiers.SideId.{SideId}
use Rattle.sb_log.specs.declared.entries.Entry.{Entry}
use Rattle.sb_model.specs.Sides.{Making, same_side, firsts_after, makings, sides}
use Rattle.sb_scan.specs.Firsts.{is_same_side, with_first}

or_last : (a b : Bool) → (a || (b || false)) ≡ (b || a)
or_last true true = refl
or_last true false = refl
or_last false true = refl
or_last false false = refl

append_nil : {A : Type 0} (xs : List A) → xs ++ [] ≡ xs
append_nil [] = refl
append_nil (x ∷ xs) = ap (λ ys. x ∷ ys) (append_nil xs)

-- one more making, where its side was seen or not
kept_by : (b : Bool) (known : List Making) (m : Making) → List Making
kept_by true known m = known
kept_by false known m = known ++ m ∷ []

abbrev SameSeen : List SideId → List Making → Type 0
SameSeen seen known = (m : Making) → list_any (is_same_side m) known ≡ list_any (same_side m.side) seen

seen_more : (seen : List SideId) (known : List Making) (m : Making) → SameSeen seen known → SameSeen (m.side ∷ seen) (known ++ m ∷ [])
seen_more seen known m h n =
    list_any-append (is_same_side n) known (m ∷ []) ∙ or_last (list_any (is_same_side n) known) (same_side n.side m.side)
    ∙ ap (λ b. same_side n.side m.side || b) (h n)

pub fold_firsts : (seen : List SideId) (known ms : List Making) → SameSeen seen known → fold with_first known ms ≡ known ++ firsts_after seen ms
fold_firsts seen known [] h = sym (append_nil known)
fold_firsts seen known (m ∷ ms) h =
    ap (λ b. fold with_first (if b then known else known ++ m ∷ []) ms) (h m)
    ∙ by_test (list_any (same_side m.side) seen) (fold_firsts seen known ms h) (fold_firsts (m.side ∷ seen) (known ++ m ∷ []) ms (seen_more seen known m h))
  where
    by_test : (b : Bool) → fold with_first known ms ≡ known ++ firsts_after seen ms → fold with_first (known ++ m ∷ []) ms ≡ (known ++ m ∷ []) ++ firsts_after (m.side ∷ seen) ms → fold with_first (if b then known else known ++ m ∷ []) ms ≡ known ++ (if b then firsts_after seen ms else m ∷ firsts_after (m.side ∷ seen) ms)
    by_test true old new = old
    by_test false old new = new ∙ append_assoc known (m ∷ []) (firsts_after (m.side ∷ seen) ms)

pub sides_are : (log : List Entry) → fold with_first [] (makings log) ≡ sides log
sides_are log = fold_firsts [] [] (makings log) (λ m. refl)
