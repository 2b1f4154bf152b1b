-- A chain of refusals with one more at its end.
use Rattle.std.proofs.Common.{◌≡◌, List, [], ◌∷◌, ◌++◌, refl, ap, ◌∙◌}
use Rattle.std.specs.Prelude.{Option, Some, None}
use Rattle.sb_log.specs.declared.refusals.Refusal.{Refusal}
use Rattle.sb_model.specs.Definitions.{first_refusal}
use Rattle.sb_model.specs.Refusals.{or_else}

alone : (r : Option Refusal) → or_else r None ≡ r
alone None = refl
alone (Some why) = refl

joined : (x y r : Option Refusal) → or_else x (or_else y r) ≡ or_else (or_else x y) r
joined None y r = refl
joined (Some why) y r = refl

pub first-append : (xs : List (Option Refusal)) (r : Option Refusal) → first_refusal (xs ++ r ∷ []) ≡ or_else (first_refusal xs) r
first-append [] r = alone r
first-append (x ∷ xs) r = ap (or_else x) (first-append xs r) ∙ joined x (first_refusal xs) r
