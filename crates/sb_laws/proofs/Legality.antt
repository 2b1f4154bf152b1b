-- A legal history with one more step.
use Rattle.std.proofs.Common.{◌≡◌, List, [], ◌∷◌, ◌++◌, refl}
use Rattle.sb_log.specs.declared.steps.Step.{Step}
use Rattle.sb_model.specs.Steps.{World}
use Rattle.sb_model.specs.Histories.{Legal, Gives, outcome, next, after}

pub IsLegal-push : (w : World) (h : List Step) (s : Step) → Legal w h → Gives (outcome (after w h) s) s → Legal w (h ++ s ∷ [])
IsLegal-push w [] s legal given = (given, tt)
IsLegal-push w (t ∷ h) s legal given = (legal.0, IsLegal-push (next w t) h s legal.1 given)

pub after-push : (w : World) (h : List Step) (s : Step) → after w (h ++ s ∷ []) ≡ next (after w h) s
after-push w [] s = refl
after-push w (t ∷ h) s = after-push (next w t) h s
