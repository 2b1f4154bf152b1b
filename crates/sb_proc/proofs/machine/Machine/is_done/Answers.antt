use Rattle.std.proofs.Common.{◌≡◌, Bool, true, false, not, List, [], ◌∷◌, Option, Some, None, refl, ap, ◌∙◌, Bor}
use Rattle.std.specs.Prelude.{IsTrue, is_some}
use Rattle.std.specs.Option.{option_copied}
use Rattle.std.specs.List.{slice_get}
use Rattle.sb_proc.specs.Machines.{Standing}
use Rattle.sb_proc.proofs.machine.Machine.is_done.Goals as goal

-- a list is empty where it has no first element
done_by : {A : Type 0} (xs : List A) (o : Option (Bor A)) (b : Bool) → option_copied o ≡ slice_get xs 0 → is_some o ≡ not b →
    (IsTrue b → xs ≡ []) × (xs ≡ [] → IsTrue b)
done_by [] None true e n = (λ _. refl, λ _. refl)
done_by [] None false e n = absurd cc
done_by [] (Some r) b e n = absurd cc
done_by (x ∷ xs) None b e n = absurd cc
done_by (x ∷ xs) (Some r) true e n = absurd cc
done_by (x ∷ xs) (Some r) false e n = (λ h. absurd cc, λ h. absurd cc)

pub returns : goal.returns
returns c =
    done_by c.args.self.now.rest c.first.result c.is_none.result (c.first.ensures ∙ ap (λ (m : Standing). slice_get m.rest 0) c.self.view_is) c.is_none.ensures
