-- Delivery after each step of a legal and quiet history.
use Rattle.std.proofs.Common.{◌≡◌, ℕ, zero, suc, ◌≤◌, ◌^◌, Bool, true, false, List, [], ◌∷◌, length, take, None, refl, ◌∙◌, subst, append-nil, arith}
use Rattle.std.specs.Prelude.{IsTrue, ◌&&◌}
use Rattle.std.specs.List.{list_all}
use Rattle.std.proofs.lemmas.List.{length-take}
use Rattle.sb_laws.specs.Fresh.{SpellsLow, spells_low}
use Rattle.sb_laws.specs.Ready.{ready_log}
use Rattle.sb_laws.specs.Starts.{StartsLinked}
use Rattle.sb_laws.specs.Worlds.{StaysFresh}
use Rattle.sb_laws.proofs.Histories.{whole_along}
use Rattle.sb_laws.proofs.LowWorlds.{drawn_stay_fresh}
use Rattle.sb_laws.proofs.Starts.{delivered_after, ready_starts, nothing_ready, example_ready}
use Rattle.sb_log.specs.declared.identifiers.SideId.{SideId}
use Rattle.sb_log.specs.declared.identifiers.Who.TheVariants.{A, B}
use Rattle.sb_log.specs.declared.steps.Step.{Step}
use Rattle.sb_model.specs.Histories.{CommitsWhole, Legal, after, at_most, kept, next}
use Rattle.sb_model.specs.Links.{ReceivesInOrder}
use Rattle.sb_model.specs.Sides.{has_side}
use Rattle.sb_model.specs.Steps.{World, part}
use Rattle.sb_model.specs.Survival.{Survives}
use Rattle.sb_top.specs.Following.{first}
use Rattle.sb_top.specs.Laws.{DeliversThroughout}
use Rattle.sb_top.specs.Room.{HasRoomThroughout}
use Rattle.sb_top.specs.Runs.{IsQuiet}
use Rattle.sb_top.proofs.Histories.{few_steps}

legal-take : (w : World) (n : ℕ) (steps : List Step) → Legal w steps → Legal w (take n steps)
legal-take w zero steps h = tt
legal-take w (suc n) [] h = tt
legal-take w (suc n) (s ∷ steps) h = (h.0, legal-take (next w s) n steps h.1)

quiet-take : (w : World) (n : ℕ) (steps : List Step) → IsQuiet w steps → IsQuiet w (take n steps)
quiet-take w zero steps h = tt
quiet-take w (suc n) [] h = tt
quiet-take w (suc n) (s ∷ steps) h = (h.0, h.1, h.2, quiet-take (next w s) n steps h.3)

and_true : (a b : Bool) → IsTrue a → IsTrue b → IsTrue (a && b)
and_true true b p q = q
and_true false b p q = cc

low_of_quiet : (w : World) (steps : List Step) → IsQuiet w steps → SpellsLow (2 ^ 61) steps
low_of_quiet w [] h = refl
low_of_quiet w (s ∷ steps) h = and_true (spells_low (2 ^ 61) s.event) (list_all (λ x. spells_low (2 ^ 61) x.event) steps) h.0 (low_of_quiet (next w s) steps h.3)

b_of_quiet : (w : World) (steps : List Step) → IsQuiet w steps → (after w steps).b ≡ w.b
b_of_quiet w [] h = refl
b_of_quiet w (s ∷ steps) h = b_of_quiet (next w s) steps h.3 ∙ h.1

survives_itself : (w : World) → (x : _) → Survives (at_most w x) (kept w x) (kept w x)
survives_itself w x = record { keeps = ([], append-nil (kept w x)); within = ((part w x).doubt, refl) }

starts_linked : StartsLinked ready_log []
starts_linked = ready_starts ready_log [] example_ready (nothing_ready B)

fresh_of : (steps : List Step) → IsQuiet first steps → length steps ≤ 2 ^ 58 → StaysFresh first steps
fresh_of steps quiet short = drawn_stay_fresh ready_log [] None None steps refl refl short (low_of_quiet first steps quiet)

delivered_now : (steps : List Step) → Legal first steps → IsQuiet first steps → length steps ≤ 2 ^ 58 → (s : SideId) → IsTrue (has_side (kept (after first steps) A) s)
    → ReceivesInOrder (kept (after first steps) A) (kept (after first steps) A) s
delivered_now steps legal quiet short s there =
    let longer : length steps ≤ 2 ^ 60 = omega arith in
    let delivers = delivered_after ready_log [] None None steps starts_linked longer legal (fresh_of steps quiet short) (kept (after first steps) A) (kept (after first steps) B) (survives_itself (after first steps) A) (survives_itself (after first steps) B) in
    delivers A A s there (λ target split. let nowhere : false ≡ true = subst (λ p. IsTrue (has_side p.log s)) (b_of_quiet first steps quiet) split in cc)

pub delivered_throughout : (history : List Step) → Legal first history → IsQuiet first history → HasRoomThroughout history → DeliversThroughout first history
delivered_throughout history legal quiet roomy = λ n s there.
    delivered_now (take n history) (legal-take first n history legal) (quiet-take first n history quiet) (omega (arith, few_steps history roomy, length-take n history)) s there

-- the operations of each transaction stand in one entry
pub commits_whole : (history : List Step) → Legal first history → IsQuiet first history → HasRoomThroughout history → CommitsWhole first history
commits_whole history legal quiet roomy =
    let longer : length history ≤ 2 ^ 60 = omega (arith, few_steps history roomy) in
    whole_along ready_log [] None None history starts_linked longer legal (fresh_of history quiet (omega (arith, few_steps history roomy)))
