-- How the steps of a batch are those of its machine.
use Rattle.std.proofs.Common.{◌≡◌, ◌<◌, ◌-◌, length, arith, Bool, true, false, List, [], ◌∷◌, ◌++◌, Option, None, Some, Result, Ok, Err, inl, inr, refl, sym, ap, ◌∙◌, subst, append_assoc, append-nil}
use Rattle.std.specs.Prelude.{IsTrue, MatchBool, ◌||◌, ◌⊎◌, if◌then◌else◌}
use Rattle.std.specs.List.{list_any}
use Rattle.sb_instance.specs.Asked.{is_built}
use Rattle.sb_log.specs.declared.refusals.Refusal.{Refusal}
use Rattle.sb_log.specs.declared.refusals.Refusal.TheVariants as refusal
use Rattle.sb_log.specs.declared.requests.Reply.{Reply}
use Rattle.sb_log.specs.declared.requests.Request.{Request}
use Rattle.sb_log.specs.declared.steps.Answer.TheVariants as answer
use Rattle.sb_log.specs.declared.steps.Step.{Step}
use Rattle.sb_model.specs.Sides.{Bytes}
use Rattle.sb_proc.proofs.Blocks.{blocks_can_be_done}
use Rattle.sb_proc.proofs.Chains.{reached_does, end_does_nothing, told_does, denied_ends, failed_ends}
use Rattle.sb_proc.specs.Does.{Deed, Replied, Denied, Failed}
use Rattle.sb_proc.specs.Laws.{is_reply}
use Rattle.sb_model.specs.Steps.{is_of_words}
use Rattle.sb_proc.specs.Machines.{IsOfWords, Standing, Reaches, gives, refused, refusal_of, told}
use Rattle.sb_proc.specs.Scopes.{Scope}
use Rattle.sb_proc.specs.declared.act.Act.TheVariants.{Run, End}
use Rattle.sb_proc.specs.declared.act.MachineFault.{MachineFault}
use Rattle.sb_proc.specs.declared.act.MachineFault.TheVariants.{Refused}
use Rattle.sb_proc.specs.declared.act.MachineFault.TheVariants as fault
use Rattle.sb_show.specs.Events.{request_words}
use Rattle.sb_top.specs.Following.{AreStepsOf, DoesFrom, IsStepOf, asked, first_session, is_built_word, not_yet, refused_words}
use Rattle.sb_top.specs.Room.{IsLonger}
use Rattle.sb_top.specs.Runs.{Begins, LeadsThrough, MadeWith, TurnMade, WasToCome}
use Rattle.sb_top.specs.declared.history.Stopped.{Stopped}
use Rattle.sb_top.specs.declared.history.Stopped.TheVariants as stopped

-- ---- one part of a batch behind another

pub through_none : (m : Standing) → LeadsThrough m [] m
through_none m more t d = d

pub through_both : (a b c : Standing) (xs ys : List Step) → LeadsThrough a xs b → LeadsThrough b ys c → LeadsThrough a (xs ++ ys) c
through_both a b c xs ys first second more t d = subst (λ z. DoesFrom a z t) (sym (append_assoc xs ys more)) (first (ys ++ more) t (second more t d))

-- and the last part
pub through_end : (a b : Standing) (xs ys : List Step) (t : Scope) → LeadsThrough a xs b → DoesFrom b ys t → DoesFrom a (xs ++ ys) t
through_end a b xs ys t lead d = lead ys t d

-- and a part that stopped
pub through_begun : (why : Stopped) (a b : Standing) (xs ys : List Step) → LeadsThrough a xs b
    → Begins why (λ all. (t : Scope) × DoesFrom b all t) ys → Begins why (λ all. (t : Scope) × DoesFrom a all t) (xs ++ ys)
through_begun why a b xs ys lead begun =
    (begun.0, begun.1, (begun.2.0, subst (λ z. DoesFrom a z begun.2.0) (sym (append_assoc xs ys begun.0)) (lead (ys ++ begun.0) begun.2.0 begun.2.1)))

-- ---- what a machine reaches by itself

reached : (m n : Standing) (steps : List Step) (t : Scope) → Reaches m n → DoesFrom n steps t → DoesFrom m steps t
reached m n steps t way d = record { deeds = d.deeds; does = reached_does false m n d.deeds t way d.does; are_steps = d.are_steps }

pub turn_reached : (m n k : Standing) (r : Result Bool Stopped) (steps : List Step) → Reaches m n → TurnMade n k r steps → TurnMade m k r steps
turn_reached m n k (Ok true) steps way lead = λ more t d. reached m n (steps ++ more) t way (lead more t d)
turn_reached m n k (Ok false) steps way d = reached m n steps k.scope way d
turn_reached m n k (Err why) steps way begun = (begun.0, begun.1, (begun.2.0, reached m n (steps ++ begun.0) begun.2.0 way begun.2.1))

-- ---- what a machine gives

pub ended : (m n : Standing) → Reaches m n → gives n ≡ Some End → DoesFrom m [] n.scope
ended m n way e = reached m n [] n.scope way (record { deeds = []; does = end_does_nothing false n e; are_steps = refl })

-- a request was answered
pub replied : (m : Standing) (r : Request) (given : Reply) → gives m ≡ Some (Run r) → IsTrue (is_built r)
    → LeadsThrough m (asked r (answer.Replied given) ∷ []) (told m given)
replied m r given e built more t d = record {
  deeds = Replied r given ∷ d.deeds;
  does = told_does m r given d.deeds t e d.does;
  are_steps = ((built, refl), d.are_steps);
}

-- a request was refused
pub denied : (m : Standing) (r : Request) (why : Refusal) → gives m ≡ Some (Run r) → IsTrue (is_built r)
    → DoesFrom m (asked r (answer.Refused why None) ∷ []) m.scope
denied m r why e built =
    let step = asked r (answer.Refused why None) in
    let is : IsStepOf (Denied r why) step = subst (λ b. MatchBool b (step ≡ step) (step ≡ not_yet first_session (request_words r))) (sym built) refl in
    record { deeds = Denied r why ∷ []; does = denied_ends false m r why e; are_steps = (is, refl) }

-- a request isn't built
pub unbuilt : (m : Standing) (r : Request) → gives m ≡ Some (Run r) → is_built r ≡ false
    → DoesFrom m (not_yet first_session (request_words r) ∷ []) m.scope
unbuilt m r e built =
    let step = not_yet first_session (request_words r) in
    let is : IsStepOf (Denied r refusal.NotYet) step = subst (λ b. MatchBool b (step ≡ asked r (answer.Refused refusal.NotYet None)) (step ≡ step)) (sym built) refl in
    record { deeds = Denied r refusal.NotYet ∷ []; does = denied_ends false m r refusal.NotYet e; are_steps = (is, refl) }

-- a statement was refused before it asked
pub failed : (m n : Standing) (words : Bytes) (r : Refusal) → Reaches m n → refused n ≡ Some (Refused words r)
    → DoesFrom m (refused_words first_session words (if is_built_word words then r else refusal.NotYet) ∷ []) n.scope
failed m n words r way e =
    let found = failed_ends false n words r e in
    let step = refused_words first_session words (if is_built_word words then r else refusal.NotYet) in
    let is : IsStepOf (Failed words found.0) step = ap (λ x. refused_words first_session words (if is_built_word words then x else refusal.NotYet)) found.1 in
    reached m n (step ∷ []) n.scope way (record { deeds = Failed words found.0 ∷ []; does = found.2; are_steps = (is, refl) })

-- ---- every batch can be done

any_false : (b c : Bool) → b || c ≡ false → (b ≡ false) × (c ≡ false)
any_false true c e = absurd cc
any_false false c e = (refl, e)

denied_step : (r : Request) (why : Refusal) → (step : Step) × IsStepOf (Denied r why) step
denied_step r why = by_built (is_built r)
  where
    by_built : (b : Bool) → (step : Step) × MatchBool b (step ≡ asked r (answer.Refused why None)) (step ≡ not_yet first_session (request_words r))
    by_built true = (asked r (answer.Refused why None), refl)
    by_built false = (not_yet first_session (request_words r), refl)

step_of : (d : Deed) → is_reply d ≡ false → (step : Step) × IsStepOf d step
step_of (Replied r given) e = absurd cc
step_of (Denied r why) e = denied_step r why
step_of (Failed words fault) e = (refused_words first_session words (if is_built_word words then refusal_of fault else refusal.NotYet), refl)

steps_of : (deeds : List Deed) → list_any is_reply deeds ≡ false → (steps : List Step) × AreStepsOf deeds steps
steps_of [] e = ([], refl)
steps_of (d ∷ deeds) e =
    let both = any_false (is_reply d) (list_any is_reply deeds) e in
    let step = step_of d both.0 in
    let rest = steps_of deeds both.1 in
    (step.0 ∷ rest.0, (step.1, rest.1))

pub can_go_on : (m : Standing) → (steps : List Step) × (t : Scope) × DoesFrom m steps t
can_go_on m =
    let done = blocks_can_be_done m.place false m.rest m.scope in
    let steps = steps_of done.0 done.3 in
    (steps.0, done.1, record { deeds = done.0; does = done.2; are_steps = steps.1 })

-- ---- turns that stopped

-- for want of memory, before a step
pub turn_none : (m n : Standing) → TurnMade m n (Err stopped.OutOfMemory) []
turn_none m n = let all = can_go_on m in (all.0, tt, (all.1, all.2))

-- for want of memory, behind a step
pub turn_cut : (m n k : Standing) (steps : List Step) → LeadsThrough m steps k → TurnMade m n (Err stopped.OutOfMemory) steps
turn_cut m n k steps lead = let all = can_go_on k in (all.0, tt, (all.1, lead all.0 all.1 all.2))

was_to_come : (why : Stopped) (step : Step) → WasToCome why (step ∷ [])
was_to_come stopped.HistoryFull step = λ e. cc
was_to_come stopped.OutOfMemory step = tt

-- before this step, which was to come
pub turn_stopped : (why : Stopped) (m n : Standing) (step : Step) (t : Scope) → DoesFrom m (step ∷ []) t → TurnMade m n (Err why) []
turn_stopped why m n step t d = (step ∷ [], was_to_come why step, (t, d))

-- ---- what a turn makes of a request

-- nothing of a request that isn't built was made
pub unbuilt_cut : (why : Stopped) (m n : Standing) (r : Request) (steps : List Step) → gives m ≡ Some (Run r) → is_built r ≡ false → steps ≡ [] → TurnMade m n (Err why) steps
unbuilt_cut why m n r steps e built none = rw none (turn_stopped why m n (not_yet first_session (request_words r)) m.scope (unbuilt m r e built))

-- nor of one that is built
pub asked_cut : (why : Stopped) (m n : Standing) (r : Request) (steps : List Step) → gives m ≡ Some (Run r) → IsTrue (is_built r) → steps ≡ [] → TurnMade m n (Err why) steps
asked_cut why m n r steps e built none = rw none (turn_stopped why m n (asked r (answer.Refused refusal.NotYet None)) m.scope (denied m r refusal.NotYet e built))

pub unbuilt_made : (m : Standing) (r : Request) (steps : List Step) → gives m ≡ Some (Run r) → is_built r ≡ false → steps ≡ not_yet first_session (request_words r) ∷ [] → DoesFrom m steps m.scope
unbuilt_made m r steps e built is = rw is (unbuilt m r e built)

pub denied_made : (m : Standing) (r : Request) (why : Refusal) (steps : List Step) → gives m ≡ Some (Run r) → IsTrue (is_built r) → steps ≡ asked r (answer.Refused why None) ∷ [] → DoesFrom m steps m.scope
denied_made m r why steps e built is = rw is (denied m r why e built)

pub replied_made : (m n : Standing) (r : Request) (given : Reply) (steps : List Step) → gives m ≡ Some (Run r) → IsTrue (is_built r) → steps ≡ asked r (answer.Replied given) ∷ [] → n ≡ told m given → LeadsThrough m steps n
replied_made m n r given steps e built is told_is = rw (is, told_is) (replied m r given e built)

-- the reply came, and the machine couldn't be told of it
pub told_cut : (m n : Standing) (r : Request) (given : Reply) (steps : List Step) → gives m ≡ Some (Run r) → IsTrue (is_built r) → steps ≡ asked r (answer.Replied given) ∷ [] → TurnMade m n (Err stopped.OutOfMemory) steps
told_cut m n r given steps e built is = turn_cut m n (told m given) steps (replied_made m (told m given) r given steps e built is refl)

-- ---- what a turn makes of a fault

failed_by : (m n : Standing) (why : MachineFault) (words : Bytes) (r : Refusal) → why ≡ Refused words r → (why ≡ fault.OutOfMemory) ⊎ (Reaches m n × (refused n ≡ Some why))
    → DoesFrom m (refused_words first_session words (if is_built_word words then r else refusal.NotYet) ∷ []) n.scope
failed_by m n why words r is (inl e) = absurd cc
failed_by m n why words r is (inr h) = failed m n words r h.0 (h.1 ∙ ap Some is)

pub failed_made : (m n : Standing) (why : MachineFault) (words : Bytes) (r : Refusal) (steps : List Step) → why ≡ Refused words r
    → (why ≡ fault.OutOfMemory) ⊎ (Reaches m n × (refused n ≡ Some why))
    → steps ≡ refused_words first_session words (if is_built_word words then r else refusal.NotYet) ∷ [] → DoesFrom m steps n.scope
failed_made m n why words r steps is h made = rw made (failed_by m n why words r is h)

pub failed_cut : (cause : Stopped) (m n k : Standing) (why : MachineFault) (words : Bytes) (r : Refusal) (steps : List Step) → why ≡ Refused words r
    → (why ≡ fault.OutOfMemory) ⊎ (Reaches m n × (refused n ≡ Some why)) → steps ≡ [] → TurnMade m k (Err cause) steps
failed_cut cause m n k why words r steps is h none =
    rw none (turn_stopped cause m k (refused_words first_session words (if is_built_word words then r else refusal.NotYet)) n.scope (failed_by m n why words r is h))

pub of_words : (why : MachineFault) (words : Bytes) (r : Refusal) → why ≡ Refused words r → IsOfWords why → IsTrue (is_of_words r)
of_words why words r is h = subst IsOfWords is h

-- ---- whole batches

-- a part of a batch, and a turn that stopped
pub batch_stopped : (why : Stopped) (a b c : Standing) (xs ys : List Step) → LeadsThrough a xs b → TurnMade b c (Err why) ys
    → MadeWith {T = Scope} (Err why) (λ after steps. DoesFrom a steps after) (xs ++ ys)
batch_stopped why a b c xs ys lead begun = through_begun why a b xs ys lead begun

-- a history with room has fewer than 200,000 steps, so each that it gets leaves less room
pub less_room : (before now : List Step) → IsLonger before now → 200000 - length now < 200000 - length before
less_room before now longer = omega (arith, longer.room, longer.one)
