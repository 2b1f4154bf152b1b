-- Along every legal history groups are held alone, waits lead in no circle, and committed transactions are whole.
use Rattle.std.proofs.Common.{◌≡◌, ℕ, Bool, true, false, List, [], ◌∷◌, ◌++◌, ◌+◌, ◌*◌, ◌^◌, ◌≤◌, ◌<◌, Option, Some, None, refl, sym, ◌∙◌, ap, subst, length, arith, cond, inl, inr, append-nil}
use Rattle.std.specs.Prelude.{◌⊎◌, ◌==◌, ◌&&◌}
use Rattle.std.specs.List.{AllByRecursion}
use Rattle.std.proofs.lemmas.Grind.{fold-append}
use Rattle.sb_log.specs.declared.identifiers.Handle.{Handle}
use Rattle.sb_log.specs.declared.identifiers.Who.{Who}
use Rattle.sb_log.specs.declared.identifiers.Who.TheVariants.{A, B}
use Rattle.sb_log.specs.declared.entries.Entry.{Entry}
use Rattle.sb_log.specs.declared.entries.Entry.TheVariants.{Defined, Txn, Accepted, Acked, Fired, Expired, QueueSet}
use Rattle.sb_log.specs.declared.steps.Step.{Step}
use Rattle.sb_model.specs.Sides.{same_who}
use Rattle.sb_model.specs.Steps.{World, Stepped, part}
use Rattle.sb_model.specs.Histories.{Legal, Gives, outcome, world_of, next, first_world, Act, acts, step_acts, failure_ends, disk_failed_at, history_acts, HoldsAlone, AllHoldAlone, HoldsGroupsAlone, Given, nothing_given, with_act, given_after, given_by, IsWholeTransaction, IsWholeEntry, AddedWhole, CommitsWholeAfter, CommitsWhole}
use Rattle.sb_model.specs.Histories as histories
use Rattle.sb_laws.specs.Waits.{HasNoCircle, WaitsInNoCircle}
use Rattle.sb_laws.proofs.Circles.{no_circle_none}
use Rattle.sb_laws.specs.Worlds.{IsRoomy, StaysFresh}
use Rattle.sb_laws.specs.Starts.{StartsLinked}
use Rattle.sb_laws.proofs.Grow.{all_weaker}
use Rattle.sb_laws.proofs.Taking.{all_take}
use Rattle.sb_laws.proofs.Worlds.{WorldOk, AreBelow, Keeps}
use Rattle.sb_laws.proofs.Delivery.{next_keeps}
use Rattle.sb_laws.proofs.Starts.{start_ok, start_below}
use Rattle.sb_laws.proofs.Acts.{Held, through_join, others_through, begins_join, so_far, ops_open, given_all, IsWholeBy}
use Rattle.sb_laws.proofs.ActWorlds.{Moves, Reopens, step_moves}

-- the state after a history; `after` is a name of this file
abbrev pub history_end : World → List Step → World
history_end w steps = histories.after w steps

-- what a step of a legal history is
abbrev StepIs : World → Step → Stepped → Type 0
StepIs w s r = Moves w r (step_acts w s) ⊎ Reopens w r (step_acts w s)

step_is : (w : World) (s : Step) (r : Stepped) → WorldOk w → IsRoomy w → outcome w s ≡ Some r → r.answer ≡ s.answer → StepIs w s r
step_is w s r h roomy e g = subst (λ a. Moves w r (acts w s.who s.event a ++ failure_ends w (disk_failed_at a)) ⊎ Reopens w r (acts w s.who s.event a ++ failure_ends w (disk_failed_at a))) g (step_moves w h roomy s.who s.event s.answer r e)

pub same_is : (x y : Who) → same_who x y ≡ true → x ≡ y
same_is A A e = refl
same_is B B e = refl
same_is A B e = cc
same_is B A e = cc

pub other_way : (x y : Who) → same_who x y ≡ false → same_who y x ≡ false
other_way A A e = cc
other_way B B e = cc
other_way A B e = refl
other_way B A e = refl

-- a roomy state of a history that is short, and the next one
pub record IsRun (top : ℕ) (w : World) (steps : List Step) : Type 0 where
  pub high : 2 ^ 62 ≤ top
  pub short : top + 4 * length steps + 4 < 2 ^ 64
  pub low : AreBelow top w
  pub ok : WorldOk w
  pub legal : Legal w steps
  pub fresh : StaysFresh w steps

pub run_roomy : (top : ℕ) (w : World) (s : Step) (steps : List Step) → IsRun top w (s ∷ steps) → IsRoomy w
run_roomy top w s steps run = record { room = λ x. let r = run.low x in record { handles = omega (arith, r.0, run.short); txs = omega (arith, r.1, run.short) }; fresh = run.fresh.0 }

pub run_next : (top : ℕ) (w : World) (s : Step) (steps : List Step) → IsRun top w (s ∷ steps) → IsRun (top + 4) (next w s) steps
run_next top w s steps run =
    let k : Keeps w (next w s) = next_keeps w s (outcome w s) refl run.legal.0 run.ok (run_roomy top w s steps run) in
    record { high = let a = run.high in omega (arith, a); short = let a = run.short in omega (arith, a); low = k.rise top run.high run.low; ok = k.ok; legal = run.legal.1; fresh = run.fresh.1 }

-- ---- groups are held alone

-- the acts of a step let a held group alone
step_alone : (w : World) (r : Stepped) (done : List Act) (x : Who) (tx : ℕ) (gs : List Handle) (later : List Act) → WorldOk w → Moves w r done ⊎ Reopens w r done → Held (part w x).open_txns tx gs →
    (Held (part r.world x).open_txns tx gs → HoldsAlone x tx gs later) → HoldsAlone x tx gs (done ++ later)
step_alone w r done x tx gs later h (inl m) held f = by_who (same_who x m.x) refl
  where
    by_who : (c : Bool) → same_who x m.x ≡ c → HoldsAlone x tx gs (done ++ later)
    by_who true e =
        let is : x ≡ m.x = same_is x m.x e in
        let whose : (part w m.x).who ≡ x = h.who m.x ∙ sym is in
        subst (λ y. HoldsAlone y tx gs (done ++ later)) whose (through_join (part w m.x).who tx gs done later (Held (part r.world m.x).open_txns tx gs)
        (λ k. subst (λ y. HoldsAlone y tx gs later) (sym whose) (f (subst (λ y. Held (part r.world y).open_txns tx gs) (sym is) k)))
        (m.effect.kept tx gs (subst (λ y. Held (part w y).open_txns tx gs) is held)))
    by_who false e = through_join x tx gs done later (Held (part r.world x).open_txns tx gs) f
        (others_through x tx gs done (Held (part r.world x).open_txns tx gs)
        (all_weaker (λ a. a.on ≡ (part w m.x).who) (λ a. same_who a.on x ≡ false) (λ a k. subst (λ y. same_who y x ≡ false) (sym (k ∙ h.who m.x)) (other_way x m.x e)) done m.effect.on)
        (subst (λ V. Held V tx gs) (sym (m.others x e).0) held))
step_alone w r done x tx gs later h (inr m) held f = by_who (same_who x m.x) refl
  where
    by_who : (c : Bool) → same_who x m.x ≡ c → HoldsAlone x tx gs (done ++ later)
    by_who true e = absurd (subst (λ V. Held V tx gs) m.closed (subst (λ y. Held (part w y).open_txns tx gs) (same_is x m.x e) held))
    by_who false e = subst (λ l. HoldsAlone x tx gs (l ++ later)) (sym m.none) (f (subst (λ V. Held V tx gs) (sym (m.others x e).0) held))

alone_from : (top : ℕ) (w : World) (steps : List Step) → IsRun top w steps → (x : Who) (tx : ℕ) (gs : List Handle) → Held (part w x).open_txns tx gs → HoldsAlone x tx gs (history_acts w steps)
alone_from top w [] run x tx gs held = tt
alone_from top w (s ∷ steps) run x tx gs held = by_outcome (outcome w s) refl run.legal.0 (λ k. alone_from (top + 4) (next w s) steps (run_next top w s steps run) x tx gs k)
  where
    by_outcome : (o : Option Stepped) → outcome w s ≡ o → Gives o s → (Held (part (next w s) x).open_txns tx gs → HoldsAlone x tx gs (history_acts (next w s) steps)) → HoldsAlone x tx gs (step_acts w s ++ history_acts (next w s) steps)
    by_outcome None e g rest = absurd g
    by_outcome (Some r) e g rest = step_alone w r (step_acts w s) x tx gs (history_acts (next w s) steps) run.ok (step_is w s r run.ok (run_roomy top w s steps run) e g) held
        (λ k. rest (subst (λ o. Held (part (world_of w o) x).open_txns tx gs) (sym e) k))

step_begins : (w : World) (r : Stepped) (done later : List Act) → WorldOk w → Moves w r done ⊎ Reopens w r done → ((x : Who) (tx : ℕ) (gs : List Handle) → Held (part r.world x).open_txns tx gs → HoldsAlone x tx gs later) →
    AllHoldAlone later → AllHoldAlone (done ++ later)
step_begins w r done later h (inl m) f rest = begins_join (part w m.x).who (part r.world m.x).open_txns done later m.effect.on
    (λ tx gs k. subst (λ y. HoldsAlone y tx gs later) (sym (h.who m.x)) (f m.x tx gs k)) rest m.effect.begun
step_begins w r done later h (inr m) f rest = subst (λ l. AllHoldAlone (l ++ later)) (sym m.none) rest

holds_alone : (top : ℕ) (w : World) (steps : List Step) → IsRun top w steps → HoldsGroupsAlone w steps
holds_alone top w [] run = tt
holds_alone top w (s ∷ steps) run = by_outcome (outcome w s) refl run.legal.0 (λ x tx gs k. alone_from (top + 4) (next w s) steps (run_next top w s steps run) x tx gs k) (holds_alone (top + 4) (next w s) steps (run_next top w s steps run))
  where
    by_outcome : (o : Option Stepped) → outcome w s ≡ o → Gives o s → ((x : Who) (tx : ℕ) (gs : List Handle) → Held (part (next w s) x).open_txns tx gs → HoldsAlone x tx gs (history_acts (next w s) steps)) →
        AllHoldAlone (history_acts (next w s) steps) → AllHoldAlone (step_acts w s ++ history_acts (next w s) steps)
    by_outcome None e g f rest = absurd g
    by_outcome (Some r) e g f rest = step_begins w r (step_acts w s) (history_acts (next w s) steps) run.ok (step_is w s r run.ok (run_roomy top w s steps run) e g)
        (λ x tx gs k. f x tx gs (subst (λ o. Held (part (world_of w o) x).open_txns tx gs) (sym e) k)) rest

-- ---- waits lead in no circle

step_no_circle : (w : World) (r : Stepped) (done : List Act) → Moves w r done ⊎ Reopens w r done → WaitsInNoCircle w → WaitsInNoCircle r.world
step_no_circle w r done (inl m) h x = by_who (same_who x m.x) refl
  where
    by_who : (c : Bool) → same_who x m.x ≡ c → HasNoCircle (part r.world x).open_txns
    by_who true e = subst (λ y. HasNoCircle (part r.world y).open_txns) (sym (same_is x m.x e)) (m.effect.ranked (h m.x))
    by_who false e = subst HasNoCircle (sym (m.others x e).0) (h x)
step_no_circle w r done (inr m) h x = by_who (same_who x m.x) refl
  where
    by_who : (c : Bool) → same_who x m.x ≡ c → HasNoCircle (part r.world x).open_txns
    by_who true e = subst (λ y. HasNoCircle (part r.world y).open_txns) (sym (same_is x m.x e)) (subst HasNoCircle (sym m.opens) no_circle_none)
    by_who false e = subst HasNoCircle (sym (m.others x e).0) (h x)

no_circle : (top : ℕ) (w : World) (steps : List Step) → IsRun top w steps → WaitsInNoCircle w → WaitsInNoCircle (history_end w steps)
no_circle top w [] run h = h
no_circle top w (s ∷ steps) run h = by_outcome (outcome w s) refl run.legal.0 (λ k. no_circle (top + 4) (next w s) steps (run_next top w s steps run) k)
  where
    by_outcome : (o : Option Stepped) → outcome w s ≡ o → Gives o s → (WaitsInNoCircle (next w s) → WaitsInNoCircle (history_end (next w s) steps)) → WaitsInNoCircle (history_end (next w s) steps)
    by_outcome None e g rest = absurd g
    by_outcome (Some r) e g rest = rest (subst (λ o. WaitsInNoCircle (world_of w o)) (sym e) (step_no_circle w r (step_acts w s) (step_is w s r run.ok (run_roomy top w s steps run) e g) h))

-- ---- transactions are whole

-- by the acts so far: the operations of each open transaction are those that were given, and what is in doubt is whole
record IsGiven (w : World) (before : List Act) : Type 0 where
  opens : (x : Who) (tx : ℕ) → so_far (given_by x tx before) ≡ ops_open (part w x).open_txns tx
  doubts : (x : Who) → AllByRecursion (IsWholeEntry x before) (part w x).doubt

-- acts on the other instance change nothing of what was given
given_others : (x : Who) (tx : ℕ) (g : Given) (done : List Act) → AllByRecursion (λ a. same_who a.on x ≡ false) done → given_all x tx g done ≡ g
given_others x tx g [] h = refl
given_others x tx g (a ∷ done) h = ap (λ k. given_all x tx k done) (one (same_who a.on x) h.0) ∙ given_others x tx g done h.1
  where
    one : (c : Bool) → c ≡ false → cond (c && (a.tx == tx)) (with_act (cond g.over nothing_given g) a) g ≡ g
    one true e = cc
    one false e = refl

module _ (w : World) (r : Stepped) (before done : List Act) (h : WorldOk w) (given : IsGiven w before) where
  after : (x : Who) (tx : ℕ) → given_by x tx (before ++ done) ≡ given_all x tx (given_by x tx before) done
  after x tx = fold-append (given_after x tx) nothing_given before done

  -- an entry that is whole by the acts of this step
  entry_whole : (x : Who) (e : Entry) → IsWholeBy x (part w x).open_txns done e → IsWholeEntry x (before ++ done) e
  entry_whole x (Txn tx ops) k = subst (λ g. IsWholeTransaction g ops) (sym (after x tx)) (k (given_by x tx before) (given.opens x tx))
  entry_whole x (Defined a) k = tt
  entry_whole x (Accepted a b c d) k = tt
  entry_whole x (Acked a b c) k = tt
  entry_whole x (Fired a) k = tt
  entry_whole x (Expired a) k = tt
  entry_whole x (QueueSet a b) k = tt

  -- one that was whole before stays so where the instance has no act
  entry_still : (x : Who) → ((tx : ℕ) → given_by x tx (before ++ done) ≡ given_by x tx before) → (e : Entry) → IsWholeEntry x before e → IsWholeEntry x (before ++ done) e
  entry_still x same (Txn tx ops) k = subst (λ g. IsWholeTransaction g ops) (sym (same tx)) k
  entry_still x same (Defined a) k = tt
  entry_still x same (Accepted a b c d) k = tt
  entry_still x same (Acked a b c) k = tt
  entry_still x same (Fired a) k = tt
  entry_still x same (Expired a) k = tt
  entry_still x same (QueueSet a b) k = tt

  no_acts : done ≡ [] → (x : Who) (tx : ℕ) → given_by x tx (before ++ done) ≡ given_by x tx before
  no_acts e x tx = ap (λ l. given_by x tx (before ++ l)) e ∙ ap (given_by x tx) (append-nil before)

  module _ (m : Moves w r done) where
    whose : (part w m.x).who ≡ m.x
    whose = h.who m.x

    others_same : (x : Who) → same_who x m.x ≡ false → (tx : ℕ) → given_by x tx (before ++ done) ≡ given_by x tx before
    others_same x e tx = after x tx ∙ given_others x tx (given_by x tx before) done
        (all_weaker (λ a. a.on ≡ (part w m.x).who) (λ a. same_who a.on x ≡ false) (λ a k. subst (λ y. same_who y x ≡ false) (sym (k ∙ h.who m.x)) (other_way x m.x e)) done m.effect.on)

    moved_given : IsGiven r.world (before ++ done)
    moved_given = record { opens = λ x tx. opens x tx (same_who x m.x) refl; doubts = λ x. doubts x (same_who x m.x) refl }
      where
        opens : (x : Who) (tx : ℕ) (c : Bool) → same_who x m.x ≡ c → so_far (given_by x tx (before ++ done)) ≡ ops_open (part r.world x).open_txns tx
        opens x tx true e = subst (λ y. so_far (given_by y tx (before ++ done)) ≡ ops_open (part r.world y).open_txns tx) (sym (same_is x m.x e))
            (ap so_far (after m.x tx) ∙ subst (λ y. so_far (given_all y tx (given_by m.x tx before) done) ≡ ops_open (part r.world m.x).open_txns tx) whose (m.effect.given tx (given_by m.x tx before) (given.opens m.x tx)))
        opens x tx false e = ap so_far (others_same x e tx) ∙ given.opens x tx ∙ ap (λ V. ops_open V tx) (sym (m.others x e).0)

        own_doubt : AllByRecursion (IsWholeBy (part w m.x).who (part w m.x).open_txns done) (part r.world m.x).doubt ⊎ (((part r.world m.x).doubt ≡ (part w m.x).doubt) × (done ≡ [])) → AllByRecursion (IsWholeEntry m.x (before ++ done)) (part r.world m.x).doubt
        own_doubt (inl k) = all_weaker (IsWholeBy m.x (part w m.x).open_txns done) (IsWholeEntry m.x (before ++ done)) (entry_whole m.x) (part r.world m.x).doubt
            (subst (λ y. AllByRecursion (IsWholeBy y (part w m.x).open_txns done) (part r.world m.x).doubt) whose k)
        own_doubt (inr k) = all_weaker (IsWholeEntry m.x before) (IsWholeEntry m.x (before ++ done)) (entry_still m.x (no_acts k.1 m.x)) (part r.world m.x).doubt (subst (AllByRecursion (IsWholeEntry m.x before)) (sym k.0) (given.doubts m.x))

        doubts : (x : Who) (c : Bool) → same_who x m.x ≡ c → AllByRecursion (IsWholeEntry x (before ++ done)) (part r.world x).doubt
        doubts x true e = subst (λ y. AllByRecursion (IsWholeEntry y (before ++ done)) (part r.world y).doubt) (sym (same_is x m.x e)) (own_doubt m.effect.doubt)
        doubts x false e = all_weaker (IsWholeEntry x before) (IsWholeEntry x (before ++ done)) (entry_still x (others_same x e)) (part r.world x).doubt (subst (AllByRecursion (IsWholeEntry x before)) (sym (m.others x e).1) (given.doubts x))

    moved_whole : AllByRecursion (IsWholeEntry r.on (before ++ done)) r.added
    moved_whole = by_on m.on
      where
        by_on : (r.added ≡ []) ⊎ (r.on ≡ m.x) → AllByRecursion (IsWholeEntry r.on (before ++ done)) r.added
        by_on (inl e) = subst (AllByRecursion (IsWholeEntry r.on (before ++ done))) (sym e) tt
        by_on (inr e) = subst (λ y. AllByRecursion (IsWholeEntry y (before ++ done)) r.added) (sym e)
            (all_weaker (IsWholeBy m.x (part w m.x).open_txns done) (IsWholeEntry m.x (before ++ done)) (entry_whole m.x) r.added (subst (λ y. AllByRecursion (IsWholeBy y (part w m.x).open_txns done) r.added) whose m.effect.whole))

  module _ (o : Reopens w r done) where
    reopened_given : IsGiven r.world (before ++ done)
    reopened_given = record { opens = λ x tx. opens x tx (same_who x o.x) refl; doubts = λ x. doubts x (same_who x o.x) refl }
      where
        opens : (x : Who) (tx : ℕ) (c : Bool) → same_who x o.x ≡ c → so_far (given_by x tx (before ++ done)) ≡ ops_open (part r.world x).open_txns tx
        opens x tx true e = subst (λ y. so_far (given_by y tx (before ++ done)) ≡ ops_open (part r.world y).open_txns tx) (sym (same_is x o.x e))
            (ap so_far (no_acts o.none o.x tx) ∙ given.opens o.x tx ∙ ap (λ V. ops_open V tx) (o.closed ∙ sym o.opens))
        opens x tx false e = ap so_far (no_acts o.none x tx) ∙ given.opens x tx ∙ ap (λ V. ops_open V tx) (sym (o.others x e).0)

        doubts : (x : Who) (c : Bool) → same_who x o.x ≡ c → AllByRecursion (IsWholeEntry x (before ++ done)) (part r.world x).doubt
        doubts x true e = subst (λ y. AllByRecursion (IsWholeEntry y (before ++ done)) (part r.world y).doubt) (sym (same_is x o.x e)) (subst (AllByRecursion (IsWholeEntry o.x (before ++ done))) (sym o.doubt) tt)
        doubts x false e = all_weaker (IsWholeEntry x before) (IsWholeEntry x (before ++ done)) (entry_still x (no_acts o.none x)) (part r.world x).doubt (subst (AllByRecursion (IsWholeEntry x before)) (sym (o.others x e).1) (given.doubts x))

    reopened_whole : AllByRecursion (IsWholeEntry r.on (before ++ done)) r.added
    reopened_whole = subst (λ y. AllByRecursion (IsWholeEntry y (before ++ done)) r.added) (sym o.on) (subst (AllByRecursion (IsWholeEntry o.x (before ++ done))) (sym o.from_doubt.1)
        (all_take (IsWholeEntry o.x (before ++ done)) o.from_doubt.0 (part w o.x).doubt (all_weaker (IsWholeEntry o.x before) (IsWholeEntry o.x (before ++ done)) (entry_still o.x (no_acts o.none o.x)) (part w o.x).doubt (given.doubts o.x))))

  step_whole : Moves w r done ⊎ Reopens w r done → AllByRecursion (IsWholeEntry r.on (before ++ done)) r.added × IsGiven r.world (before ++ done)
  step_whole (inl m) = (moved_whole m, moved_given m)
  step_whole (inr o) = (reopened_whole o, reopened_given o)

commits_whole : (top : ℕ) (w : World) (before : List Act) (steps : List Step) → IsRun top w steps → IsGiven w before → CommitsWholeAfter w before steps
commits_whole top w before [] run given = tt
commits_whole top w before (s ∷ steps) run given = by_outcome (outcome w s) refl run.legal.0 (λ k. commits_whole (top + 4) (next w s) (before ++ step_acts w s) steps (run_next top w s steps run) k)
  where
    by_outcome : (o : Option Stepped) → outcome w s ≡ o → Gives o s → (IsGiven (next w s) (before ++ step_acts w s) → CommitsWholeAfter (next w s) (before ++ step_acts w s) steps) →
        AddedWhole (before ++ step_acts w s) (outcome w s) × CommitsWholeAfter (next w s) (before ++ step_acts w s) steps
    by_outcome None e g rest = absurd g
    by_outcome (Some r) e g rest =
        let k = step_whole w r before (step_acts w s) run.ok given (step_is w s r run.ok (run_roomy top w s steps run) e g) in
        (subst (AddedWhole (before ++ step_acts w s)) (sym e) k.0, rest (subst (λ o. IsGiven (world_of w o) (before ++ step_acts w s)) (sym e) k.1))

-- ---- from a start

module _ (log_a log_b : List Entry) (end_a end_b : Option ℕ) (steps : List Step) (h : StartsLinked log_a log_b) (short : length steps ≤ 2 ^ 60) (legal : Legal (first_world log_a end_a log_b end_b) steps)
    (fresh : StaysFresh (first_world log_a end_a log_b end_b) steps) where
  pub first_run : IsRun (2 ^ 62) (first_world log_a end_a log_b end_b) steps
  first_run = record { high = omega arith; short = omega (arith, short); low = start_below log_a log_b end_a end_b h; ok = start_ok log_a log_b end_a end_b h; legal = legal; fresh = fresh }

  pub alone_along : HoldsGroupsAlone (first_world log_a end_a log_b end_b) steps
  alone_along = holds_alone (2 ^ 62) (first_world log_a end_a log_b end_b) steps first_run

  first_given : IsGiven (first_world log_a end_a log_b end_b) []
  first_given = record { opens = opens; doubts = doubts }
    where
      opens : (x : Who) (tx : ℕ) → so_far (given_by x tx []) ≡ ops_open (part (first_world log_a end_a log_b end_b) x).open_txns tx
      opens A tx = refl
      opens B tx = refl

      doubts : (x : Who) → AllByRecursion (IsWholeEntry x []) (part (first_world log_a end_a log_b end_b) x).doubt
      doubts A = tt
      doubts B = tt

  pub whole_along : CommitsWhole (first_world log_a end_a log_b end_b) steps
  whole_along = commits_whole (2 ^ 62) (first_world log_a end_a log_b end_b) [] steps first_run first_given

  pub no_circle_along : WaitsInNoCircle (history_end (first_world log_a end_a log_b end_b) steps)
  no_circle_along = no_circle (2 ^ 62) (first_world log_a end_a log_b end_b) steps first_run none
    where
      none : (x : Who) → HasNoCircle (part (first_world log_a end_a log_b end_b) x).open_txns
      none A = no_circle_none
      none B = no_circle_none
