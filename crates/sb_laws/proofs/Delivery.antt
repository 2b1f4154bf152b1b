-- Each step keeps the invariant, and with it delivery holds along every legal history.
use Rattle.std.proofs.Common.{◌≡◌, ℕ, zero, suc, Bool, true, false, List, [], ◌∷◌, ◌++◌, ◌+◌, ◌*◌, ◌^◌, ◌≤◌, ◌<◌, ◌-◌, Option, Some, None, refl, sym, subst, length, arith, cond}
use Rattle.std.specs.Prelude.{option_map, option_and_then, nat_lt, slice_get}
use Rattle.std.specs.Option.{option_eq}
use Rattle.std.proofs.lemmas.Option.{same_Some}
use Rattle.sb_log.specs.declared.identifiers.Session.{Session}
use Rattle.sb_log.specs.declared.identifiers.Who.{Who}
use Rattle.sb_log.specs.declared.identifiers.Who.TheVariants.{A, B}
use Rattle.sb_log.specs.declared.identifiers.Actor.{Actor}
use Rattle.sb_log.specs.declared.identifiers.Actor.TheVariants as actor
use Rattle.sb_log.specs.declared.entries.Entry.{Entry}
use Rattle.sb_log.specs.declared.refusals.Refusal.{Refusal}
use Rattle.sb_log.specs.declared.refusals.Refusal.TheVariants as refusal
use Rattle.sb_log.specs.declared.steps.Answer.{Answer}
use Rattle.sb_log.specs.declared.steps.Answer.TheVariants as answer
use Rattle.sb_log.specs.declared.steps.Barred.TheVariants as barred
use Rattle.sb_log.specs.declared.steps.Event.{Event}
use Rattle.sb_log.specs.declared.steps.Event.TheVariants as event
use Rattle.sb_log.specs.declared.steps.DueKind.TheVariants as due_kind
use Rattle.sb_log.specs.declared.steps.Step.{Step}
use Rattle.sb_model.specs.Sides.{same_who, Making, made}
use Rattle.sb_model.specs.Messages.{numbered}
use Rattle.sb_model.specs.Frames.{destination}
use Rattle.sb_model.specs.Acceptance.{verdict}
use Rattle.sb_log.specs.declared.identifiers.SideId.{SideId}
use Rattle.sb_log.specs.declared.messages.Data.{Data}
use Rattle.sb_log.specs.declared.messages.Content.{Content}
use Rattle.sb_log.specs.declared.messages.Frame.TheVariants as frame
use Rattle.sb_laws.proofs.Delivered.{made_side}
use Rattle.sb_model.specs.Instance.{Part, Luck, Done, down_with, refused}
use Rattle.sb_model.specs.Transactions.{OpenTransaction}
use Rattle.sb_model.specs.Statements.{session_step, reader_step, start_step, runnable, refused_reader}
use Rattle.sb_model.specs.Dump.{dump}
use Rattle.sb_model.specs.Wire.{Wired, wired, no_longer_waits, spelled_on}
use Rattle.sb_model.specs.Steps.{World, Stepped, part, with_part, on_part, told, deliver_wired, lose_wired, inject, pump, open_with, open_step, serve, sessions_open, is_settled, luck_of, failed, step, fire, session_words, reader_words, words_told, is_of_words, is_not_yet, is_of_reader_words, hand_over, to_hand_over, handed, accept_data}
use Rattle.sb_model.specs.Histories.{Legal, Gives, outcome, world_of, next, after}
use Rattle.sb_model.specs.Links.{Logs, IsFrameOf}
use Rattle.sb_laws.specs.Worlds.{IsRoomy, StaysFresh}
use Rattle.sb_laws.proofs.Steps.{Steps, session_step_moved, reader_step_moved, start_step_moved, refused_reader_moved}
use Rattle.sb_laws.proofs.Deliveries.{fire_moved, pairing, handed_moved}
use Rattle.sb_laws.proofs.Worlds.{WorldOk, AreBelow, Keeps, keeps_same, keeps_parts, parts_of, moment_of, steps_world, moved_world, same_world, moment_world, no_wait_world, deliver_world, inject_world, pump_world, crash_steps, open_world}

none_is : {P : Type 0} (r : Stepped) → None ≡ Some r → P
none_is r e = cc

some_is : {w : World} (x r : Stepped) → Some x ≡ Some r → Keeps w x.world → Keeps w r.world
some_is {w = w} x r e h = subst (λ s. Keeps w s.world) (same_Some x r e) h

-- what an instance's step makes of the world
done_world : (w : World) (x : Who) (o : Option Done) (r : Stepped) → WorldOk w → option_map (on_part w x) o ≡ Some r → ((d : Done) → o ≡ Some d → Steps (part w x) d.part) → Keeps w r.world
done_world w x None r h e f = none_is r e
done_world w x (Some d) r h e f = some_is (on_part w x d) r e (steps_world w x d.part h (f d refl))

if_some : {w : World} (c : Bool) (x r : Stepped) → cond c (Some x) None ≡ Some r → Keeps w x.world → Keeps w r.world
if_some true x r e h = some_is x r e h
if_some false x r e h = none_is r e

words_world : (w : World) (x : Who) (k : Refusal) (r : Stepped) → WorldOk w → session_words w x k ≡ Some r → Keeps w r.world
words_world w x k r h e = if_some (is_of_words k) (on_part w x (refused (part w x) k)) r e (same_world w x h)

-- what is told of words is what was done
pub told_is : (k : Refusal) (d e : Done) → words_told k d ≡ Some e → d ≡ e
told_is (refusal.DiskFailed x) d e f = by_up d.part.up f
  where
    by_up : (c : Bool) → cond c None (Some d) ≡ Some e → d ≡ e
    by_up true g = cc
    by_up false g = same_Some d e g
told_is k d e f = same_Some d e f

reader_world : (w : World) (luck : Luck) (x : Who) (n : ℕ) (k : Refusal) (r : Stepped) → WorldOk w → IsRoomy w → reader_words luck w x n k ≡ Some r → Keeps w r.world
reader_world w luck x n k r h roomy e = by_words (is_of_reader_words k) e
  where
    by_open : (o : Option OpenTransaction) → runnable (part w x) n ≡ o → option_map (on_part w x) (option_and_then (λ z. words_told k (refused_reader luck (part w x) z k)) o) ≡ Some r → Keeps w r.world
    by_open None f g = none_is r g
    by_open (Some o) f g = done_world w x (words_told k (refused_reader luck (part w x) o k)) r h g
        (λ d i. subst (λ z. Steps (part w x) z.part) (told_is k (refused_reader luck (part w x) o k) d i) (refused_reader_moved (part w x) (h.each x) (roomy.room x) luck n o k f))

    by_words : (c : Bool) → cond c (option_map (on_part w x) (option_and_then (λ z. words_told k (refused_reader luck (part w x) z k)) (runnable (part w x) n))) None ≡ Some r → Keeps w r.world
    by_words true f = by_open (runnable (part w x) n) refl f
    by_words false f = none_is r f

-- a message that is handed over is one that the log numbered
handed_sent : (p : Part) (s : SideId) (n : ℕ) (d : Data) (logs : Logs) → logs p.who ≡ p.log → to_hand_over p s n ≡ Some d → IsFrameOf logs p.who (frame.Data d)
handed_sent p s zero d logs own e = none_data e
  where
    none_data : {P : Type 0} → None ≡ Some d → P
    none_data f = cc
handed_sent p s (suc k) d logs own e = by_made (made p.log s) refl e
  where
    none_data : {P : Type 0} → None ≡ Some d → P
    none_data f = cc

    by_place : (m : Making) → made p.log s ≡ Some m → (o : Option Content) → slice_get (numbered p.log s) k ≡ o → option_map (handed p m (suc k)) o ≡ Some d → IsFrameOf logs p.who (frame.Data d)
    by_place m f None g i = none_data i
    by_place m f (Some c) g i =
        let same : m.side ≡ s = made_side p.log s m f in
        subst (λ z. IsFrameOf logs p.who (frame.Data z)) (same_Some (handed p m (suc k) c) d i) (record {
          making = m;
          from_log = subst (λ l. made l m.side ≡ Some m) (sym own) (subst (λ t. made p.log t ≡ Some m) (sym same) f);
          turned = refl;
          place = subst (λ l. slice_get (numbered l m.side) (suc k - 1) ≡ Some c) (sym own)
              (subst (λ t. slice_get (numbered p.log t) (suc k - 1) ≡ Some c) (sym same) (subst (λ j. slice_get (numbered p.log s) j ≡ Some c) (before k) g));
          numbered_from_1 = omega arith;
        })
      where
        before : (j : ℕ) → j ≡ suc j - 1
        before j = omega arith

    by_here : (m : Making) → made p.log s ≡ Some m → (c : Bool) → cond c (option_map (handed p m (suc k)) (slice_get (numbered p.log s) k)) None ≡ Some d → IsFrameOf logs p.who (frame.Data d)
    by_here m f true g = by_place m f (slice_get (numbered p.log s) k) refl g
    by_here m f false g = none_data g

    by_made : (o : Option Making) → made p.log s ≡ o →
        option_and_then (λ m. cond (same_who (destination p.who p.log m) p.who) (option_map (handed p m (suc k)) (slice_get (numbered p.log s) k)) None) o ≡ Some d → IsFrameOf logs p.who (frame.Data d)
    by_made None f g = none_data g
    by_made (Some m) f g = by_here m f (same_who (destination p.who p.log m) p.who) g

own_pairing : (x : Who) (a b : List Entry) → pairing x a b x ≡ a
own_pairing A a b = refl
own_pairing B a b = refl

hand_over_world : (w : World) (luck : Luck) (s : SideId) (n : ℕ) (r : Stepped) → WorldOk w → IsRoomy w → hand_over luck w s n ≡ Some r → Keeps w r.world
hand_over_world w luck s n r h roomy e = by_up w.a.up refl e
  where
    by_data : (o : Option Data) → to_hand_over w.a s n ≡ o → w.a.up ≡ true → option_map (λ d. on_part w A (accept_data luck w.a w.a d (verdict A w.a.log d))) o ≡ Some r → Keeps w r.world
    by_data None f up g = none_is r g
    by_data (Some d) f up g = some_is (on_part w A (accept_data luck w.a w.a d (verdict A w.a.log d))) r g
        (subst (λ x. Keeps w (with_part w A (accept_data luck w.a w.a d (verdict x w.a.log d)).part)) (h.who A)
        (moved_world w A (accept_data luck w.a w.a d (verdict w.a.who w.a.log d)).part h
        (handed_moved w.wire w.a (h.each A) (roomy.room A) up w.a.who luck d (λ b l. handed_sent w.a s n d (pairing w.a.who w.a.log b) (own_pairing w.a.who w.a.log b) f))))

    by_up : (c : Bool) → w.a.up ≡ c → cond c (option_map (λ d. on_part w A (accept_data luck w.a w.a d (verdict A w.a.log d))) (to_hand_over w.a s n)) None ≡ Some r → Keeps w r.world
    by_up true up f = by_data (to_hand_over w.a s n) refl up f
    by_up false up f = none_is r f

told_if : (w : World) (c : Bool) (x y r : Stepped) → Keeps w x.world → Keeps w y.world → Some (cond c x y) ≡ Some r → Keeps w r.world
told_if w true x y r a b e = some_is x r e a
told_if w false x y r a b e = some_is y r e b

serve_world : (w : World) (ss : List Session) (r : Stepped) → WorldOk w → serve w ss ≡ Some r → Keeps w r.world
serve_world w [] r h e = if_some (is_settled w) (told w answer.Settled) r e (keeps_same w h)
serve_world w (s ∷ ss) r h e = some_is (told w (answer.Barred (barred.OpenSessions s))) r e (keeps_same w h)

lose_world : (w : World) (k : ℕ) (o : Option Wired) → WorldOk w → Keeps w (lose_wired w k o).world
lose_world w k None h = keeps_same w h
lose_world w k (Some f) h = keeps_parts w (record w { wire = no_longer_waits k w.wire }) (no_wait_world w k h) (parts_of w (no_longer_waits k w.wire))

up_world : (w : World) (x : Who) (given : Answer) (r : Stepped) → WorldOk w → (let o : Option Stepped = cond (part w x).up (Some (told w (answer.Barred (barred.Up x)))) None in o) ≡ Some r → Keeps w r.world
up_world w x given r h e = if_some (part w x).up (told w (answer.Barred (barred.Up x))) r e (keeps_same w h)

opening_world : (w : World) (x : Who) (given : Answer) (r : Stepped) → WorldOk w → IsRoomy w → open_step w x given ≡ Some r → Keeps w r.world
opening_world w x (answer.Entries n) r h roomy e = by_up (part w x).up e
  where
    by_up : (c : Bool) → cond c None (open_with w x n) ≡ Some r → Keeps w r.world
    by_up true f = none_is r f
    by_up false f = open_world w x n r h roomy f
opening_world w x answer.OpenFailed r h roomy e = by_up (part w x).up e
  where
    by_up : (c : Bool) → cond c None (Some (told w answer.OpenFailed)) ≡ Some r → Keeps w r.world
    by_up true f = none_is r f
    by_up false f = some_is (told w answer.OpenFailed) r f (keeps_same w h)
opening_world w x (answer.OpenRefused at) r h roomy e = by_up (part w x).up e
  where
    by_up : (c : Bool) → cond c None (Some (told w (answer.OpenRefused at))) ≡ Some r → Keeps w r.world
    by_up true f = none_is r f
    by_up false f = some_is (told w (answer.OpenRefused at)) r f (keeps_same w h)
opening_world w x given r h roomy e = up_world w x given r h e

-- each step keeps the invariant
pub step_keeps : (w : World) (who : Actor) (e : Event) (given : Answer) (r : Stepped) → step w who e given ≡ Some r → WorldOk w → IsRoomy w → Keeps w r.world
step_keeps w (actor.Session s) (event.Asked req) given r f h roomy =
    some_is _ r f (steps_world w s.instance (session_step (luck_of given) (part w s.instance) s.number w.moment req).part h
    (session_step_moved (part w s.instance) (h.each s.instance) (roomy.room s.instance) (luck_of given) s.number w.moment req))
step_keeps w (actor.Reader x n) (event.Asked req) given r f h roomy =
    done_world w x (reader_step (luck_of given) (part w x) n w.moment req) r h f (λ d k. reader_step_moved (part w x) (h.each x) (roomy.room x) (luck_of given) n w.moment req d k)
step_keeps w (actor.Session s) (event.Words words) (answer.Refused k back) r f h roomy = words_world w s.instance k r h f
step_keeps w (actor.Reader x n) (event.Words words) (answer.Refused k back) r f h roomy =
    reader_world w (failed k) x n k r h roomy f
step_keeps w (actor.Reader x n) (event.Start q g) given r f h roomy = done_world w x (start_step (part w x) q g) r h f (λ d k. start_step_moved (part w x) (h.each x) (roomy.room x) q g d k)
step_keeps w actor.World (event.Words words) (answer.Refused k back) r f h roomy = if_some (is_not_yet k) (told w (answer.Refused k None)) r f (keeps_same w h)
step_keeps w actor.World (event.Pump x) given r f h roomy = some_is (pump w x) r f (pump_world w x h)
step_keeps w actor.World (event.Deliver k to) given r f h roomy =
    if_some (option_eq same_who to (option_map (λ z. z.to) (wired w.wire k))) (deliver_wired (luck_of given) w k (wired w.wire k)) r f (deliver_world w (luck_of given) k (wired w.wire k) h roomy.room refl)
step_keeps w actor.World (event.HandOver s n) given r f h roomy = hand_over_world w (luck_of given) s n r h roomy f
step_keeps w actor.World (event.Lose k) given r f h roomy = some_is (lose_wired w k (wired w.wire k)) r f (lose_world w k (wired w.wire k) h)
step_keeps w actor.World (event.Tick n) given r f h roomy = some_is (told (record w { moment = w.moment + n }) (answer.Moment (w.moment + n))) r f (ticked (w.moment + n))
  where
    ticked : (k : ℕ) → Keeps w (record w { moment = k })
    ticked k = keeps_parts w (record w { moment = k }) (moment_world w k h) (moment_of w k)
step_keeps w actor.World (event.Clock m) given r f h roomy = clocked (nat_lt m w.moment) f
  where
    clocked : (c : Bool) → cond c (Some (told w (answer.Barred (barred.ClockBack w.moment)))) (Some (told (record w { moment = m }) (answer.Moment m))) ≡ Some r → Keeps w r.world
    clocked true g = some_is (told w (answer.Barred (barred.ClockBack w.moment))) r g (keeps_same w h)
    clocked false g = some_is (told (record w { moment = m }) (answer.Moment m)) r g (keeps_parts w (record w { moment = m }) (moment_world w m h) (moment_of w m))
step_keeps w actor.World (event.Timer x handle) given r f h roomy =
    done_world w x (fire (luck_of given) (part w x) w.moment handle due_kind.Timer) r h f (λ d k. fire_moved (part w x) (h.each x) (roomy.room x) (luck_of given) w.moment handle due_kind.Timer d k)
step_keeps w actor.World (event.Lifetime x handle) given r f h roomy =
    done_world w x (fire (luck_of given) (part w x) w.moment handle due_kind.Lifetime) r h f (λ d k. fire_moved (part w x) (h.each x) (roomy.room x) (luck_of given) w.moment handle due_kind.Lifetime d k)
step_keeps w actor.World (event.Fuse x calls) given r f h roomy = some_is (told w answer.Done) r f (keeps_same w h)
step_keeps w actor.World (event.Crash x pick) given r f h roomy =
    some_is (told (with_part w x (down_with (part w x) (part w x).doubt)) answer.Done) r f (steps_world w x (down_with (part w x) (part w x).doubt) h (crash_steps (part w x) (h.each x)))
step_keeps w actor.World (event.Open x) given r f h roomy = opening_world w x given r h roomy f
step_keeps w actor.World event.Serve given r f h roomy = serve_world w (sessions_open A w.a ++ sessions_open B w.b) r h f
step_keeps w actor.World (event.Inject x bytes) given r f h roomy =
    some_is (inject (luck_of given) w x bytes (spelled_on w.wire bytes)) r f (inject_world w (luck_of given) x bytes (spelled_on w.wire bytes) h roomy.room refl)
step_keeps w actor.World (event.Dump x) given r f h roomy =
    told_if w (part w x).up (told w (answer.Dumped (dump (part w x).log))) (on_part w x (refused (part w x) (refusal.Down x))) r (keeps_same w h) (same_world w x h) f
step_keeps w who e given r f h roomy = none_is r f

-- ---- histories

pub next_keeps : (w : World) (s : Step) (o : Option Stepped) → outcome w s ≡ o → Gives o s → WorldOk w → IsRoomy w → Keeps w (world_of w o)
next_keeps w s None e g h roomy = absurd g
next_keeps w s (Some r) e g h roomy = step_keeps w s.who s.event s.answer r e h roomy

-- the invariant holds after every legal history that is not too long
pub history_keeps : (top : ℕ) (w : World) (steps : List Step) → 2 ^ 62 ≤ top → top + 4 * length steps + 4 < 2 ^ 64 → AreBelow top w → WorldOk w → Legal w steps → StaysFresh w steps → WorldOk (after w steps)
history_keeps top w [] high short low h legal fresh = h
history_keeps top w (s ∷ steps) high short low h legal fresh =
    let roomy : IsRoomy w = record { room = λ x. let r = low x in record { handles = omega (arith, r.0, short); txs = omega (arith, r.1, short) }; fresh = fresh.0 } in
    let k : Keeps w (next w s) = next_keeps w s (outcome w s) refl legal.0 h roomy in
    history_keeps (top + 4) (next w s) steps (omega (arith, high)) (omega (arith, short)) (k.rise top high low) k.ok legal.1 fresh.1
