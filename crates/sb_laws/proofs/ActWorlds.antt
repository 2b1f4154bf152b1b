-- What each step of the world does to the open transactions of both instances by its acts.
use Rattle.std.proofs.Common.{◌≡◌, ℕ, zero, suc, Bool, true, false, List, [], ◌∷◌, ◌++◌, ◌+◌, ◌-◌, ◌≤◌, Option, Some, None, Result, Ok, Err, refl, sym, ◌∙◌, ap, subst, length, arith, cond, inl, inr, append-nil, map, take, drop}
use Rattle.std.specs.Prelude.{find, ◌⊎◌, ◌&&◌, option_map, option_and_then, nat_lt, nat_le}
use Rattle.std.specs.Option.{option_eq}
use Rattle.std.specs.List.{AllByRecursion}
use Rattle.std.proofs.lemmas.Option.{same_Some}
use Rattle.std.proofs.lemmas.Bool.Decides.{nat_tests}
use Rattle.sb_log.specs.declared.identifiers.Handle.{Handle}
use Rattle.sb_log.specs.declared.identifiers.Session.{Session}
use Rattle.sb_log.specs.declared.identifiers.SideId.{SideId}
use Rattle.sb_log.specs.declared.identifiers.Who.{Who}
use Rattle.sb_log.specs.declared.identifiers.Who.TheVariants.{A, B}
use Rattle.sb_log.specs.declared.identifiers.Actor.{Actor}
use Rattle.sb_log.specs.declared.identifiers.Actor.TheVariants as actor
use Rattle.sb_log.specs.declared.entries.Entry.{Entry}
use Rattle.sb_log.specs.declared.entries.Entry.TheVariants.{Acked}
use Rattle.sb_log.specs.declared.messages.Ack.{Ack}
use Rattle.sb_log.specs.declared.messages.Data.{Data}
use Rattle.sb_log.specs.declared.messages.Frame.{Frame}
use Rattle.sb_log.specs.declared.messages.Frame.TheVariants as frame
use Rattle.sb_log.specs.declared.refusals.Refusal.{Refusal}
use Rattle.sb_log.specs.declared.refusals.Refusal.TheVariants as refusal
use Rattle.sb_log.specs.declared.requests.Request.{Request}
use Rattle.sb_log.specs.declared.requests.Request.TheVariants as request
use Rattle.sb_log.specs.declared.steps.Answer.{Answer}
use Rattle.sb_log.specs.declared.steps.Answer.TheVariants as answer
use Rattle.sb_log.specs.declared.steps.Arrived.TheVariants as arrived
use Rattle.sb_log.specs.declared.steps.Barred.TheVariants as barred
use Rattle.sb_log.specs.declared.steps.DueKind.{DueKind}
use Rattle.sb_log.specs.declared.steps.DueKind.TheVariants as due_kind
use Rattle.sb_log.specs.declared.steps.Event.{Event}
use Rattle.sb_log.specs.declared.steps.Event.TheVariants as event
use Rattle.sb_log.specs.declared.steps.Verdict.{Verdict}
use Rattle.sb_log.specs.declared.steps.Verdict.TheVariants.{New, Next, Repeat, Early, Gone, NotHere, AckNew, AckOld}
use Rattle.sb_model.specs.Sides.{Bytes, same_side, same_who, same_id, same_name, side_of}
use Rattle.sb_model.specs.Catalog.{queues}
use Rattle.sb_model.specs.Deadlines.{Due, due}
use Rattle.sb_model.specs.Acceptance.{verdict, ack_verdict, receiver}
use Rattle.sb_model.specs.Frames.{frames_due}
use Rattle.sb_model.specs.FrameReading.{decode_frame}
use Rattle.sb_model.specs.Dump.{dump}
use Rattle.sb_model.specs.Transactions.{OpenTransaction}
use Rattle.sb_model.specs.Instance.{Part, Luck, Done, append, opened, down_with, end_of, refused}
use Rattle.sb_model.specs.Statements.{draws, session_open, session_request, session_step, reader_request, reader_step, reader_open, runnable, refused_reader, start_step, start_pick, started_on, may_start_on}
use Rattle.sb_model.specs.Wire.{Wired, wired, no_longer_waits, spelled_on, put, lines_from, wire_size, sent_size}
use Rattle.sb_model.specs.Steps.{World, Stepped, part, with_part, on_part, told, deliver_wired, deliver_data, deliver_ack, deliver_frame, arrive, accept_data, data_entry, verdict_told, owes, set_owed, lose_wired, inject, inject_other, pump, pumped, fire, fired_entry, first_due, same_kind, open_with, open_step, serve, sessions_open, is_settled, luck_of, failed, session_words, world_words, reader_words, words_told, is_of_words, is_not_yet, is_of_reader_words, hand_over, to_hand_over, step}
use Rattle.sb_model.specs.Histories.{Act, acts, session_acts, reader_acts, all_end, failure_ends, disk_failed_at}
use Rattle.sb_laws.specs.Worlds.{IsRoomy}
use Rattle.sb_laws.proofs.Steps.{runnable_open, open_is_up}
use Rattle.sb_laws.proofs.Worlds.{WorldOk}
use Rattle.sb_laws.proofs.Undisked.{is_disk}
use Rattle.sb_laws.specs.Waits.{HasNoCircle}
use Rattle.sb_laws.proofs.Acts.{Held, ops_open, Effect, IsNoTxn, effect_none}
use Rattle.sb_laws.proofs.ActForms.{ends_of, effect_falls}
use Rattle.sb_laws.proofs.ActSteps.{failing, failing_none, session_quiet, effect_stays, quiet_effect, session_effect, reader_effect, words_effect, start_effect}

clash : {P : Type 0} → true ≡ false → P
clash e = cc

-- open transactions and doubt stay
abbrev pub Alike : Part → Part → Type 0
Alike p q = (q.open_txns ≡ p.open_txns) × (q.doubt ≡ p.doubt)

-- one instance's step, by these acts
pub record Moves (w : World) (r : Stepped) (done : List Act) : Type 0 where
  pub x : Who
  pub effect : Effect (part w x) (part r.world x) done r.added
  pub others : (y : Who) → same_who y x ≡ false → Alike (part w y) (part r.world y)
  pub on : (r.added ≡ []) ⊎ (r.on ≡ x)

-- an opening, which may find entries of the doubt
pub record Reopens (w : World) (r : Stepped) (done : List Act) : Type 0 where
  pub x : Who
  pub none : done ≡ []
  pub on : r.on ≡ x
  pub from_doubt : (k : ℕ) × (r.added ≡ take k (part w x).doubt)
  pub closed : (part w x).open_txns ≡ []
  pub opens : (part r.world x).open_txns ≡ []
  pub doubt : (part r.world x).doubt ≡ []
  pub others : (y : Who) → same_who y x ≡ false → Alike (part w y) (part r.world y)

part_set : (w : World) (x : Who) (q : Part) → part (with_part w x q) x ≡ q
part_set w A q = refl
part_set w B q = refl

part_other : (w : World) (x y : Who) (q : Part) → same_who y x ≡ false → part (with_part w x q) y ≡ part w y
part_other w A A q e = clash e
part_other w B B q e = clash e
part_other w A B q e = refl
part_other w B A q e = refl

effect_alike : (p q : Part) → Alike p q → Effect p q [] []
effect_alike p q a = effect_none p q [] (λ tx gs h. subst (λ V. Held V tx gs) (sym a.0) h) (λ k. subst HasNoCircle (sym a.0) k) (λ tx. ap (λ V. ops_open V tx) (sym a.0)) tt (inr a.1)

-- ---- deliveries and timers

accept_effect : (w : World) (luck : Luck) (p after : Part) (d : Data) (v : Verdict) → part w p.who ≡ p → Alike p after → Effect p (accept_data luck p after d v).part (failing w (accept_data luck p after d v).answer) (accept_data luck p after d v).added
accept_effect w luck p after d New own a = quiet_effect w luck p (draws after 2) (data_entry p d ∷ []) (verdict_told New) own refl a.0 a.1 (tt, tt)
accept_effect w luck p after d Next own a = quiet_effect w luck p after (data_entry p d ∷ []) (verdict_told Next) own refl a.0 a.1 (tt, tt)
accept_effect w luck p after d Repeat own a = effect_alike p after a
accept_effect w luck p after d Gone own a = effect_alike p after a
accept_effect w luck p after d Early own a = effect_alike p after a
accept_effect w luck p after d (NotHere n) own a = effect_alike p after a
accept_effect w luck p after d AckNew own a = effect_alike p after a
accept_effect w luck p after d AckOld own a = effect_alike p after a

deliver_effect : (w : World) (luck : Luck) (p : Part) (d : Data) (v : Verdict) → part w p.who ≡ p → Effect p (deliver_data luck p d v).part (failing w (deliver_data luck p d v).answer) (deliver_data luck p d v).added
deliver_effect w luck p d v own = by_owes (owes v)
  where
    by_owes : (c : Bool) → Effect p (accept_data luck p (cond c (record p { owed = set_owed p.owed (receiver d) d.header.from }) p) d v).part
        (failing w (accept_data luck p (cond c (record p { owed = set_owed p.owed (receiver d) d.header.from }) p) d v).answer) (accept_data luck p (cond c (record p { owed = set_owed p.owed (receiver d) d.header.from }) p) d v).added
    by_owes true = accept_effect w luck p (record p { owed = set_owed p.owed (receiver d) d.header.from }) d v own (refl, refl)
    by_owes false = accept_effect w luck p p d v own (refl, refl)

ack_effect : (w : World) (luck : Luck) (p : Part) (k : Ack) (v : Verdict) → part w p.who ≡ p → Effect p (deliver_ack luck p k v).part (failing w (deliver_ack luck p k v).answer) (deliver_ack luck p k v).added
ack_effect w luck p k AckNew own = quiet_effect w luck p p (Acked k.side k.upto k.closed ∷ []) (verdict_told AckNew) own refl refl refl (tt, tt)
ack_effect w luck p k AckOld own = effect_stays p
ack_effect w luck p k New own = effect_stays p
ack_effect w luck p k Next own = effect_stays p
ack_effect w luck p k Repeat own = effect_stays p
ack_effect w luck p k Gone own = effect_stays p
ack_effect w luck p k Early own = effect_stays p
ack_effect w luck p k (NotHere n) own = effect_stays p

arrive_effect : (w : World) (luck : Luck) (p : Part) (f : Frame) → part w p.who ≡ p → Effect p (arrive luck p f).part (failing w (arrive luck p f).answer) (arrive luck p f).added
arrive_effect w luck p f own = by_up p.up
  where
    by_frame : (g : Frame) → Effect p (deliver_frame luck p g).part (failing w (deliver_frame luck p g).answer) (deliver_frame luck p g).added
    by_frame (frame.Data d) = deliver_effect w luck p d (verdict p.who p.log d) own
    by_frame (frame.Ack k) = ack_effect w luck p k (ack_verdict p.who p.log k) own

    by_up : (c : Bool) → (let d : Done = cond c (deliver_frame luck p f) (refused p (refusal.Down p.who)) in Effect p d.part (failing w d.answer) d.added)
    by_up true = by_frame f
    by_up false = effect_stays p

fired_effect : (w : World) (luck : Luck) (p : Part) (s : SideId) (k : DueKind) → part w p.who ≡ p →
    Effect p (append luck p (fired_entry s k ∷ []) answer.Fired p).part (failing w (append luck p (fired_entry s k ∷ []) answer.Fired p).answer) (append luck p (fired_entry s k ∷ []) answer.Fired p).added
fired_effect w luck p s due_kind.Timer own = quiet_effect w luck p p (fired_entry s due_kind.Timer ∷ []) answer.Fired own refl refl refl (tt, tt)
fired_effect w luck p s due_kind.Lifetime own = quiet_effect w luck p p (fired_entry s due_kind.Lifetime ∷ []) answer.Fired own refl refl refl (tt, tt)

-- ---- one step

module _ (w : World) (h : WorldOk w) (roomy : IsRoomy w) where
  abbrev Fine : Actor → Event → Stepped → Type 0
  Fine who e r = Moves w r (acts w who e r.answer ++ failure_ends w (disk_failed_at r.answer)) ⊎ Reopens w r (acts w who e r.answer ++ failure_ends w (disk_failed_at r.answer))

  own : (x : Who) → part w (part w x).who ≡ part w x
  own x = ap (part w) (h.who x)

  -- an instance of this world, or of one that differs in the wire
  on_moves : (v : World) → ((y : Who) → part v y ≡ part w y) → (x : Who) (d : Done) (done : List Act) → Effect (part w x) d.part done d.added → Moves w (on_part v x d) done
  on_moves v same x d done e = record {
    x = x;
    effect = subst (λ q. Effect (part w x) q done d.added) (sym (part_set v x d.part)) e;
    others = λ y f. let is : part (with_part v x d.part) y ≡ part w y = part_other v x y d.part f ∙ same y in (ap (λ q. q.open_txns) is, ap (λ q. q.doubt) is);
    on = inr refl;
  }

  told_moves : (v : World) (a : Answer) → ((y : Who) → Alike (part w y) (part v y)) → Moves w (told v a) []
  told_moves v a alike = record { x = A; effect = effect_alike (part w A) (part v A) (alike A); others = λ y f. alike y; on = inl refl }

  stays_moves : (a : Answer) → Moves w (told w a) []
  stays_moves a = told_moves w a (λ y. (refl, refl))

  down_moves : (x : Who) → Moves w (on_part w x (refused (part w x) (refusal.Down x))) []
  down_moves x = on_moves w (λ y. refl) x (refused (part w x) (refusal.Down x)) [] (effect_stays (part w x))

  none_is : {P : Type 0} (r : Stepped) → None ≡ Some r → P
  none_is r e = cc

  some_is : (who : Actor) (e : Event) (s r : Stepped) → Some s ≡ Some r → Fine who e s → Fine who e r
  some_is who e s r f m = subst (Fine who e) (same_Some s r f) m

  if_is : (who : Actor) (e : Event) (c : Bool) (s r : Stepped) → cond c (Some s) None ≡ Some r → Fine who e s → Fine who e r
  if_is who e true s r f m = some_is who e s r f m
  if_is who e false s r f m = none_is r f

  session_moves : (s : Session) (luck : Luck) (req : Request) → Fine (actor.Session s) (event.Asked req) (on_part w s.instance (session_step luck (part w s.instance) s.number w.moment req))
  session_moves s luck req = inl (on_moves w (λ y. refl) s.instance (session_step luck (part w s.instance) s.number w.moment req) _ (by_up (part w s.instance).up refl))
    where
      p : Part
      p = part w s.instance

      by_up : (c : Bool) → (part w s.instance).up ≡ c → (let d : Done = cond c (session_request luck (part w s.instance) s.number w.moment req) (refused (part w s.instance) (refusal.Down (part w s.instance).who)) in
          Effect (part w s.instance) d.part (session_acts w (part w s.instance) req d.answer (session_open (part w s.instance) s.number) ++ failing w d.answer) d.added)
      by_up true e = session_effect w (part w s.instance) (own s.instance) (h.each s.instance) (roomy.room s.instance) e luck s.number req
      by_up false e = subst (λ l. Effect (part w s.instance) (part w s.instance) (l ++ []) []) (sym (session_quiet w (part w s.instance) req (answer.Refused (refusal.Down (part w s.instance).who) None) (session_open (part w s.instance) s.number) refl refl))
          (effect_stays (part w s.instance))

  reader_moves : (x : Who) (n : ℕ) (luck : Luck) (req : Request) (r : Stepped) → option_map (on_part w x) (reader_step luck (part w x) n w.moment req) ≡ Some r → Fine (actor.Reader x n) (event.Asked req) r
  reader_moves x n luck req r e = by_open (runnable (part w x) n) refl e
    where
      by_open : (o : Option OpenTransaction) → runnable (part w x) n ≡ o → option_map (on_part w x) (option_map (λ z. reader_request luck (part w x) z w.moment req) o) ≡ Some r → Fine (actor.Reader x n) (event.Asked req) r
      by_open None f g = none_is r g
      by_open (Some o) f g =
          let found : reader_open (part w x) n ≡ Some o = runnable_open (part w x) n o f in
          some_is (actor.Reader x n) (event.Asked req) (on_part w x (reader_request luck (part w x) o w.moment req)) r g
          (inl (on_moves w (λ y. refl) x (reader_request luck (part w x) o w.moment req) _
          (subst (λ k. Effect (part w x) (reader_request luck (part w x) o w.moment req).part (reader_acts w (part w x) req (reader_request luck (part w x) o w.moment req).answer k ++ failing w (reader_request luck (part w x) o w.moment req).answer) (reader_request luck (part w x) o w.moment req).added)
          (sym found) (reader_effect w (part w x) (own x) (h.each x) (roomy.room x) (open_is_up (part w x) (h.each x) _ o found) _ o found luck req))))

  words_moves : (x : Who) (n : ℕ) (luck : Luck) (k : Refusal) (ev : Event) (r : Stepped) → ((given : Answer) → acts w (actor.Reader x n) ev given ≡ reader_acts w (part w x) request.Rollback given (reader_open (part w x) n)) →
      reader_words luck w x n k ≡ Some r → Fine (actor.Reader x n) ev r
  words_moves x n luck k ev r acts_are e = by_words (is_of_reader_words k) e
    where
      by_told : (o : OpenTransaction) (z : Option Done) → runnable (part w x) n ≡ Some o → words_told k (refused_reader luck (part w x) o k) ≡ z → option_map (on_part w x) z ≡ Some r → Fine (actor.Reader x n) ev r
      by_told o None f i g = none_is r g
      by_told o (Some d) f i g =
          let found : reader_open (part w x) n ≡ Some o = runnable_open (part w x) n o f in
          some_is (actor.Reader x n) ev (on_part w x d) r g
          (inl (on_moves w (λ y. refl) x d _ (subst (λ l. Effect (part w x) d.part (l ++ failing w d.answer) d.added) (sym (acts_are d.answer ∙ ap (reader_acts w (part w x) request.Rollback d.answer) found))
          (words_effect w (part w x) (own x) (h.each x) (roomy.room x) (open_is_up (part w x) (h.each x) _ o found) _ o found luck k d i))))

      by_open : (o : Option OpenTransaction) → runnable (part w x) n ≡ o → option_map (on_part w x) (option_and_then (λ z. words_told k (refused_reader luck (part w x) z k)) o) ≡ Some r → Fine (actor.Reader x n) ev r
      by_open None f g = none_is r g
      by_open (Some o) f g = by_told o (words_told k (refused_reader luck (part w x) o k)) f refl g

      by_words : (c : Bool) → cond c (option_map (on_part w x) (option_and_then (λ z. words_told k (refused_reader luck (part w x) z k)) (runnable (part w x) n))) None ≡ Some r → Fine (actor.Reader x n) ev r
      by_words true f = by_open (runnable (part w x) n) refl f
      by_words false f = none_is r f

  start_moves : (x : Who) (n : ℕ) (q : Bytes) (g : Handle) (r : Stepped) → option_map (on_part w x) (start_step (part w x) q g) ≡ Some r → Fine (actor.Reader x n) (event.Start q g) r
  start_moves x n q g r e = by_done (start_step (part w x) q g) refl e
    where
      is_up : (d : Done) → start_step (part w x) q g ≡ Some d → (part w x).up ≡ true
      is_up d f = by_up (part w x).up refl f
        where
          by_up : (c : Bool) → (part w x).up ≡ c → option_and_then (λ def. cond (same_name def.name q && option_eq same_id (option_map (λ k. k.group) (start_pick (part w x) def)) (Some g)) (Some (started_on (part w x) q g)) None)
              (cond c (find (may_start_on (part w x)) (queues (part w x).log)) None) ≡ Some d → (part w x).up ≡ true
          by_up true i k = i
          by_up false i k = absurd (none k)
            where
              none : None ≡ Some d → ⊥
              none j = cc

      by_done : (o : Option Done) → start_step (part w x) q g ≡ o → option_map (on_part w x) o ≡ Some r → Fine (actor.Reader x n) (event.Start q g) r
      by_done None f i = none_is r i
      by_done (Some d) f i = some_is (actor.Reader x n) (event.Start q g) (on_part w x d) r i
          (inl (on_moves w (λ y. refl) x d _ (start_effect w (part w x) (own x) (h.each x) (roomy.room x) (is_up d f) q g d f)))

  -- ---- the world's events, which have no acts but the ends at a failure

  abbrev Quiet : Stepped → Type 0
  Quiet r = Moves w r (failure_ends w (disk_failed_at r.answer))

  pump_moves : (x : Who) → Quiet (pump w x)
  pump_moves x = by_up (part w x).up
    where
      alike : (v : Who) → (y : Who) → Alike (part w y) (part (record (with_part w v (record (part w v) { owed = [] })) { wire = w.wire ++ map (put x) (frames_due x (part w x).log (part w x).owed) }) y)
      alike A A = (refl, refl)
      alike A B = (refl, refl)
      alike B A = (refl, refl)
      alike B B = (refl, refl)

      sent_moves : Moves w (record {
        answer = answer.Pumped (lines_from (length w.wire + 1) (frames_due x (part w x).log (part w x).owed));
        on = x;
        added = [];
        world = record (with_part w x (record (part w x) { owed = [] })) { wire = w.wire ++ map (put x) (frames_due x (part w x).log (part w x).owed) };
      }) []
      sent_moves = record { x = A; effect = effect_alike (part w A) _ (alike x A); others = λ y f. alike x y; on = inl refl }

      by_room : (c : Bool) → (let s : Stepped = cond c (told w (answer.Barred (barred.WireFull (wire_size w.wire + sent_size (frames_due x (part w x).log (part w x).owed)))))
          (record {
            answer = answer.Pumped (lines_from (length w.wire + 1) (frames_due x (part w x).log (part w x).owed));
            on = x;
            added = [];
            world = record (with_part w x (record (part w x) { owed = [] })) { wire = w.wire ++ map (put x) (frames_due x (part w x).log (part w x).owed) };
          }) in Quiet s)
      by_room true = stays_moves _
      by_room false = sent_moves

      by_up : (c : Bool) → (let s : Stepped = cond c (pumped w x (frames_due x (part w x).log (part w x).owed)) (on_part w x (refused (part w x) (refusal.Down x))) in Quiet s)
      by_up true = by_room (nat_lt 268435456 (wire_size w.wire + sent_size (frames_due x (part w x).log (part w x).owed)))
      by_up false = down_moves x

  wire_same : (wire : List Wired) (y : Who) → part (record w { wire = wire }) y ≡ part w y
  wire_same wire A = refl
  wire_same wire B = refl

  deliver_moves : (luck : Luck) (k : ℕ) (o : Option Wired) → Quiet (deliver_wired luck w k o)
  deliver_moves luck k None = stays_moves _
  deliver_moves luck k (Some f) = subst (λ q. Quiet (on_part (record w { wire = no_longer_waits k w.wire }) f.to (arrive luck q f.frame))) (sym (wire_same (no_longer_waits k w.wire) f.to))
      (on_moves (record w { wire = no_longer_waits k w.wire }) (wire_same (no_longer_waits k w.wire)) f.to (arrive luck (part w f.to) f.frame) _ (arrive_effect w luck (part w f.to) f.frame (own f.to)))

  lose_moves : (k : ℕ) (o : Option Wired) → Quiet (lose_wired w k o)
  lose_moves k None = stays_moves _
  lose_moves k (Some f) = told_moves (record w { wire = no_longer_waits k w.wire }) answer.Done (λ y. let is = wire_same (no_longer_waits k w.wire) y in (ap (λ q. q.open_txns) is, ap (λ q. q.doubt) is))

  moment_moves : (m : ℕ) (a : Answer) → Moves w (told (record w { moment = m }) a) []
  moment_moves m a = told_moves (record w { moment = m }) a alike
    where
      alike : (y : Who) → Alike (part w y) (part (record w { moment = m }) y)
      alike A = (refl, refl)
      alike B = (refl, refl)

  inject_moves : (luck : Luck) (x : Who) (bytes : Bytes) (o : Option Wired) → Quiet (inject luck w x bytes o)
  inject_moves luck x bytes (Some g) = on_moves w (λ y. refl) x (arrive luck (part w x) g.frame) _ (arrive_effect w luck (part w x) g.frame (own x))
  inject_moves luck x bytes None = by_result (decode_frame bytes)
    where
      by_up : (at : ℕ) (c : Bool) → (let s : Stepped = cond c (told w (answer.Arrived (arrived.BadFrame at))) (on_part w x (refused (part w x) (refusal.Down x))) in Quiet s)
      by_up at true = stays_moves _
      by_up at false = down_moves x

      by_result : (z : Result Frame ℕ) → Quiet (inject_other w x z)
      by_result (Ok f) = stays_moves _
      by_result (Err at) = by_up at (part w x).up

  hand_over_moves : (luck : Luck) (s : SideId) (n : ℕ) (r : Stepped) → hand_over luck w s n ≡ Some r → Quiet r
  hand_over_moves luck s n r e = by_up w.a.up e
    where
      by_data : (o : Option Data) → option_map (λ d. on_part w A (accept_data luck w.a w.a d (verdict A w.a.log d))) o ≡ Some r → Quiet r
      by_data None f = none_is r f
      by_data (Some d) f = subst Quiet (same_Some _ r f) (on_moves w (λ y. refl) A (accept_data luck w.a w.a d (verdict A w.a.log d)) _ (accept_effect w luck w.a w.a d (verdict A w.a.log d) (own A) (refl, refl)))

      by_up : (c : Bool) → cond c (option_map (λ d. on_part w A (accept_data luck w.a w.a d (verdict A w.a.log d))) (to_hand_over w.a s n)) None ≡ Some r → Quiet r
      by_up true f = by_data (to_hand_over w.a s n) f
      by_up false f = none_is r f

  fire_moves : (x : Who) (luck : Luck) (moment : ℕ) (handle : Handle) (kind : DueKind) (r : Stepped) → option_map (on_part w x) (fire luck (part w x) moment handle kind) ≡ Some r → Quiet r
  fire_moves x luck moment handle kind r e = by_due (cond (part w x).up (first_due (due (part w x).log moment)) None) e
    where
      by_test : (d : Due) (c : Bool) → option_map (on_part w x) (cond c (Some (append luck (part w x) (fired_entry d.side d.kind ∷ []) answer.Fired (part w x))) None) ≡ Some r → Quiet r
      by_test d true f = subst Quiet (same_Some _ r f) (on_moves w (λ y. refl) x (append luck (part w x) (fired_entry d.side d.kind ∷ []) answer.Fired (part w x)) _ (fired_effect w luck (part w x) d.side d.kind (own x)))
      by_test d false f = none_is r f

      by_due : (o : Option Due) → option_map (on_part w x) (option_and_then (λ d. cond (same_kind d.kind kind && option_eq same_side (side_of (part w x).log handle) (Some d.side))
          (Some (append luck (part w x) (fired_entry d.side d.kind ∷ []) answer.Fired (part w x))) None) o) ≡ Some r → Quiet r
      by_due None f = none_is r f
      by_due (Some d) f = by_test d (same_kind d.kind kind && option_eq same_side (side_of (part w x).log handle) (Some d.side)) f

  crash_moves : (x : Who) → Moves w (told (with_part w x (down_with (part w x) (part w x).doubt)) answer.Done) (all_end (part w x) ++ [])
  crash_moves x = record {
    x = x;
    effect = subst (λ q. Effect (part w x) q (all_end (part w x) ++ []) []) (sym (part_set w x (down_with (part w x) (part w x).doubt)))
        (subst (λ l. Effect (part w x) (down_with (part w x) (part w x).doubt) l []) (sym (append-nil (all_end (part w x)))) (by_up (part w x).up refl));
    others = λ y f. let is : part (with_part w x (down_with (part w x) (part w x).doubt)) y ≡ part w y = part_other w x y _ f in (ap (λ q. q.open_txns) is, ap (λ q. q.doubt) is);
    on = inl refl;
  }
    where
      by_up : (c : Bool) → (part w x).up ≡ c → Effect (part w x) (down_with (part w x) (part w x).doubt) (all_end (part w x)) []
      by_up true e = effect_falls (part w x) (part w x).doubt (subst (AllByRecursion IsNoTxn) (sym ((h.each x).quiet e)) tt)
      by_up false e =
          let none : (part w x).open_txns ≡ [] = (h.each x).down e in
          subst (λ l. Effect (part w x) (down_with (part w x) (part w x).doubt) l []) (sym (ap (ends_of (part w x).who) none)) (effect_alike (part w x) (down_with (part w x) (part w x).doubt) (sym none, refl))

  -- ---- an opening

  open_moves : (x : Who) (n : ℕ) (r : Stepped) → (part w x).up ≡ false → open_with w x n ≡ Some r → Reopens w r []
  open_moves x n r down e = by_least (nat_le (length (part w x).log) n) refl e
    where
      longer : nat_le (length (part w x).log) n ≡ true → length (part w x).log ≤ n
      longer f = grind (arith, nat_tests)

      reopened : length (part w x).log ≤ n → Reopens w (record {
        answer = answer.Entries n;
        on = x;
        added = drop (length (part w x).log) (take n ((part w x).log ++ (part w x).doubt));
        world = with_part w x (opened x (take n ((part w x).log ++ (part w x).doubt)) (Some (end_of (take n ((part w x).log ++ (part w x).doubt)))));
      }) []
      reopened le = record {
        x = x;
        none = refl;
        on = refl;
        from_doubt = (n - length (part w x).log, dropped (part w x).log (part w x).doubt n le);
        closed = (h.each x).down down;
        opens = ap (λ q. q.open_txns) (part_set w x (opened x (take n ((part w x).log ++ (part w x).doubt)) (Some (end_of (take n ((part w x).log ++ (part w x).doubt))))));
        doubt = ap (λ q. q.doubt) (part_set w x (opened x (take n ((part w x).log ++ (part w x).doubt)) (Some (end_of (take n ((part w x).log ++ (part w x).doubt))))));
        others = λ y f. let is : part (with_part w x (opened x (take n ((part w x).log ++ (part w x).doubt)) (Some (end_of (take n ((part w x).log ++ (part w x).doubt)))))) y ≡ part w y = part_other w x y _ f in (ap (λ q. q.open_txns) is, ap (λ q. q.doubt) is);
      }
        where
          dropped : (xs ys : List Entry) (m : ℕ) → length xs ≤ m → drop (length xs) (take m (xs ++ ys)) ≡ take (m - length xs) ys
          dropped [] ys m l = ap (λ k. take k ys) (same m)
            where
              same : (k : ℕ) → k ≡ k - 0
              same k = omega arith
          dropped (z ∷ xs) ys zero l = absurd (omega (arith, l))
          dropped (z ∷ xs) ys (suc m) l = dropped xs ys m (omega (arith, l)) ∙ ap (λ k. take k ys) (same m (length xs))
            where
              same : (j k : ℕ) → j - k ≡ suc j - suc k
              same j k = omega arith

      by_most : (d : Bool) → length (part w x).log ≤ n → cond d (Some (record {
        answer = answer.Entries n;
        on = x;
        added = drop (length (part w x).log) (take n ((part w x).log ++ (part w x).doubt));
        world = with_part w x (opened x (take n ((part w x).log ++ (part w x).doubt)) (Some (end_of (take n ((part w x).log ++ (part w x).doubt)))));
      })) None ≡ Some r → Reopens w r []
      by_most true le f = subst (λ s. Reopens w s []) (same_Some _ r f) (reopened le)
      by_most false le f = none_is r f

      by_least : (c : Bool) → nat_le (length (part w x).log) n ≡ c → cond (c && nat_le n (length ((part w x).log ++ (part w x).doubt))) (Some (record {
        answer = answer.Entries n;
        on = x;
        added = drop (length (part w x).log) (take n ((part w x).log ++ (part w x).doubt));
        world = with_part w x (opened x (take n ((part w x).log ++ (part w x).doubt)) (Some (end_of (take n ((part w x).log ++ (part w x).doubt)))));
      })) None ≡ Some r → Reopens w r []
      by_least true g f = by_most (nat_le n (length ((part w x).log ++ (part w x).doubt))) (longer g) f
      by_least false g f = none_is r f

  opening_moves : (x : Who) (given : Answer) (r : Stepped) → open_step w x given ≡ Some r → Moves w r (failure_ends w (disk_failed_at r.answer)) ⊎ Reopens w r (failure_ends w (disk_failed_at r.answer))
  opening_moves x (answer.Entries n) r e = by_up (part w x).up refl e
    where
      if_told : (c : Bool) (a z : Stepped) → cond c (Some a) None ≡ Some z → failure_ends w (disk_failed_at a.answer) ≡ [] → failure_ends w (disk_failed_at z.answer) ≡ []
      if_told true a z f g = subst (λ k. failure_ends w (disk_failed_at k.answer) ≡ []) (same_Some a z f) g
      if_told false a z f g = none_is z f

      told_is : (z : Stepped) → open_with w x n ≡ Some z → failure_ends w (disk_failed_at z.answer) ≡ []
      told_is z f = if_told (nat_le (length (part w x).log) n && nat_le n (length ((part w x).log ++ (part w x).doubt))) (record {
        answer = answer.Entries n;
        on = x;
        added = drop (length (part w x).log) (take n ((part w x).log ++ (part w x).doubt));
        world = with_part w x (opened x (take n ((part w x).log ++ (part w x).doubt)) (Some (end_of (take n ((part w x).log ++ (part w x).doubt)))));
      }) z f refl

      by_up : (c : Bool) → (part w x).up ≡ c → cond c None (open_with w x n) ≡ Some r → Moves w r (failure_ends w (disk_failed_at r.answer)) ⊎ Reopens w r (failure_ends w (disk_failed_at r.answer))
      by_up true f g = none_is r g
      by_up false f g = inr (subst (Reopens w r) (sym (told_is r g)) (open_moves x n r f g))
  opening_moves x answer.OpenFailed r e = by_up (part w x).up e
    where
      by_up : (c : Bool) → cond c None (Some (told w answer.OpenFailed)) ≡ Some r → Quiet r ⊎ Reopens w r (failure_ends w (disk_failed_at r.answer))
      by_up true f = none_is r f
      by_up false f = inl (subst Quiet (same_Some _ r f) (stays_moves answer.OpenFailed))
  opening_moves x (answer.OpenRefused at) r e = by_up (part w x).up e
    where
      by_up : (c : Bool) → cond c None (Some (told w (answer.OpenRefused at))) ≡ Some r → Quiet r ⊎ Reopens w r (failure_ends w (disk_failed_at r.answer))
      by_up true f = none_is r f
      by_up false f = inl (subst Quiet (same_Some _ r f) (stays_moves (answer.OpenRefused at)))
  opening_moves x given r e = by_up (part w x).up e
    where
      by_up : (c : Bool) → cond c (Some (told w (answer.Barred (barred.Up x)))) None ≡ Some r → Quiet r ⊎ Reopens w r (failure_ends w (disk_failed_at r.answer))
      by_up true f = inl (subst Quiet (same_Some _ r f) (stays_moves (answer.Barred (barred.Up x))))
      by_up false f = none_is r f

  quiet_some : (s r : Stepped) → Some s ≡ Some r → Quiet s → Quiet r
  quiet_some s r f m = subst Quiet (same_Some s r f) m

  quiet_if : (c : Bool) (s r : Stepped) → cond c (Some s) None ≡ Some r → Quiet s → Quiet r
  quiet_if true s r f m = quiet_some s r f m
  quiet_if false s r f m = none_is r f

  serve_moves : (ss : List Session) (r : Stepped) → serve w ss ≡ Some r → Quiet r
  serve_moves [] r e = quiet_if (is_settled w) (told w answer.Settled) r e (stays_moves answer.Settled)
  serve_moves (s ∷ ss) r e = quiet_some (told w (answer.Barred (barred.OpenSessions s))) r e (stays_moves _)

  clock_moves : (m : ℕ) (c : Bool) (r : Stepped) → cond c (Some (told w (answer.Barred (barred.ClockBack w.moment)))) (Some (told (record w { moment = m }) (answer.Moment m))) ≡ Some r → Quiet r
  clock_moves m true r e = quiet_some (told w (answer.Barred (barred.ClockBack w.moment))) r e (stays_moves _)
  clock_moves m false r e = quiet_some (told (record w { moment = m }) (answer.Moment m)) r e (moment_moves m _)

  dump_moves : (x : Who) (c : Bool) (r : Stepped) → Some (cond c (told w (answer.Dumped (dump (part w x).log))) (on_part w x (refused (part w x) (refusal.Down x)))) ≡ Some r → Quiet r
  dump_moves x true r e = quiet_some (told w (answer.Dumped (dump (part w x).log))) r e (stays_moves _)
  dump_moves x false r e = quiet_some (on_part w x (refused (part w x) (refusal.Down x))) r e (down_moves x)

  of_words : (k : Refusal) → is_of_words k ≡ true → is_disk k ≡ false
  of_words (refusal.DiskFailed x) e = clash (sym e)
  of_words k e = refl

  session_words_moves : (x : Who) (k : Refusal) (r : Stepped) → session_words w x k ≡ Some r → Quiet r
  session_words_moves x k r e = by_test (is_of_words k) refl e
    where
      by_test : (c : Bool) → is_of_words k ≡ c → cond c (Some (on_part w x (refused (part w x) k))) None ≡ Some r → Quiet r
      by_test true f g = quiet_some (on_part w x (refused (part w x) k)) r g
          (subst (λ l. Moves w (on_part w x (refused (part w x) k)) l) (sym (failing_none w k None (of_words k f))) (on_moves w (λ y. refl) x (refused (part w x) k) [] (effect_stays (part w x))))
      by_test false f g = none_is r g

  of_not_yet : (k : Refusal) → is_not_yet k ≡ true → is_disk k ≡ false
  of_not_yet (refusal.DiskFailed x) e = clash (sym e)
  of_not_yet k e = refl

  world_words_moves : (k : Refusal) (r : Stepped) → world_words w k ≡ Some r → Quiet r
  world_words_moves k r e = by_test (is_not_yet k) refl e
    where
      by_test : (c : Bool) → is_not_yet k ≡ c → cond c (Some (told w (answer.Refused k None))) None ≡ Some r → Quiet r
      by_test true f g = quiet_some (told w (answer.Refused k None)) r g
          (subst (λ l. Moves w (told w (answer.Refused k None)) l) (sym (failing_none w k None (of_not_yet k f))) (stays_moves (answer.Refused k None)))
      by_test false f g = none_is r g

  pub step_moves : (who : Actor) (e : Event) (given : Answer) (r : Stepped) → step w who e given ≡ Some r → Fine who e r
  step_moves (actor.Session s) (event.Asked req) given r f = some_is (actor.Session s) (event.Asked req) _ r f (session_moves s (luck_of given) req)
  step_moves (actor.Reader x n) (event.Asked req) given r f = reader_moves x n (luck_of given) req r f
  step_moves (actor.Session s) (event.Words words) (answer.Refused k back) r f = inl (session_words_moves s.instance k r f)
  step_moves (actor.Reader x n) (event.Words words) (answer.Refused k back) r f = words_moves x n (failed k) k (event.Words words) r (λ given. refl) f
  step_moves (actor.Reader x n) (event.Start q g) given r f = start_moves x n q g r f
  step_moves actor.World (event.Words words) (answer.Refused k back) r f = inl (world_words_moves k r f)
  step_moves actor.World (event.Pump x) given r f = inl (quiet_some (pump w x) r f (pump_moves x))
  step_moves actor.World (event.Deliver k to) given r f = inl (quiet_if (option_eq same_who to (option_map (λ z. z.to) (wired w.wire k))) (deliver_wired (luck_of given) w k (wired w.wire k)) r f (deliver_moves (luck_of given) k (wired w.wire k)))
  step_moves actor.World (event.HandOver s n) given r f = inl (hand_over_moves (luck_of given) s n r f)
  step_moves actor.World (event.Lose k) given r f = inl (quiet_some (lose_wired w k (wired w.wire k)) r f (lose_moves k (wired w.wire k)))
  step_moves actor.World (event.Tick n) given r f = inl (quiet_some (told (record w { moment = w.moment + n }) (answer.Moment (w.moment + n))) r f (moment_moves (w.moment + n) _))
  step_moves actor.World (event.Clock m) given r f = inl (clock_moves m (nat_lt m w.moment) r f)
  step_moves actor.World (event.Timer x handle) given r f = inl (fire_moves x (luck_of given) w.moment handle due_kind.Timer r f)
  step_moves actor.World (event.Lifetime x handle) given r f = inl (fire_moves x (luck_of given) w.moment handle due_kind.Lifetime r f)
  step_moves actor.World (event.Fuse x calls) given r f = inl (quiet_some (told w answer.Done) r f (stays_moves answer.Done))
  step_moves actor.World (event.Crash x pick) given r f = some_is actor.World (event.Crash x pick) (told (with_part w x (down_with (part w x) (part w x).doubt)) answer.Done) r f (inl (crash_moves x))
  step_moves actor.World (event.Open x) given r f = opening_moves x given r f
  step_moves actor.World event.Serve given r f = inl (serve_moves (sessions_open A w.a ++ sessions_open B w.b) r f)
  step_moves actor.World (event.Inject x bytes) given r f = inl (quiet_some (inject (luck_of given) w x bytes (spelled_on w.wire bytes)) r f (inject_moves (luck_of given) x bytes (spelled_on w.wire bytes)))
  step_moves actor.World (event.Dump x) given r f = inl (dump_moves x (part w x).up r f)
  step_moves who e given r f = none_is r f
