-- Along every legal history the count of an instance that is up is the one that the history shows.
use Rattle.std.proofs.Common.{◌≡◌, ℕ, Bool, true, false, List, [], ◌∷◌, ◌++◌, ◌+◌, ◌^◌, ◌≤◌, Option, Some, None, Result, Ok, Err, refl, sym, ◌∙◌, ap, subst, length, cond, inl, inr, map, take, drop}
use Rattle.std.specs.Prelude.{find, ◌⊎◌, ◌&&◌, ◌||◌, option_map, option_and_then, nat_lt, nat_le}
use Rattle.std.specs.Option.{option_eq}
use Rattle.std.specs.List.{list_any}
use Rattle.std.proofs.lemmas.Option.{same_Some}
use Rattle.sb_log.specs.declared.identifiers.Handle.{Handle}
use Rattle.sb_log.specs.declared.identifiers.Session.{Session}
use Rattle.sb_log.specs.declared.identifiers.SideId.{SideId}
use Rattle.sb_log.specs.declared.identifiers.Who.{Who}
use Rattle.sb_log.specs.declared.identifiers.Who.TheVariants.{A, B}
use Rattle.sb_log.specs.declared.identifiers.Actor.{Actor}
use Rattle.sb_log.specs.declared.identifiers.Actor.TheVariants as actor
use Rattle.sb_log.specs.declared.definitions.QueueDef.{QueueDef}
use Rattle.sb_log.specs.declared.entries.Entry.{Entry}
use Rattle.sb_log.specs.declared.messages.Data.{Data}
use Rattle.sb_log.specs.declared.messages.Frame.{Frame}
use Rattle.sb_log.specs.declared.refusals.Refusal.{Refusal}
use Rattle.sb_log.specs.declared.refusals.Refusal.TheVariants as refusal
use Rattle.sb_log.specs.declared.requests.Request.{Request}
use Rattle.sb_log.specs.declared.steps.Answer.{Answer}
use Rattle.sb_log.specs.declared.steps.Answer.TheVariants as answer
use Rattle.sb_log.specs.declared.steps.Arrived.TheVariants as arrived
use Rattle.sb_log.specs.declared.steps.Barred.TheVariants as barred
use Rattle.sb_log.specs.declared.steps.DueKind.{DueKind}
use Rattle.sb_log.specs.declared.steps.DueKind.TheVariants as due_kind
use Rattle.sb_log.specs.declared.steps.Event.{Event}
use Rattle.sb_log.specs.declared.steps.Event.TheVariants as event
use Rattle.sb_log.specs.declared.steps.Step.{Step}
use Rattle.sb_model.specs.Sides.{Bytes, same_side, same_who, same_id, same_name, side_of}
use Rattle.sb_model.specs.Catalog.{queues}
use Rattle.sb_model.specs.Deadlines.{Due, due}
use Rattle.sb_model.specs.Acceptance.{verdict}
use Rattle.sb_model.specs.Frames.{frames_due}
use Rattle.sb_model.specs.FrameReading.{decode_frame}
use Rattle.sb_model.specs.Dump.{dump}
use Rattle.sb_model.specs.Transactions.{OpenTransaction}
use Rattle.sb_model.specs.Instance.{Part, Luck, Done, append, opened, down_with, end_of, refused}
use Rattle.sb_model.specs.Rollbacks.{count_of}
use Rattle.sb_model.specs.Poison.{instance_of, rolls_back, added_to, ends_count, opens, fifth_begins_anew, one_more, count_after_step, rollbacks_after, rollbacks_in_a_row}
use Rattle.sb_model.specs.Statements.{session_request, session_step, reader_request, reader_step, reader_open, runnable, refused_reader, start_pick, started_on, start_step, may_start_on}
use Rattle.sb_model.specs.Wire.{Wired, wired, no_longer_waits, spelled_on, put, lines_from, wire_size, sent_size}
use Rattle.sb_model.specs.Steps.{World, Stepped, part, with_part, on_part, told, deliver_wired, deliver_frame, arrive, accept_data, lose_wired, inject, inject_other, pump, pumped, fire, fired_entry, first_due, same_kind, open_with, open_step, serve, sessions_open, is_settled, luck_of, failed, reader_words, words_told, is_of_words, is_not_yet, is_of_reader_words, hand_over, to_hand_over, step}
use Rattle.sb_model.specs.Histories.{Legal, Gives, outcome, world_of, next, after, first_world}
use Rattle.sb_laws.specs.Worlds.{IsRoomy, StaysFresh}
use Rattle.sb_laws.specs.Starts.{StartsLinked}
use Rattle.sb_laws.proofs.Steps.{runnable_open, open_is_up}
use Rattle.sb_laws.proofs.Worlds.{WorldOk}
use Rattle.sb_laws.proofs.Delivery.{told_is}
use Rattle.sb_laws.proofs.Acts.{who_self}
use Rattle.sb_laws.proofs.CountSteps.{CountsTo, anew, rolls, session_counts, reader_counts, reader_rolls_counts, started_counts, frame_counts, handed_counts, fired_counts}
use Rattle.sb_laws.proofs.Histories.{IsRun, run_roomy, run_next, first_run, same_is, other_way}

clash : {P : Type 0} → true ≡ false → P
clash e = cc

abbrev rolls_as : Bytes → Who → World → Actor → Answer → Bool
rolls_as q x w who given = option_eq same_who (instance_of who) (Some x) && rolls (part w x) given q

-- counts stay, and whether it is up
abbrev Unchanged : Part → Part → Type 0
Unchanged p q = (q.counts ≡ p.counts) × (q.up ≡ p.up)

-- the count after a step of an instance; `undoes` tells whether it rolled back a transaction that received from the queue
abbrev CountIs : Part → Part → List Entry → (Bytes → Bool) → Type 0
CountIs p after added undoes = (q : Bytes) → after.up ≡ true → (p.up ≡ true) ×
    (count_of after.counts q ≡ cond (list_any (ends_count q) added) 0 (cond (undoes q) (one_more (count_of p.counts q) (anew p q added)) (count_of p.counts q)))

record Tally (w : World) (who : Actor) (ev : Event) (given : Answer) (r : Stepped) : Type 0 where
  z : Who
  on : (r.added ≡ []) ⊎ (r.on ≡ z)
  counts : CountIs (part w z) (part r.world z) r.added (λ q. rolls_as q z w who given)
  others : (y : Who) → same_who y z ≡ false → Unchanged (part w y) (part r.world y)
  quiet : (y : Who) → same_who y z ≡ false → (q : Bytes) → rolls_as q y w who given ≡ false
  unopened : (y : Who) → opens y ev given ≡ false

-- an opening of an instance
record Opened (w : World) (who : Actor) (ev : Event) (given : Answer) (r : Stepped) : Type 0 where
  z : Who
  on : r.on ≡ z
  none : (q : Bytes) → count_of (part r.world z).counts q ≡ 0
  others : (y : Who) → same_who y z ≡ false → Unchanged (part w y) (part r.world y)
  quiet : (y : Who) (q : Bytes) → rolls_as q y w who given ≡ false
  openings : (y : Who) → opens y ev given ≡ same_who y z

part_set : (w : World) (x : Who) (q : Part) → part (with_part w x q) x ≡ q
part_set w A q = refl
part_set w B q = refl

part_other : (w : World) (x y : Who) (q : Part) → same_who y x ≡ false → part (with_part w x q) y ≡ part w y
part_other w A A q e = clash e
part_other w B B q e = clash e
part_other w A B q e = refl
part_other w B A q e = refl

module _ (w : World) (h : WorldOk w) (roomy : IsRoomy w) where
  none_is : {P : Type 0} (r : Stepped) → None ≡ Some r → P
  none_is r e = cc

  -- an instance's step, of a session or a reader
  actor_tally : (who : Actor) (ev : Event) (x : Who) (d : Done) → instance_of who ≡ Some x → ((y : Who) → opens y ev d.answer ≡ false) → CountsTo (part w x) d (rolls (part w x) d.answer) → Tally w who ev d.answer (on_part w x d)
  actor_tally who ev x d is closed c = record {
    z = x;
    on = inr refl;
    counts = λ q u.
        let k = c q (subst (λ p. p.up ≡ true) (part_set w x d.part) u) in (
          k.0,
          ap (λ p. count_of p.counts q) (part_set w x d.part) ∙ k.1 ∙ ap (λ b. cond (list_any (ends_count q) d.added) 0 (cond b (one_more (count_of (part w x).counts q) (anew (part w x) q d.added)) (count_of (part w x).counts q)))
              (sym (ap (λ o. option_eq same_who o (Some x) && rolls (part w x) d.answer q) is ∙ ap (λ b. b && rolls (part w x) d.answer q) (who_self x))),
        );
    others = λ y f. let same : part (with_part w x d.part) y ≡ part w y = part_other w x y d.part f in (ap (λ p. p.counts) same, ap (λ p. p.up) same);
    quiet = λ y f q. ap (λ o. option_eq same_who o (Some y) && rolls (part w y) d.answer q) is ∙ ap (λ b. b && rolls (part w y) d.answer q) (other_way y x f);
    unopened = closed;
  }

  -- one of the world's own
  world_tally : (v : World) → ((y : Who) → part v y ≡ part w y) → (ev : Event) (x : Who) (d : Done) → ((y : Who) → opens y ev d.answer ≡ false) → CountsTo (part w x) d (λ q. false) → Tally w actor.World ev d.answer (on_part v x d)
  world_tally v same ev x d closed c = record {
    z = x;
    on = inr refl;
    counts = λ q u. let k = c q (subst (λ p. p.up ≡ true) (part_set v x d.part) u) in (k.0, ap (λ p. count_of p.counts q) (part_set v x d.part) ∙ k.1);
    others = λ y f. let is : part (with_part v x d.part) y ≡ part w y = part_other v x y d.part f ∙ same y in (ap (λ p. p.counts) is, ap (λ p. p.up) is);
    quiet = λ y f q. refl;
    unopened = closed;
  }

  -- nothing is added, and both instances' counts stay where they are up
  still_tally : (who : Actor) (ev : Event) (r : Stepped) → r.added ≡ [] → ((y : Who) → (part r.world y).up ≡ true → ((part w y).up ≡ true) × ((part r.world y).counts ≡ (part w y).counts)) →
      ((y : Who) (q : Bytes) → rolls_as q y w who r.answer ≡ false) → ((y : Who) → opens y ev r.answer ≡ false) →
      (x : Who) → ((y : Who) → same_who y x ≡ false → Unchanged (part w y) (part r.world y)) → Tally w who ev r.answer r
  still_tally who ev r none kept quiet closed x others = record {
    z = x;
    on = inl none;
    counts = λ q u. let k = kept x u in (
      k.0,
      ap (λ c. count_of c q) k.1 ∙ sym (ap (λ l. cond (list_any (ends_count q) l) 0 (cond (rolls_as q x w who r.answer) (one_more (count_of (part w x).counts q) (anew (part w x) q l)) (count_of (part w x).counts q))) none
          ∙ ap (λ b. cond b (one_more (count_of (part w x).counts q) (anew (part w x) q [])) (count_of (part w x).counts q)) (quiet x q)),
    );
    others = others;
    quiet = λ y f q. quiet y q;
    unopened = closed;
  }

  -- an answer of the world that changes no instance
  told_tally : (ev : Event) (v : World) (a : Answer) → ((y : Who) → Unchanged (part w y) (part v y)) → ((y : Who) → opens y ev a ≡ false) → Tally w actor.World ev a (told v a)
  told_tally ev v a same closed = still_tally actor.World ev (told v a) refl (λ y u. (sym (same y).1 ∙ u, (same y).0)) (λ y q. refl) closed A (λ y f. same y)

  down_done : (x : Who) (r : Refusal) (undoes : Bytes → Bool) → ((q : Bytes) → undoes q ≡ false) → CountsTo (part w x) (refused (part w x) r) undoes
  down_done x r undoes quiet q u = (u, sym (ap (λ b. cond b (one_more (count_of (part w x).counts q) (anew (part w x) q [])) (count_of (part w x).counts q)) (quiet q)))

  arrive_counts : (luck : Luck) (x : Who) (f : Frame) → CountsTo (part w x) (arrive luck (part w x) f) (λ q. false)
  arrive_counts luck x f = by_up (part w x).up refl
    where
      by_up : (c : Bool) → (part w x).up ≡ c → CountsTo (part w x) (cond c (deliver_frame luck (part w x) f) (refused (part w x) (refusal.Down (part w x).who))) (λ q. false)
      by_up true e = frame_counts (part w x) (h.each x) e luck f
      by_up false e = down_done x (refusal.Down (part w x).who) (λ q. false) (λ q. refl)

  abbrev Fine : Actor → Event → Stepped → Type 0
  Fine who ev r = Tally w who ev r.answer r ⊎ Opened w who ev r.answer r

  some_is : (who : Actor) (ev : Event) (s r : Stepped) → Some s ≡ Some r → Tally w who ev s.answer s → Fine who ev r
  some_is who ev s r f m = subst (Fine who ev) (same_Some s r f) (inl m)

  if_is : (who : Actor) (ev : Event) (c : Bool) (s r : Stepped) → cond c (Some s) None ≡ Some r → Tally w who ev s.answer s → Fine who ev r
  if_is who ev true s r f m = some_is who ev s r f m
  if_is who ev false s r f m = none_is r f

  session_tally : (s : Session) (luck : Luck) (req : Request) → Tally w (actor.Session s) (event.Asked req) (session_step luck (part w s.instance) s.number w.moment req).answer (on_part w s.instance (session_step luck (part w s.instance) s.number w.moment req))
  session_tally s luck req = actor_tally (actor.Session s) (event.Asked req) s.instance (session_step luck (part w s.instance) s.number w.moment req) refl (λ y. refl) (by_up (part w s.instance).up refl)
    where
      by_up : (c : Bool) → (part w s.instance).up ≡ c → (let d : Done = cond c (session_request luck (part w s.instance) s.number w.moment req) (refused (part w s.instance) (refusal.Down (part w s.instance).who)) in CountsTo (part w s.instance) d (rolls (part w s.instance) d.answer))
      by_up true e = session_counts (part w s.instance) (h.each s.instance) e luck s.number w.moment req
      by_up false e = down_done s.instance (refusal.Down (part w s.instance).who) (rolls (part w s.instance) (answer.Refused (refusal.Down (part w s.instance).who) None)) (λ q. refl)

  reader_tally : (x : Who) (n : ℕ) (luck : Luck) (req : Request) (r : Stepped) → option_map (on_part w x) (reader_step luck (part w x) n w.moment req) ≡ Some r → Fine (actor.Reader x n) (event.Asked req) r
  reader_tally x n luck req r e = by_open (runnable (part w x) n) refl e
    where
      by_open : (o : Option OpenTransaction) → runnable (part w x) n ≡ o → option_map (on_part w x) (option_map (λ z. reader_request luck (part w x) z w.moment req) o) ≡ Some r → Fine (actor.Reader x n) (event.Asked req) r
      by_open None f g = none_is r g
      by_open (Some o) f g =
          let found : reader_open (part w x) n ≡ Some o = runnable_open (part w x) n o f in
          some_is (actor.Reader x n) (event.Asked req) (on_part w x (reader_request luck (part w x) o w.moment req)) r g
          (actor_tally (actor.Reader x n) (event.Asked req) x (reader_request luck (part w x) o w.moment req) refl (λ y. refl) (reader_counts (part w x) (h.each x) (open_is_up (part w x) (h.each x) _ o found) _ o found luck w.moment req))

  words_tally : (x : Who) (n : ℕ) (luck : Luck) (k : Refusal) (ev : Event) (r : Stepped) → ((y : Who) (a : Answer) → opens y ev a ≡ false) → reader_words luck w x n k ≡ Some r → Fine (actor.Reader x n) ev r
  words_tally x n luck k ev r closed e = by_words (is_of_reader_words k) e
    where
      by_told : (o : OpenTransaction) (z : Option Done) → runnable (part w x) n ≡ Some o → words_told k (refused_reader luck (part w x) o k) ≡ z → option_map (on_part w x) z ≡ Some r → Fine (actor.Reader x n) ev r
      by_told o None f i g = none_is r g
      by_told o (Some d) f i g =
          let found : reader_open (part w x) n ≡ Some o = runnable_open (part w x) n o f in
          some_is (actor.Reader x n) ev (on_part w x d) r g (actor_tally (actor.Reader x n) ev x d refl (λ y. closed y d.answer)
          (subst (λ z. CountsTo (part w x) z (rolls (part w x) z.answer)) (told_is k (refused_reader luck (part w x) o k) d i) (reader_rolls_counts (part w x) (h.each x) (open_is_up (part w x) (h.each x) _ o found) _ o found luck k)))

      by_open : (o : Option OpenTransaction) → runnable (part w x) n ≡ o → option_map (on_part w x) (option_and_then (λ z. words_told k (refused_reader luck (part w x) z k)) o) ≡ Some r → Fine (actor.Reader x n) ev r
      by_open None f g = none_is r g
      by_open (Some o) f g = by_told o (words_told k (refused_reader luck (part w x) o k)) f refl g

      by_words : (c : Bool) → cond c (option_map (on_part w x) (option_and_then (λ z. words_told k (refused_reader luck (part w x) z k)) (runnable (part w x) n))) None ≡ Some r → Fine (actor.Reader x n) ev r
      by_words true f = by_open (runnable (part w x) n) refl f
      by_words false f = none_is r f

  start_tally : (x : Who) (n : ℕ) (q : Bytes) (g : Handle) (r : Stepped) → option_map (on_part w x) (start_step (part w x) q g) ≡ Some r → Fine (actor.Reader x n) (event.Start q g) r
  start_tally x n q g r e = by_up (part w x).up refl e
    where
      by_test : (c : Bool) → (part w x).up ≡ true → option_map (on_part w x) (cond c (Some (started_on (part w x) q g)) None) ≡ Some r → Fine (actor.Reader x n) (event.Start q g) r
      by_test true up f = some_is (actor.Reader x n) (event.Start q g) (on_part w x (started_on (part w x) q g)) r f
          (actor_tally (actor.Reader x n) (event.Start q g) x (started_on (part w x) q g) refl (λ y. refl) (started_counts (part w x) (h.each x) up q g))
      by_test false up f = none_is r f

      by_queue : (o : Option QueueDef) → (part w x).up ≡ true → option_map (on_part w x) (option_and_then (λ def. cond (same_name def.name q && option_eq same_id (option_map (λ k. k.group) (start_pick (part w x) def)) (Some g)) (Some (started_on (part w x) q g)) None) o) ≡ Some r →
          Fine (actor.Reader x n) (event.Start q g) r
      by_queue None up f = none_is r f
      by_queue (Some def) up f = by_test (same_name def.name q && option_eq same_id (option_map (λ k. k.group) (start_pick (part w x) def)) (Some g)) up f

      by_up : (c : Bool) → (part w x).up ≡ c → option_map (on_part w x) (option_and_then (λ def. cond (same_name def.name q && option_eq same_id (option_map (λ k. k.group) (start_pick (part w x) def)) (Some g)) (Some (started_on (part w x) q g)) None)
          (cond c (find (may_start_on (part w x)) (queues (part w x).log)) None)) ≡ Some r → Fine (actor.Reader x n) (event.Start q g) r
      by_up true up f = by_queue (find (may_start_on (part w x)) (queues (part w x).log)) up f
      by_up false up f = none_is r f

  same_still : (ev : Event) (a : Answer) → ((y : Who) → opens y ev a ≡ false) → Tally w actor.World ev a (told w a)
  same_still ev a closed = told_tally ev w a (λ y. (refl, refl)) closed

  down_tally : (ev : Event) (x : Who) → ((y : Who) (a : Answer) → opens y ev a ≡ false) → Tally w actor.World ev (answer.Refused (refusal.Down x) None) (on_part w x (refused (part w x) (refusal.Down x)))
  down_tally ev x closed = world_tally w (λ y. refl) ev x (refused (part w x) (refusal.Down x)) (λ y. closed y (answer.Refused (refusal.Down x) None)) (down_done x (refusal.Down x) (λ q. false) (λ q. refl))

  pump_tally : (x : Who) → Tally w actor.World (event.Pump x) (pump w x).answer (pump w x)
  pump_tally x = by_up (part w x).up
    where
      alike : (v y : Who) → Unchanged (part w y) (part (record (with_part w v (record (part w v) { owed = [] })) { wire = w.wire ++ map (put x) (frames_due x (part w x).log (part w x).owed) }) y)
      alike A A = (refl, refl)
      alike A B = (refl, refl)
      alike B A = (refl, refl)
      alike B B = (refl, refl)

      sent : Stepped
      sent = record {
        answer = answer.Pumped (lines_from (length w.wire + 1) (frames_due x (part w x).log (part w x).owed));
        on = x;
        added = [];
        world = record (with_part w x (record (part w x) { owed = [] })) { wire = w.wire ++ map (put x) (frames_due x (part w x).log (part w x).owed) };
      }

      by_room : (c : Bool) → (let s : Stepped = cond c (told w (answer.Barred (barred.WireFull (wire_size w.wire + sent_size (frames_due x (part w x).log (part w x).owed)))))
          (record {
            answer = answer.Pumped (lines_from (length w.wire + 1) (frames_due x (part w x).log (part w x).owed));
            on = x;
            added = [];
            world = record (with_part w x (record (part w x) { owed = [] })) { wire = w.wire ++ map (put x) (frames_due x (part w x).log (part w x).owed) };
          }) in Tally w actor.World (event.Pump x) s.answer s)
      by_room true = same_still (event.Pump x) _ (λ y. refl)
      by_room false = still_tally actor.World (event.Pump x) sent refl (λ y u. (sym (alike x y).1 ∙ u, (alike x y).0)) (λ y q. refl) (λ y. refl) A (λ y f. alike x y)

      by_up : (c : Bool) → (let s : Stepped = cond c (pumped w x (frames_due x (part w x).log (part w x).owed)) (on_part w x (refused (part w x) (refusal.Down x))) in Tally w actor.World (event.Pump x) s.answer s)
      by_up true = by_room (nat_lt 268435456 (wire_size w.wire + sent_size (frames_due x (part w x).log (part w x).owed)))
      by_up false = down_tally (event.Pump x) x (λ y a. refl)

  wire_same : (wire : List Wired) (y : Who) → part (record w { wire = wire }) y ≡ part w y
  wire_same wire A = refl
  wire_same wire B = refl

  deliver_tally : (ev : Event) (luck : Luck) (k : ℕ) (o : Option Wired) → ((y : Who) (a : Answer) → opens y ev a ≡ false) → Tally w actor.World ev (deliver_wired luck w k o).answer (deliver_wired luck w k o)
  deliver_tally ev luck k None closed = same_still ev _ (λ y. closed y _)
  deliver_tally ev luck k (Some f) closed = subst (λ q. Tally w actor.World ev (arrive luck q f.frame).answer (on_part (record w { wire = no_longer_waits k w.wire }) f.to (arrive luck q f.frame))) (sym (wire_same (no_longer_waits k w.wire) f.to))
      (world_tally (record w { wire = no_longer_waits k w.wire }) (wire_same (no_longer_waits k w.wire)) ev f.to (arrive luck (part w f.to) f.frame) (λ y. closed y _) (arrive_counts luck f.to f.frame))

  lose_tally : (k : ℕ) (o : Option Wired) → Tally w actor.World (event.Lose k) (lose_wired w k o).answer (lose_wired w k o)
  lose_tally k None = same_still (event.Lose k) _ (λ y. refl)
  lose_tally k (Some f) = told_tally (event.Lose k) (record w { wire = no_longer_waits k w.wire }) answer.Done (λ y. let is = wire_same (no_longer_waits k w.wire) y in (ap (λ p. p.counts) is, ap (λ p. p.up) is)) (λ y. refl)

  moment_tally : (ev : Event) (m : ℕ) (a : Answer) → ((y : Who) → opens y ev a ≡ false) → Tally w actor.World ev a (told (record w { moment = m }) a)
  moment_tally ev m a closed = told_tally ev (record w { moment = m }) a alike closed
    where
      alike : (y : Who) → Unchanged (part w y) (part (record w { moment = m }) y)
      alike A = (refl, refl)
      alike B = (refl, refl)

  inject_tally : (luck : Luck) (x : Who) (bytes : Bytes) (o : Option Wired) → Tally w actor.World (event.Inject x bytes) (inject luck w x bytes o).answer (inject luck w x bytes o)
  inject_tally luck x bytes (Some g) = world_tally w (λ y. refl) (event.Inject x bytes) x (arrive luck (part w x) g.frame) (λ y. refl) (arrive_counts luck x g.frame)
  inject_tally luck x bytes None = by_result (decode_frame bytes)
    where
      by_up : (at : ℕ) (c : Bool) → (let s : Stepped = cond c (told w (answer.Arrived (arrived.BadFrame at))) (on_part w x (refused (part w x) (refusal.Down x))) in Tally w actor.World (event.Inject x bytes) s.answer s)
      by_up at true = same_still (event.Inject x bytes) _ (λ y. refl)
      by_up at false = down_tally (event.Inject x bytes) x (λ y a. refl)

      by_result : (z : Result Frame ℕ) → Tally w actor.World (event.Inject x bytes) (inject_other w x z).answer (inject_other w x z)
      by_result (Ok f) = same_still (event.Inject x bytes) _ (λ y. refl)
      by_result (Err at) = by_up at (part w x).up

  hand_over_tally : (luck : Luck) (s : SideId) (n : ℕ) (r : Stepped) → hand_over luck w s n ≡ Some r → Fine actor.World (event.HandOver s n) r
  hand_over_tally luck s n r e = by_up w.a.up refl e
    where
      by_data : (o : Option Data) → w.a.up ≡ true → option_map (λ d. on_part w A (accept_data luck w.a w.a d (verdict A w.a.log d))) o ≡ Some r → Fine actor.World (event.HandOver s n) r
      by_data None up f = none_is r f
      by_data (Some d) up f = some_is actor.World (event.HandOver s n) (on_part w A (accept_data luck w.a w.a d (verdict A w.a.log d))) r f
          (world_tally w (λ y. refl) (event.HandOver s n) A (accept_data luck w.a w.a d (verdict A w.a.log d)) (λ y. refl) (handed_counts w.a (h.each A) up luck d (verdict A w.a.log d)))

      by_up : (c : Bool) → w.a.up ≡ c → cond c (option_map (λ d. on_part w A (accept_data luck w.a w.a d (verdict A w.a.log d))) (to_hand_over w.a s n)) None ≡ Some r → Fine actor.World (event.HandOver s n) r
      by_up true up f = by_data (to_hand_over w.a s n) up f
      by_up false up f = none_is r f

  fire_tally : (ev : Event) (x : Who) (luck : Luck) (moment : ℕ) (handle : Handle) (kind : DueKind) (r : Stepped) → ((y : Who) (a : Answer) → opens y ev a ≡ false) → option_map (on_part w x) (fire luck (part w x) moment handle kind) ≡ Some r → Fine actor.World ev r
  fire_tally ev x luck moment handle kind r closed e = by_up (part w x).up refl e
    where
      by_test : (d : Due) (c : Bool) → (part w x).up ≡ true → option_map (on_part w x) (cond c (Some (append luck (part w x) (fired_entry d.side d.kind ∷ []) answer.Fired (part w x))) None) ≡ Some r → Fine actor.World ev r
      by_test d true up f = some_is actor.World ev (on_part w x (append luck (part w x) (fired_entry d.side d.kind ∷ []) answer.Fired (part w x))) r f
          (world_tally w (λ y. refl) ev x (append luck (part w x) (fired_entry d.side d.kind ∷ []) answer.Fired (part w x)) (λ y. closed y _) (fired_counts (part w x) (h.each x) up luck d.side d.kind))
      by_test d false up f = none_is r f

      by_due : (o : Option Due) → (part w x).up ≡ true → option_map (on_part w x) (option_and_then (λ d. cond (same_kind d.kind kind && option_eq same_side (side_of (part w x).log handle) (Some d.side))
          (Some (append luck (part w x) (fired_entry d.side d.kind ∷ []) answer.Fired (part w x))) None) o) ≡ Some r → Fine actor.World ev r
      by_due None up f = none_is r f
      by_due (Some d) up f = by_test d (same_kind d.kind kind && option_eq same_side (side_of (part w x).log handle) (Some d.side)) up f

      by_up : (c : Bool) → (part w x).up ≡ c → option_map (on_part w x) (option_and_then (λ d. cond (same_kind d.kind kind && option_eq same_side (side_of (part w x).log handle) (Some d.side))
          (Some (append luck (part w x) (fired_entry d.side d.kind ∷ []) answer.Fired (part w x))) None) (cond c (first_due (due (part w x).log moment)) None)) ≡ Some r → Fine actor.World ev r
      by_up true up f = by_due (first_due (due (part w x).log moment)) up f
      by_up false up f = none_is r f

  crash_tally : (x : Who) (pick : _) → Tally w actor.World (event.Crash x pick) answer.Done (told (with_part w x (down_with (part w x) (part w x).doubt)) answer.Done)
  crash_tally x pick = still_tally actor.World (event.Crash x pick) (told (with_part w x (down_with (part w x) (part w x).doubt)) answer.Done) refl kept (λ y q. refl) (λ y. refl) x others
    where
      others : (y : Who) → same_who y x ≡ false → Unchanged (part w y) (part (with_part w x (down_with (part w x) (part w x).doubt)) y)
      others y f = let is : part (with_part w x (down_with (part w x) (part w x).doubt)) y ≡ part w y = part_other w x y _ f in (ap (λ p. p.counts) is, ap (λ p. p.up) is)

      kept : (y : Who) → (part (with_part w x (down_with (part w x) (part w x).doubt)) y).up ≡ true → ((part w y).up ≡ true) × ((part (with_part w x (down_with (part w x) (part w x).doubt)) y).counts ≡ (part w y).counts)
      kept y u = by_who (same_who y x) refl
        where
          by_who : (c : Bool) → same_who y x ≡ c → ((part w y).up ≡ true) × ((part (with_part w x (down_with (part w x) (part w x).doubt)) y).counts ≡ (part w y).counts)
          by_who true e = clash (sym (subst (λ z. (part (with_part w x (down_with (part w x) (part w x).doubt)) z).up ≡ true) (same_is y x e) u) ∙ ap (λ p. p.up) (part_set w x (down_with (part w x) (part w x).doubt)))
          by_who false e = let k = others y e in (sym k.1 ∙ u, k.0)

  open_tally : (x : Who) (n : ℕ) (r : Stepped) → open_with w x n ≡ Some r → Fine actor.World (event.Open x) r
  open_tally x n r e = by_test (nat_le (length (part w x).log) n && nat_le n (length ((part w x).log ++ (part w x).doubt))) e
    where
      reopened : Opened w actor.World (event.Open x) (answer.Entries n) (record {
        answer = answer.Entries n;
        on = x;
        added = drop (length (part w x).log) (take n ((part w x).log ++ (part w x).doubt));
        world = with_part w x (opened x (take n ((part w x).log ++ (part w x).doubt)) (Some (end_of (take n ((part w x).log ++ (part w x).doubt)))));
      })
      reopened = record {
        z = x;
        on = refl;
        none = λ q. ap (λ p. count_of p.counts q) (part_set w x (opened x (take n ((part w x).log ++ (part w x).doubt)) (Some (end_of (take n ((part w x).log ++ (part w x).doubt))))));
        others = λ y f. let is : part (with_part w x (opened x (take n ((part w x).log ++ (part w x).doubt)) (Some (end_of (take n ((part w x).log ++ (part w x).doubt)))))) y ≡ part w y = part_other w x y _ f in (ap (λ p. p.counts) is, ap (λ p. p.up) is);
        quiet = λ y q. refl;
        openings = λ y. refl;
      }

      by_test : (c : Bool) → cond c (Some (record {
        answer = answer.Entries n;
        on = x;
        added = drop (length (part w x).log) (take n ((part w x).log ++ (part w x).doubt));
        world = with_part w x (opened x (take n ((part w x).log ++ (part w x).doubt)) (Some (end_of (take n ((part w x).log ++ (part w x).doubt)))));
      })) None ≡ Some r → Fine actor.World (event.Open x) r
      by_test true f = subst (Fine actor.World (event.Open x)) (same_Some _ r f) (inr reopened)
      by_test false f = none_is r f

  opening_tally : (x : Who) (given : Answer) (r : Stepped) → open_step w x given ≡ Some r → Fine actor.World (event.Open x) r
  opening_tally x (answer.Entries n) r e = by_up (part w x).up e
    where
      by_up : (c : Bool) → cond c None (open_with w x n) ≡ Some r → Fine actor.World (event.Open x) r
      by_up true f = none_is r f
      by_up false f = open_tally x n r f
  opening_tally x answer.OpenFailed r e = by_up (part w x).up e
    where
      by_up : (c : Bool) → cond c None (Some (told w answer.OpenFailed)) ≡ Some r → Fine actor.World (event.Open x) r
      by_up true f = none_is r f
      by_up false f = some_is actor.World (event.Open x) (told w answer.OpenFailed) r f (same_still (event.Open x) answer.OpenFailed (λ y. refl))
  opening_tally x (answer.OpenRefused at) r e = by_up (part w x).up e
    where
      by_up : (c : Bool) → cond c None (Some (told w (answer.OpenRefused at))) ≡ Some r → Fine actor.World (event.Open x) r
      by_up true f = none_is r f
      by_up false f = some_is actor.World (event.Open x) (told w (answer.OpenRefused at)) r f (same_still (event.Open x) (answer.OpenRefused at) (λ y. refl))
  opening_tally x given r e = if_is actor.World (event.Open x) (part w x).up (told w (answer.Barred (barred.Up x))) r e (same_still (event.Open x) (answer.Barred (barred.Up x)) (λ y. refl))

  serve_tally : (ss : List Session) (r : Stepped) → serve w ss ≡ Some r → Fine actor.World event.Serve r
  serve_tally [] r e = if_is actor.World event.Serve (is_settled w) (told w answer.Settled) r e (same_still event.Serve answer.Settled (λ y. refl))
  serve_tally (s ∷ ss) r e = some_is actor.World event.Serve (told w (answer.Barred (barred.OpenSessions s))) r e (same_still event.Serve _ (λ y. refl))

  clock_tally : (m : ℕ) (c : Bool) (r : Stepped) → cond c (Some (told w (answer.Barred (barred.ClockBack w.moment)))) (Some (told (record w { moment = m }) (answer.Moment m))) ≡ Some r → Fine actor.World (event.Clock m) r
  clock_tally m true r e = some_is actor.World (event.Clock m) (told w (answer.Barred (barred.ClockBack w.moment))) r e (same_still (event.Clock m) _ (λ y. refl))
  clock_tally m false r e = some_is actor.World (event.Clock m) (told (record w { moment = m }) (answer.Moment m)) r e (moment_tally (event.Clock m) m _ (λ y. refl))

  dump_tally : (x : Who) (c : Bool) (r : Stepped) → Some (cond c (told w (answer.Dumped (dump (part w x).log))) (on_part w x (refused (part w x) (refusal.Down x)))) ≡ Some r → Fine actor.World (event.Dump x) r
  dump_tally x true r e = some_is actor.World (event.Dump x) (told w (answer.Dumped (dump (part w x).log))) r e (same_still (event.Dump x) _ (λ y. refl))
  dump_tally x false r e = some_is actor.World (event.Dump x) (on_part w x (refused (part w x) (refusal.Down x))) r e (down_tally (event.Dump x) x (λ y a. refl))

  step_tally : (who : Actor) (ev : Event) (given : Answer) (r : Stepped) → step w who ev given ≡ Some r → Fine who ev r
  step_tally (actor.Session s) (event.Asked req) given r f = some_is (actor.Session s) (event.Asked req) _ r f (session_tally s (luck_of given) req)
  step_tally (actor.Reader x n) (event.Asked req) given r f = reader_tally x n (luck_of given) req r f
  step_tally (actor.Session s) (event.Words words) (answer.Refused k back) r f = if_is (actor.Session s) (event.Words words) (is_of_words k) (on_part w s.instance (refused (part w s.instance) k)) r f
      (actor_tally (actor.Session s) (event.Words words) s.instance (refused (part w s.instance) k) refl (λ y. refl) (down_done s.instance k (rolls (part w s.instance) (answer.Refused k None)) (λ q. refl)))
  step_tally (actor.Reader x n) (event.Words words) (answer.Refused k back) r f = words_tally x n (failed k) k (event.Words words) r (λ y a. refl) f
  step_tally (actor.Reader x n) (event.Start q g) given r f = start_tally x n q g r f
  step_tally actor.World (event.Words words) (answer.Refused k back) r f = if_is actor.World (event.Words words) (is_not_yet k) (told w (answer.Refused k None)) r f (same_still (event.Words words) (answer.Refused k None) (λ y. refl))
  step_tally actor.World (event.Pump x) given r f = some_is actor.World (event.Pump x) (pump w x) r f (pump_tally x)
  step_tally actor.World (event.Deliver k to) given r f = if_is actor.World (event.Deliver k to) (option_eq same_who to (option_map (λ z. z.to) (wired w.wire k))) (deliver_wired (luck_of given) w k (wired w.wire k)) r f
      (deliver_tally (event.Deliver k to) (luck_of given) k (wired w.wire k) (λ y a. refl))
  step_tally actor.World (event.HandOver s n) given r f = hand_over_tally (luck_of given) s n r f
  step_tally actor.World (event.Lose k) given r f = some_is actor.World (event.Lose k) (lose_wired w k (wired w.wire k)) r f (lose_tally k (wired w.wire k))
  step_tally actor.World (event.Tick n) given r f = some_is actor.World (event.Tick n) (told (record w { moment = w.moment + n }) (answer.Moment (w.moment + n))) r f (moment_tally (event.Tick n) (w.moment + n) _ (λ y. refl))
  step_tally actor.World (event.Clock m) given r f = clock_tally m (nat_lt m w.moment) r f
  step_tally actor.World (event.Timer x handle) given r f = fire_tally (event.Timer x handle) x (luck_of given) w.moment handle due_kind.Timer r (λ y a. refl) f
  step_tally actor.World (event.Lifetime x handle) given r f = fire_tally (event.Lifetime x handle) x (luck_of given) w.moment handle due_kind.Lifetime r (λ y a. refl) f
  step_tally actor.World (event.Fuse x calls) given r f = some_is actor.World (event.Fuse x calls) (told w answer.Done) r f (same_still (event.Fuse x calls) answer.Done (λ y. refl))
  step_tally actor.World (event.Crash x pick) given r f = some_is actor.World (event.Crash x pick) (told (with_part w x (down_with (part w x) (part w x).doubt)) answer.Done) r f (crash_tally x pick)
  step_tally actor.World (event.Open x) given r f = opening_tally x given r f
  step_tally actor.World event.Serve given r f = serve_tally (sessions_open A w.a ++ sessions_open B w.b) r f
  step_tally actor.World (event.Inject x bytes) given r f = some_is actor.World (event.Inject x bytes) (inject (luck_of given) w x bytes (spelled_on w.wire bytes)) r f (inject_tally (luck_of given) x bytes (spelled_on w.wire bytes))
  step_tally actor.World (event.Dump x) given r f = dump_tally x (part w x).up r f
  step_tally who e given r f = none_is r f

  -- ---- the count after the step

  -- what the history makes of a count by this step
  abbrev counted_as : Bytes → Who → Actor → Event → Answer → Stepped → ℕ → ℕ
  counted_as q x who ev given r n = cond (opens x ev given || list_any (ends_count q) (added_to x (Some r))) 0 (cond (rolls_as q x w who given) (one_more n (fifth_begins_anew q x w (Some r))) n)

  added_none : (r : Stepped) (x z : Who) → (r.added ≡ []) ⊎ (r.on ≡ z) → same_who x z ≡ false → added_to x (Some r) ≡ []
  added_none r x z (inl e) f = ap (λ l. cond (same_who r.on x) l []) e ∙ either (same_who r.on x)
    where
      either : (c : Bool) → cond c (let l : List Entry = [] in l) [] ≡ []
      either true = refl
      either false = refl
  added_none r x z (inr e) f = ap (λ y. cond (same_who y x) r.added []) e ∙ ap (λ c. cond c r.added []) (other_way x z f)

  added_own : (r : Stepped) (z : Who) → (r.added ≡ []) ⊎ (r.on ≡ z) → added_to z (Some r) ≡ r.added
  added_own r z (inl e) = ap (λ l. cond (same_who r.on z) l []) e ∙ either (same_who r.on z) ∙ sym e
    where
      either : (c : Bool) → cond c (let l : List Entry = [] in l) [] ≡ []
      either true = refl
      either false = refl
  added_own r z (inr e) = ap (λ y. cond (same_who y z) r.added []) e ∙ ap (λ c. cond c r.added []) (who_self z)

  -- another instance's count stays
  stays_as : (who : Actor) (ev : Event) (given : Answer) (r : Stepped) (x : Who) (q : Bytes) (n : ℕ) → opens x ev given ≡ false → added_to x (Some r) ≡ [] → rolls_as q x w who given ≡ false → counted_as q x who ev given r n ≡ n
  stays_as who ev given r x q n closed none quiet =
      ap (λ b. cond (b || list_any (ends_count q) (added_to x (Some r))) 0 (cond (rolls_as q x w who given) (one_more n (fifth_begins_anew q x w (Some r))) n)) closed
      ∙ ap (λ l. cond (list_any (ends_count q) l) 0 (cond (rolls_as q x w who given) (one_more n (fifth_begins_anew q x w (Some r))) n)) none
      ∙ ap (λ b. cond b (one_more n (fifth_begins_anew q x w (Some r))) n) quiet

  abbrev Has : Part → Bytes → ℕ → Type 0
  Has p q n = p.up ≡ true → count_of p.counts q ≡ n

  step_counted : (who : Actor) (ev : Event) (r : Stepped) → Fine who ev r → (x : Who) (q : Bytes) (n : ℕ) → Has (part w x) q n → Has (part r.world x) q (counted_as q x who ev r.answer r n)
  step_counted who ev r (inl m) x q n has = by_who (same_who x m.z) refl
    where
      own : Has (part w m.z) q n → Has (part r.world m.z) q (counted_as q m.z who ev r.answer r n)
      own k u =
          let c = m.counts q u in
          let same : added_to m.z (Some r) ≡ r.added = added_own r m.z m.on in
          c.1 ∙ ap (λ j. cond (list_any (ends_count q) r.added) 0 (cond (rolls_as q m.z w who r.answer) (one_more j (anew (part w m.z) q r.added)) j)) (k c.0)
          ∙ sym (ap (λ b. cond (b || list_any (ends_count q) (added_to m.z (Some r))) 0 (cond (rolls_as q m.z w who r.answer) (one_more n (fifth_begins_anew q m.z w (Some r))) n)) (m.unopened m.z)
          ∙ ap (λ l. cond (list_any (ends_count q) l) 0 (cond (rolls_as q m.z w who r.answer) (one_more n (anew (part w m.z) q l)) n)) same)

      by_who : (c : Bool) → same_who x m.z ≡ c → Has (part r.world x) q (counted_as q x who ev r.answer r n)
      by_who true e = subst (λ y. Has (part r.world y) q (counted_as q y who ev r.answer r n)) (sym (same_is x m.z e)) (own (subst (λ y. Has (part w y) q n) (same_is x m.z e) has))
      by_who false e = λ u. let k = m.others x e in
          ap (λ c. count_of c q) k.0 ∙ has (sym k.1 ∙ u) ∙ sym (stays_as who ev r.answer r x q n (m.unopened x) (added_none r x m.z m.on e) (m.quiet x e q))
  step_counted who ev r (inr o) x q n has = by_who (same_who x o.z) refl
    where
      by_who : (c : Bool) → same_who x o.z ≡ c → Has (part r.world x) q (counted_as q x who ev r.answer r n)
      by_who true e u = ap (λ y. count_of (part r.world y).counts q) (same_is x o.z e) ∙ o.none q
          ∙ sym (ap (λ b. cond (b || list_any (ends_count q) (added_to x (Some r))) 0 (cond (rolls_as q x w who r.answer) (one_more n (fifth_begins_anew q x w (Some r))) n)) (o.openings x ∙ e))
      by_who false e u = let k = o.others x e in
          ap (λ c. count_of c q) k.0 ∙ has (sym k.1 ∙ u) ∙ sym (stays_as who ev r.answer r x q n (o.openings x ∙ e) (added_none r x o.z (inr o.on) e) (o.quiet x q))

-- ---- histories

pub counted_along : (top : ℕ) (w : World) (steps : List Step) → IsRun top w steps → (x : Who) (q : Bytes) (n : ℕ) → ((part w x).up ≡ true → count_of (part w x).counts q ≡ n) →
    (part (after w steps) x).up ≡ true → count_of (part (after w steps) x).counts q ≡ rollbacks_after q x w n steps
counted_along top w [] run x q n has = has
counted_along top w (s ∷ steps) run x q n has = by_outcome (outcome w s) refl run.legal.0 (λ k. counted_along (top + 4) (next w s) steps (run_next top w s steps run) x q (count_after_step q x w s n) k)
  where
    by_outcome : (o : Option Stepped) → outcome w s ≡ o → Gives o s →
        (((part (next w s) x).up ≡ true → count_of (part (next w s) x).counts q ≡ count_after_step q x w s n) → (part (after (next w s) steps) x).up ≡ true → count_of (part (after (next w s) steps) x).counts q ≡ rollbacks_after q x (next w s) (count_after_step q x w s n) steps) →
        (part (after (next w s) steps) x).up ≡ true → count_of (part (after (next w s) steps) x).counts q ≡ rollbacks_after q x (next w s) (count_after_step q x w s n) steps
    by_outcome None e g rest = absurd g
    by_outcome (Some r) e g rest = rest (subst (λ (o : Option Stepped). (part (world_of w o) x).up ≡ true → count_of (part (world_of w o) x).counts q ≡
        cond (opens x s.event s.answer || list_any (ends_count q) (added_to x o)) 0 (cond (rolls_back q x w s) (one_more n (fifth_begins_anew q x w o)) n)) (sym e)
        (subst (λ a. (part r.world x).up ≡ true → count_of (part r.world x).counts q ≡ cond (opens x s.event a || list_any (ends_count q) (added_to x (Some r))) 0 (cond (rolls_as q x w s.who a) (one_more n (fifth_begins_anew q x w (Some r))) n)) g
        (step_counted w run.ok (run_roomy top w s steps run) s.who s.event r (step_tally w run.ok (run_roomy top w s steps run) s.who s.event s.answer r e) x q n has)))

module _ (log_a log_b : List Entry) (end_a end_b : Option ℕ) (steps : List Step) (h : StartsLinked log_a log_b) (short : length steps ≤ 2 ^ 60) (legal : Legal (first_world log_a end_a log_b end_b) steps)
    (fresh : StaysFresh (first_world log_a end_a log_b end_b) steps) where
  pub rollbacks_along : (x : Who) (q : Bytes) → (part (after (first_world log_a end_a log_b end_b) steps) x).up ≡ true →
      count_of (part (after (first_world log_a end_a log_b end_b) steps) x).counts q ≡ rollbacks_in_a_row q x (first_world log_a end_a log_b end_b) steps
  rollbacks_along x q u = counted_along (2 ^ 62) (first_world log_a end_a log_b end_b) steps (first_run log_a log_b end_a end_b steps h short legal fresh) x q 0 (λ k. none x) u
    where
      none : (y : Who) → count_of (part (first_world log_a end_a log_b end_b) y).counts q ≡ 0
      none A = refl
      none B = refl
