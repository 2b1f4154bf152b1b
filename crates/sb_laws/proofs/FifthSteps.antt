-- A step that rolls back adds the turnings off of that transaction's queues, and nothing else.
use Rattle.std.proofs.Common.{◌≡◌, ℕ, Bool, true, false, List, [], ◌∷◌, Option, Some, None, Ok, Err, refl, sym, ◌∙◌, ap, subst, cond}
use Rattle.std.specs.Prelude.{find, ◌&&◌, option_map, option_and_then}
use Rattle.std.specs.Option.{option_eq}
use Rattle.std.specs.Bool.{beq}
use Rattle.std.proofs.lemmas.Option.{same_Some}
use Rattle.sb_log.specs.declared.identifiers.Who.{Who}
use Rattle.sb_log.specs.declared.identifiers.Actor.{Actor}
use Rattle.sb_log.specs.declared.identifiers.Actor.TheVariants as actor
use Rattle.sb_log.specs.declared.definitions.Ddl.{Ddl}
use Rattle.sb_log.specs.declared.definitions.QueueDef.{QueueDef}
use Rattle.sb_log.specs.declared.entries.Entry.{Entry}
use Rattle.sb_log.specs.declared.entries.Entry.TheVariants.{Defined, QueueSet}
use Rattle.sb_log.specs.declared.refusals.Refusal.{Refusal}
use Rattle.sb_log.specs.declared.refusals.Refusal.TheVariants as refusal
use Rattle.sb_log.specs.declared.requests.Reply.{Reply}
use Rattle.sb_log.specs.declared.requests.Reply.TheVariants as reply
use Rattle.sb_log.specs.declared.requests.Request.{Request}
use Rattle.sb_log.specs.declared.requests.Request.TheVariants as request
use Rattle.sb_log.specs.declared.steps.Answer.{Answer}
use Rattle.sb_log.specs.declared.steps.Answer.TheVariants as answer
use Rattle.sb_log.specs.declared.steps.Event.{Event}
use Rattle.sb_log.specs.declared.steps.Event.TheVariants as event
use Rattle.sb_model.specs.Sides.{Bytes, same_id, same_name}
use Rattle.sb_model.specs.Catalog.{is_on}
use Rattle.sb_model.specs.Transactions.{OpenTransaction, find_open}
use Rattle.sb_model.specs.Instance.{Part, Luck, Done, append, refused}
use Rattle.sb_model.specs.Poison.{rolled_back_by, instance_of}
use Rattle.sb_model.specs.Replies.{Plan, Planned, plan}
use Rattle.sb_model.specs.Rollbacks.{end_owner, rolled_back, roll_back_with, has_room, off_entries, off_names}
use Rattle.sb_model.specs.Statements.{txn_entries, ask, commit, drew_tx, at_once, in_open, planned_step, define, alter_queue, begin, commit_asked, rollback_asked, session_open, session_request, refused_reader, wait_or_deadlock, reader_refused, reader_planned, commit_refusal, reader_commit, reader_request, reader_step, reader_open, runnable, start_step, started_on, start_pick, start_queue}
use Rattle.sb_model.specs.Steps.{World, Stepped, part, on_part, luck_of, failed, words_told, is_of_words, is_of_reader_words, step}
use Rattle.sb_laws.proofs.Opens.{LiveOk}
use Rattle.sb_laws.proofs.Parts.{PartOk, find_again}
use Rattle.sb_laws.proofs.Steps.{runnable_open, open_is_up}
use Rattle.sb_laws.proofs.Worlds.{WorldOk}
use Rattle.sb_laws.proofs.Delivery.{told_is}
use Rattle.sb_laws.proofs.Undisked.{Sound, plan_sound, plain_never_undoes}
use Rattle.sb_laws.proofs.ActSteps.{append_is}

clash : {P : Type 0} → true ≡ false → P
clash e = cc

-- what a rollback of the transaction adds
abbrev pub turnings_off : Part → OpenTransaction → List Entry
turnings_off p o = cond (has_room p o) (off_entries p o) []

abbrev pub AddsOffs : Part → Answer → List Entry → Type 0
AddsOffs p given added = (tx : ℕ) (o : OpenTransaction) → rolled_back_by given ≡ Some tx → find_open p.open_txns tx ≡ Some o → added ≡ turnings_off p o

no_roll : (p : Part) (given : Answer) (added : List Entry) → rolled_back_by given ≡ None → AddsOffs p given added
no_roll p given added e tx o f g = absurd (none (sym e ∙ f))
  where
    none : None ≡ Some tx → ⊥
    none k = cc

module _ (p : Part) (h : PartOk p) (up : p.up ≡ true) where
  live : LiveOk p.who p.log p.next_handle p.next_tx p.open_txns
  live = h.live up

  abbrev Adds : Done → Type 0
  Adds d = AddsOffs p d.answer d.added

  appended : (luck : Luck) (before after : Part) (es : List Entry) (told : Answer) → rolled_back_by told ≡ None → Adds (append luck before es told after)
  appended luck before after es told e = append_is Adds luck before after es told (λ f. no_roll p told [] e) (λ r f g. no_roll p (answer.Refused r None) [] refl) (no_roll p told es e) (no_roll p (answer.Refused (refusal.DiskFailed before.who) None) [] refl)

  module _ (f : OpenTransaction → Bool) (o : OpenTransaction) (found : find f p.open_txns ≡ Some o) where
    roll_adds : (luck : Luck) (told : Reply → Answer) → rolled_back_by (told (reply.RolledBack o.tx (off_names p o))) ≡ Some o.tx → Adds (roll_back_with luck p o told)
    roll_adds luck told shows = append_is Adds luck p (end_owner o.owner o (rolled_back (has_room p o) p o)) (turnings_off p o) (told (reply.RolledBack o.tx (off_names p o)))
        (λ e tx k g i. sym e ∙ ap (turnings_off p) (its tx k g i)) (λ r e g. no_roll p (answer.Refused r None) [] refl) (λ tx k g i. ap (turnings_off p) (its tx k g i)) (no_roll p (answer.Refused (refusal.DiskFailed p.who) None) [] refl)
      where
        some_same : {X : Type 0} (a b : X) → Some a ≡ Some b → a ≡ b
        some_same a b e = same_Some a b e

        its : (tx : ℕ) (k : OpenTransaction) → rolled_back_by (told (reply.RolledBack o.tx (off_names p o))) ≡ Some tx → find_open p.open_txns tx ≡ Some k → o ≡ k
        its tx k g i = some_same o k (sym (find_again f p.open_txns o live.pairs found) ∙ ap (find_open p.open_txns) (some_same o.tx tx (sym shows ∙ g)) ∙ i)

    rolls_adds : (luck : Luck) (r : Refusal) → Adds (refused_reader luck p o r)
    rolls_adds luck r = roll_adds luck (λ undone. answer.Refused r (Some undone)) refl

    planned_adds : (now : ℕ) (req : Request) (planned : Plan) → plan (ask p o.tx now) req ≡ Ok planned → Adds (in_open p o.tx (Ok planned))
    planned_adds now req planned e = no_roll p (answer.Replied planned.reply) [] (plain_never_undoes planned.reply (subst Sound e (plan_sound (ask p o.tx now) req)))

    in_open_adds : (now : ℕ) (req : Request) (r : Planned) → plan (ask p o.tx now) req ≡ r → Adds (in_open p o.tx r)
    in_open_adds now req (Err k) e = no_roll p (answer.Refused k None) [] refl
    in_open_adds now req (Ok planned) e = planned_adds now req planned e

    waits_adds : (luck : Luck) (on : ℕ) (c : Option (List ℕ)) → Adds (wait_or_deadlock luck p o on c)
    waits_adds luck on None = no_roll p (answer.Replied (reply.Waiting on)) [] refl
    waits_adds luck on (Some txs) = rolls_adds luck (refusal.Deadlock (o.tx ∷ txs))

    refused_adds : (luck : Luck) (r : Refusal) → Adds (reader_refused luck p o r)
    refused_adds luck (refusal.GroupHeld on) = waits_adds luck on _
    refused_adds luck (refusal.RowHeld on) = waits_adds luck on _
    refused_adds luck r = rolls_adds luck r

    asked_adds : (luck : Luck) (now : ℕ) (req : Request) (r : Planned) → plan (ask p o.tx now) req ≡ r → Adds (reader_planned luck p o r)
    asked_adds luck now req (Err k) e = refused_adds luck k
    asked_adds luck now req (Ok planned) e = planned_adds now req planned e

    commit_adds : (luck : Luck) → Adds (commit luck p o)
    commit_adds luck = appended luck p _ (txn_entries o.tx o.ops) (answer.Replied (reply.Committed o.tx)) refl

    reader_commit_adds : (luck : Luck) (r : Option Refusal) → Adds (reader_commit luck p o r)
    reader_commit_adds luck None = commit_adds luck
    reader_commit_adds luck (Some r) = rolls_adds luck r

    reader_adds : (luck : Luck) (now : ℕ) (req : Request) → Adds (reader_request luck p o now req)
    reader_adds luck now request.Commit = reader_commit_adds luck (commit_refusal p o)
    reader_adds luck now request.Rollback = roll_adds luck answer.Replied refl
    reader_adds luck now (request.Define a) = rolls_adds luck (refusal.InTransaction o.tx)
    reader_adds luck now (request.AlterQueue a b) = rolls_adds luck (refusal.InTransaction o.tx)
    reader_adds luck now request.Begin = rolls_adds luck (refusal.InTransaction o.tx)
    reader_adds luck now (request.BeginDialog a b c d e k) = asked_adds luck now (request.BeginDialog a b c d e k) _ refl
    reader_adds luck now (request.Send a b c) = asked_adds luck now (request.Send a b c) _ refl
    reader_adds luck now (request.Receive a b c) = asked_adds luck now (request.Receive a b c) _ refl
    reader_adds luck now (request.GetGroup a) = asked_adds luck now (request.GetGroup a) _ refl
    reader_adds luck now (request.Move a b) = asked_adds luck now (request.Move a b) _ refl
    reader_adds luck now (request.End a b) = asked_adds luck now (request.End a b) _ refl
    reader_adds luck now (request.Timer a b) = asked_adds luck now (request.Timer a b) _ refl
    reader_adds luck now (request.Insert a b c d) = asked_adds luck now (request.Insert a b c d) _ refl
    reader_adds luck now (request.Update a b c d) = asked_adds luck now (request.Update a b c d) _ refl
    reader_adds luck now (request.Delete a b) = asked_adds luck now (request.Delete a b) _ refl
    reader_adds luck now (request.Read a b) = asked_adds luck now (request.Read a b) _ refl

  once_adds : (luck : Luck) (now : ℕ) (req : Request) (r : Planned) → plan (ask p p.next_tx now) req ≡ r → Adds (at_once luck (drew_tx p) p.next_tx r)
  once_adds luck now req (Err k) e = no_roll p (answer.Refused k None) [] refl
  once_adds luck now req (Ok planned) e = appended luck (drew_tx p) _ (txn_entries p.next_tx planned.ops) (answer.Replied planned.reply) (plain_never_undoes planned.reply (subst Sound e (plan_sound (ask p p.next_tx now) req)))

  step_adds : (luck : Luck) (now : ℕ) (req : Request) (f : OpenTransaction → Bool) (r : Option OpenTransaction) → find f p.open_txns ≡ r → Adds (planned_step luck p now req r)
  step_adds luck now req f None e = once_adds luck now req _ refl
  step_adds luck now req f (Some o) e = in_open_adds f o e now req _ refl

  define_adds : (luck : Luck) (d : Ddl) (r : Option Refusal) → Adds (define luck p d r)
  define_adds luck d None = appended luck p p (Defined d ∷ []) (answer.Replied reply.Done) refl
  define_adds luck d (Some r) = no_roll p (answer.Refused r None) [] refl

  alter_adds : (luck : Luck) (q : Bytes) (on : Bool) (r : Option Refusal) (def : Option QueueDef) → Adds (alter_queue luck p q on r def)
  alter_adds luck q on (Some r) def = no_roll p (answer.Refused r None) [] refl
  alter_adds luck q on None None = no_roll p (answer.Refused (refusal.NoQueue q) None) [] refl
  alter_adds luck q on None (Some def) = appended luck p p (cond (beq (is_on p.log def) on) [] (QueueSet q on ∷ [])) (answer.Replied reply.Done) refl

  begin_adds : (session : ℕ) (r : Option OpenTransaction) → Adds (begin p session r)
  begin_adds session (Some o) = no_roll p (answer.Refused (refusal.InTransaction o.tx) None) [] refl
  begin_adds session None = no_roll p (answer.Replied (reply.Began p.next_tx)) [] refl

  commit_asked_adds : (luck : Luck) (session : ℕ) (f : OpenTransaction → Bool) (r : Option OpenTransaction) → find f p.open_txns ≡ r → Adds (commit_asked luck p session r)
  commit_asked_adds luck session f None e = no_roll p (commit_asked luck p session None).answer [] refl
  commit_asked_adds luck session f (Some o) e = commit_adds f o e luck

  rollback_asked_adds : (luck : Luck) (session : ℕ) (f : OpenTransaction → Bool) (r : Option OpenTransaction) → find f p.open_txns ≡ r → Adds (rollback_asked luck p session r)
  rollback_asked_adds luck session f None e = no_roll p (rollback_asked luck p session None).answer [] refl
  rollback_asked_adds luck session f (Some o) e = roll_adds f o e luck answer.Replied refl

  session_adds : (luck : Luck) (session now : ℕ) (req : Request) → Adds (session_request luck p session now req)
  session_adds luck session now (request.Define d) = define_adds luck d _
  session_adds luck session now (request.AlterQueue q on) = alter_adds luck q on _ _
  session_adds luck session now request.Begin = begin_adds session _
  session_adds luck session now request.Commit = commit_asked_adds luck session _ (session_open p session) refl
  session_adds luck session now request.Rollback = rollback_asked_adds luck session _ (session_open p session) refl
  session_adds luck session now (request.BeginDialog a b c d e k) = step_adds luck now (request.BeginDialog a b c d e k) _ (session_open p session) refl
  session_adds luck session now (request.Send a b c) = step_adds luck now (request.Send a b c) _ (session_open p session) refl
  session_adds luck session now (request.Receive a b c) = step_adds luck now (request.Receive a b c) _ (session_open p session) refl
  session_adds luck session now (request.GetGroup a) = step_adds luck now (request.GetGroup a) _ (session_open p session) refl
  session_adds luck session now (request.Move a b) = step_adds luck now (request.Move a b) _ (session_open p session) refl
  session_adds luck session now (request.End a b) = step_adds luck now (request.End a b) _ (session_open p session) refl
  session_adds luck session now (request.Timer a b) = step_adds luck now (request.Timer a b) _ (session_open p session) refl
  session_adds luck session now (request.Insert a b c d) = step_adds luck now (request.Insert a b c d) _ (session_open p session) refl
  session_adds luck session now (request.Update a b c d) = step_adds luck now (request.Update a b c d) _ (session_open p session) refl
  session_adds luck session now (request.Delete a b) = step_adds luck now (request.Delete a b) _ (session_open p session) refl
  session_adds luck session now (request.Read a b) = step_adds luck now (request.Read a b) _ (session_open p session) refl

-- ---- of the world

-- a step of this instance
pub record AddsOn (w : World) (x : Who) (r : Stepped) : Type 0 where
  pub on : r.on ≡ x
  pub adds : AddsOffs (part w x) r.answer r.added

module _ (w : World) (h : WorldOk w) where
  done_adds : (x : Who) (o : Option Done) (r : Stepped) → option_map (on_part w x) o ≡ Some r → ((d : Done) → o ≡ Some d → AddsOffs (part w x) d.answer d.added) → AddsOn w x r
  done_adds x None r e f = absurd (none e)
    where
      none : None ≡ Some r → ⊥
      none k = cc
  done_adds x (Some d) r e f = subst (AddsOn w x) (same_Some (on_part w x d) r e) (record { on = refl; adds = f d refl })

  pub actor_adds : (who : Actor) (ev : Event) (given : Answer) (r : Stepped) (x : Who) → instance_of who ≡ Some x → step w who ev given ≡ Some r → AddsOn w x r
  actor_adds (actor.Session s) (event.Asked req) given r x i f = subst (λ y. AddsOn w y r) (same_Some s.instance x i) (subst (AddsOn w s.instance) (same_Some _ r f) (record { on = refl; adds = by_up (part w s.instance).up refl }))
    where
      by_up : (c : Bool) → (part w s.instance).up ≡ c → (let d : Done = cond c (session_request (luck_of given) (part w s.instance) s.number w.moment req) (refused (part w s.instance) (refusal.Down (part w s.instance).who)) in AddsOffs (part w s.instance) d.answer d.added)
      by_up true e = session_adds (part w s.instance) (h.each s.instance) e (luck_of given) s.number w.moment req
      by_up false e = no_roll (part w s.instance) (answer.Refused (refusal.Down (part w s.instance).who) None) [] refl
  actor_adds (actor.Reader y n) (event.Asked req) given r x i f = subst (λ z. AddsOn w z r) (same_Some y x i) (done_adds y (reader_step (luck_of given) (part w y) n w.moment req) r f (λ d e. by_open (runnable (part w y) n) refl d e))
    where
      by_open : (o : Option OpenTransaction) → runnable (part w y) n ≡ o → (d : Done) → option_map (λ z. reader_request (luck_of given) (part w y) z w.moment req) o ≡ Some d → AddsOffs (part w y) d.answer d.added
      by_open None e d g = absurd (none g)
        where
          none : None ≡ Some d → ⊥
          none k = cc
      by_open (Some o) e d g =
          let found : reader_open (part w y) n ≡ Some o = runnable_open (part w y) n o e in
          subst (λ z. AddsOffs (part w y) z.answer z.added) (same_Some _ d g) (reader_adds (part w y) (h.each y) (open_is_up (part w y) (h.each y) _ o found) _ o found (luck_of given) w.moment req)
  actor_adds (actor.Session s) (event.Words words) (answer.Refused k back) r x i f = by_test (is_of_words k) f
    where
      by_test : (c : Bool) → cond c (Some (on_part w s.instance (refused (part w s.instance) k))) None ≡ Some r → AddsOn w x r
      by_test true g = subst (λ y. AddsOn w y r) (same_Some s.instance x i) (subst (AddsOn w s.instance) (same_Some _ r g) (record { on = refl; adds = no_roll (part w s.instance) (answer.Refused k None) [] refl }))
      by_test false g = absurd (none g)
        where
          none : None ≡ Some r → ⊥
          none j = cc
  actor_adds (actor.Reader y n) (event.Words words) (answer.Refused k back) r x i f = subst (λ z. AddsOn w z r) (same_Some y x i) (by_words (is_of_reader_words k) f)
    where
      by_open : (o : Option OpenTransaction) → runnable (part w y) n ≡ o → (d : Done) → option_and_then (λ z. words_told k (refused_reader (failed k) (part w y) z k)) o ≡ Some d → AddsOffs (part w y) d.answer d.added
      by_open None e d g = absurd (none g)
        where
          none : None ≡ Some d → ⊥
          none j = cc
      by_open (Some o) e d g =
          let found : reader_open (part w y) n ≡ Some o = runnable_open (part w y) n o e in
          subst (λ z. AddsOffs (part w y) z.answer z.added) (told_is k (refused_reader (failed k) (part w y) o k) d g) (rolls_adds (part w y) (h.each y) (open_is_up (part w y) (h.each y) _ o found) _ o found (failed k) k)

      by_words : (c : Bool) → cond c (option_map (on_part w y) (option_and_then (λ z. words_told k (refused_reader (failed k) (part w y) z k)) (runnable (part w y) n))) None ≡ Some r → AddsOn w y r
      by_words true g = done_adds y _ r g (λ d e. by_open (runnable (part w y) n) refl d e)
      by_words false g = absurd (none g)
        where
          none : None ≡ Some r → ⊥
          none j = cc
  actor_adds (actor.Reader y n) (event.Start q g) given r x i f = subst (λ z. AddsOn w z r) (same_Some y x i) (done_adds y (start_step (part w y) q g) r f (λ d e. by_queue (start_queue (part w y)) d e))
    where
      by_test : (c : Bool) (d : Done) → cond c (Some (started_on (part w y) q g)) None ≡ Some d → AddsOffs (part w y) d.answer d.added
      by_test true d e = subst (λ z. AddsOffs (part w y) z.answer z.added) (same_Some (started_on (part w y) q g) d e) (no_roll (part w y) (answer.Started (part w y).next_tx) [] refl)
      by_test false d e = absurd (none e)
        where
          none : None ≡ Some d → ⊥
          none j = cc

      by_queue : (o : Option QueueDef) (d : Done) → option_and_then (λ def. cond (same_name def.name q && option_eq same_id (option_map (λ k. k.group) (start_pick (part w y) def)) (Some g)) (Some (started_on (part w y) q g)) None) o ≡ Some d → AddsOffs (part w y) d.answer d.added
      by_queue None d e = absurd (none e)
        where
          none : None ≡ Some d → ⊥
          none j = cc
      by_queue (Some def) d e = by_test (same_name def.name q && option_eq same_id (option_map (λ k. k.group) (start_pick (part w y) def)) (Some g)) d e
  actor_adds actor.World ev given r x i f = absurd (none i)
    where
      none : None ≡ Some x → ⊥
      none j = cc
  actor_adds who ev given r x i f = absurd (none f)
    where
      none : None ≡ Some r → ⊥
      none j = cc
