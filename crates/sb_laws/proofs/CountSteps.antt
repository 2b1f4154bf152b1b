-- What statements, starts, deliveries and timers do to the counts of rollbacks: what the history says.
use Rattle.std.proofs.Common.{◌≡◌, ℕ, Bool, true, false, List, [], ◌∷◌, ◌++◌, Option, Some, None, Ok, Err, refl, sym, ◌∙◌, ap, subst, cond}
use Rattle.std.specs.Prelude.{flat_map, find, fold, not, ◌&&◌, ◌||◌, option_and_then, is_some, is_none}
use Rattle.std.specs.Option.{option_map_or}
use Rattle.std.specs.Bool.{beq}
use Rattle.std.specs.List.{list_any}
use Rattle.sb_log.specs.declared.identifiers.Handle.{Handle}
use Rattle.sb_log.specs.declared.identifiers.SideId.{SideId}
use Rattle.sb_log.specs.declared.definitions.Ddl.{Ddl}
use Rattle.sb_log.specs.declared.definitions.QueueDef.{QueueDef}
use Rattle.sb_log.specs.declared.entries.Entry.{Entry}
use Rattle.sb_log.specs.declared.entries.Entry.TheVariants.{Defined, Acked, QueueSet}
use Rattle.sb_log.specs.declared.entries.Op.{Op}
use Rattle.sb_log.specs.declared.entries.Op.TheVariants.{Begin, Send, Took, End, Cleanup, Move, Timer, Put, Delete}
use Rattle.sb_log.specs.declared.messages.Ack.{Ack}
use Rattle.sb_log.specs.declared.messages.Data.{Data}
use Rattle.sb_log.specs.declared.messages.Frame.{Frame}
use Rattle.sb_log.specs.declared.messages.Frame.TheVariants as frame
use Rattle.sb_log.specs.declared.refusals.Refusal.{Refusal}
use Rattle.sb_log.specs.declared.refusals.Refusal.TheVariants as refusal
use Rattle.sb_log.specs.declared.requests.Reply.{Reply}
use Rattle.sb_log.specs.declared.requests.Reply.TheVariants as reply
use Rattle.sb_log.specs.declared.requests.Request.{Request}
use Rattle.sb_log.specs.declared.requests.Request.TheVariants as request
use Rattle.sb_log.specs.declared.steps.Answer.{Answer}
use Rattle.sb_log.specs.declared.steps.Answer.TheVariants as answer
use Rattle.sb_log.specs.declared.steps.DueKind.{DueKind}
use Rattle.sb_log.specs.declared.steps.DueKind.TheVariants as due_kind
use Rattle.sb_log.specs.declared.steps.Verdict.{Verdict}
use Rattle.sb_log.specs.declared.steps.Verdict.TheVariants.{New, Next, Repeat, Early, Gone, NotHere, AckNew, AckOld}
use Rattle.sb_model.specs.Sides.{Bytes, same_name}
use Rattle.sb_model.specs.Acceptance.{verdict, ack_verdict, receiver}
use Rattle.sb_model.specs.Catalog.{find_queue, is_on, queue_is_on}
use Rattle.sb_model.specs.Transactions.{OpenTransaction, Owner, find_open, with_ops}
use Rattle.sb_model.specs.Transactions as open_as
use Rattle.sb_model.specs.Instance.{Part, Luck, Done, Count, append, refused, no_room, has_name, queue_taken, without_counts}
use Rattle.sb_model.specs.Logs.{is_op_allowed, are_ops_allowed}
use Rattle.sb_model.specs.Poison.{rolled_back_by, received_from, ends_count, turns_off_queue, has_poison_handling, one_more}
use Rattle.sb_model.specs.Replies.{Plan, Planned, plan}
use Rattle.sb_model.specs.Rollbacks.{count_of, without_open, end_owner, rolled_back, roll_back_with, has_room, off_entries, off_names, queues_of, count_after}
use Rattle.sb_model.specs.Statements.{txn_entries, after_plan, ask, draws, commit_counts, commit, drew_tx, at_once, in_open, planned_step, define, alter_queue, begin, commit_asked, rollback_asked, session_open, session_request, refused_reader, wait_or_deadlock, reader_refused, reader_planned, commit_refusal, reader_commit, reader_request, started_on}
use Rattle.sb_model.specs.Steps.{deliver_data, deliver_ack, deliver_frame, accept_data, data_entry, verdict_told, owes, set_owed, fired_entry}
use Rattle.sb_laws.proofs.Sides.{both_left, both_right}
use Rattle.sb_laws.proofs.Opens.{IsOpenOk, LiveOk}
use Rattle.sb_laws.proofs.PlanCases.{all_found}
use Rattle.sb_laws.proofs.Parts.{PartOk, log_ok, find_again}
use Rattle.sb_laws.proofs.Allowed.{queue_view}
use Rattle.sb_laws.proofs.Undisked.{Sound, plan_sound, plain_never_undoes}
use Rattle.sb_laws.proofs.Counts.{names_same, count_without, ends_are, offs_end_none, queues_apart, unreceived, received}
use Rattle.sb_laws.proofs.ActSteps.{append_is}

clash : {P : Type 0} → true ≡ false → P
clash e = cc

-- whether a fifth rollback begins the count anew
abbrev pub anew : Part → Bytes → List Entry → Bool
anew p q added = not (has_poison_handling p.log q) || (queue_is_on p.log q && not (list_any (turns_off_queue q) added))

-- an instance that is up after the step was up before, and its counts are what the history makes of them
abbrev pub CountsTo : Part → Done → (Bytes → Bool) → Type 0
CountsTo p d undoes = (q : Bytes) → d.part.up ≡ true → (p.up ≡ true) ×
    (count_of d.part.counts q ≡ cond (list_any (ends_count q) d.added) 0 (cond (undoes q) (one_more (count_of p.counts q) (anew p q d.added)) (count_of p.counts q)))

-- the answer shows that a transaction which received from the queue was rolled back
abbrev pub rolls : Part → Answer → Bytes → Bool
rolls p given q = option_map_or (received_from q) (option_and_then (find_open p.open_txns) (rolled_back_by given)) false

rolls_none : (p : Part) (given : Answer) (q : Bytes) → rolled_back_by given ≡ None → rolls p given q ≡ false
rolls_none p given q e = ap (λ o. option_map_or (received_from q) (option_and_then (find_open p.open_txns) o) false) e

-- an append whose answer shows no rollback; `before` has the part's counts
pub plain_counts : (undoes : Answer → Bytes → Bool) (luck : Luck) (p before after : Part) (es : List Entry) (told : Answer) → p.up ≡ true → before.counts ≡ p.counts → ((q : Bytes) → undoes told q ≡ false) →
    ((r : Refusal) (q : Bytes) → undoes (answer.Refused r None) q ≡ false) →
    ((q : Bytes) → cond (list_any (ends_count q) es) 0 (count_of after.counts q) ≡ cond (list_any (ends_count q) es) 0 (count_of p.counts q)) → CountsTo p (append luck before es told after) (undoes (append luck before es told after).answer)
plain_counts undoes luck p before after es told up same quiet refused_quiet counted = append_is (λ d. CountsTo p d (undoes d.answer)) luck before after es told
    (λ e q u. (
      up,
      subst (λ l. cond (list_any (ends_count q) l) 0 (count_of after.counts q) ≡ cond (list_any (ends_count q) l) 0 (count_of p.counts q)) e (counted q)
          ∙ sym (ap (λ b. cond b (one_more (count_of p.counts q) (anew p q [])) (count_of p.counts q)) (quiet q)),
    ))
    (λ r e f q u. (up, ap (λ c. count_of c q) same ∙ sym (ap (λ b. cond b (one_more (count_of p.counts q) (anew p q [])) (count_of p.counts q)) (refused_quiet r q))))
    (λ q u. (
      up,
      count_without after.counts _ q ∙ ap (λ b. cond b 0 (count_of after.counts q)) (ends_are es q) ∙ counted q
          ∙ sym (ap (λ b. cond (list_any (ends_count q) es) 0 (cond b (one_more (count_of p.counts q) (anew p q es)) (count_of p.counts q))) (quiet q)),
    ))
    (λ q u. clash (sym u))

-- nothing is added, and the counts stay
stays_counts : (undoes : Bytes → Bool) (p : Part) (d : Done) → (d.part.up ≡ true → p.up ≡ true) → d.part.counts ≡ p.counts → d.added ≡ [] → ((q : Bytes) → undoes q ≡ false) → CountsTo p d undoes
stays_counts undoes p d up same none quiet q u = (
  up u,
  ap (λ c. count_of c q) same ∙ sym (ap (λ l. cond (list_any (ends_count q) l) 0 (cond (undoes q) (one_more (count_of p.counts q) (anew p q l)) (count_of p.counts q))) none
      ∙ ap (λ b. cond b (one_more (count_of p.counts q) (anew p q [])) (count_of p.counts q)) (quiet q)),
)

txn_ends : (tx : ℕ) (ops : List Op) (q : Bytes) → has_name (flat_map queue_taken ops) q ≡ list_any (ends_count q) (txn_entries tx ops)
txn_ends tx [] q = refl
txn_ends tx (op ∷ ops) q = same (has_name (flat_map queue_taken (op ∷ ops)) q)
  where
    same : (b : Bool) → b ≡ (b || false)
    same true = refl
    same false = refl

-- the counts without those of a commit
commit_counted : (counts : List Count) (tx : ℕ) (ops : List Op) (q : Bytes) →
    cond (list_any (ends_count q) (txn_entries tx ops)) 0 (count_of (without_counts counts (flat_map queue_taken ops)) q) ≡ cond (list_any (ends_count q) (txn_entries tx ops)) 0 (count_of counts q)
commit_counted counts tx ops q = ap (cond (list_any (ends_count q) (txn_entries tx ops)) 0) (count_without counts (flat_map queue_taken ops) q ∙ ap (λ b. cond b 0 (count_of counts q)) (txn_ends tx ops q)) ∙ twice (list_any (ends_count q) (txn_entries tx ops))
  where
    twice : (b : Bool) → cond b 0 (cond b 0 (count_of counts q)) ≡ cond b 0 (count_of counts q)
    twice true = refl
    twice false = refl

owner_counts : (owner : Owner) (o : OpenTransaction) (r : Part) → (end_owner owner o r).counts ≡ r.counts
owner_counts (open_as.Session n) o r = refl
owner_counts (open_as.Reader n q) o r = by_test (has_name (flat_map queue_taken o.ops) q)
  where
    by_test : (c : Bool) → (let z : Part = cond c r (record r { held = r.held ++ q ∷ [] }) in z.counts) ≡ r.counts
    by_test true = refl
    by_test false = refl

-- a queue that was received from is defined
received_there : (log : List Entry) (tx : ℕ) (done ops : List Op) (q : Bytes) → are_ops_allowed log tx done ops ≡ true → has_name (flat_map queue_taken ops) q ≡ true → is_some (find_queue log q) ≡ true
received_there log tx done [] q e f = clash (sym f)
received_there log tx done (op ∷ ops) q e f = by_op op (both_left (is_op_allowed (with_ops log tx done) op) (are_ops_allowed log tx (done ++ op ∷ []) ops) e) f
    (λ g. received_there log tx (done ++ op ∷ []) ops q (both_right (is_op_allowed (with_ops log tx done) op) (are_ops_allowed log tx (done ++ op ∷ []) ops) e) g)
  where
    by_op : (k : Op) → is_op_allowed (with_ops log tx done) k ≡ true → has_name (queue_taken k ++ flat_map queue_taken ops) q ≡ true → (has_name (flat_map queue_taken ops) q ≡ true → is_some (find_queue log q) ≡ true) → is_some (find_queue log q) ≡ true
    by_op (Took name n) g i rest = by_name (same_name q name) refl i
      where
        by_name : (b : Bool) → same_name q name ≡ b → (b || has_name (flat_map queue_taken ops) q) ≡ true → is_some (find_queue log q) ≡ true
        by_name true j k = subst (λ z. is_some (find_queue log z) ≡ true) (sym (names_same q name j)) (sym (queue_view log tx done name) ∙ both_left (is_some (find_queue (with_ops log tx done) name)) _ g)
        by_name false j k = rest k
    by_op (Begin a b c) g i rest = rest i
    by_op (Send a b c) g i rest = rest i
    by_op (End a b) g i rest = rest i
    by_op (Cleanup a) g i rest = rest i
    by_op (Move a b) g i rest = rest i
    by_op (Timer a b) g i rest = rest i
    by_op (Put a b c d) g i rest = rest i
    by_op (Delete a b) g i rest = rest i

module _ (p : Part) (h : PartOk p) (up : p.up ≡ true) where
  live : LiveOk p.who p.log p.next_handle p.next_tx p.open_txns
  live = h.live up

  abbrev Counted : Done → Type 0
  Counted d = CountsTo p d (rolls p d.answer)

  told_none : (told : Answer) → rolled_back_by told ≡ None → (q : Bytes) → rolls p told q ≡ false
  told_none told e q = rolls_none p told q e

  refused_counts : (b : Part) (r : Refusal) → b.counts ≡ p.counts → Counted (refused b r)
  refused_counts b r same = stays_counts (rolls p (answer.Refused r None)) p (refused b r) (λ u. up) same refl (λ q. refl)

  appended : (luck : Luck) (before after : Part) (es : List Entry) (told : Answer) → before.counts ≡ p.counts → rolled_back_by told ≡ None →
      ((q : Bytes) → cond (list_any (ends_count q) es) 0 (count_of after.counts q) ≡ cond (list_any (ends_count q) es) 0 (count_of p.counts q)) → Counted (append luck before es told after)
  appended luck before after es told same e counted = plain_counts (rolls p) luck p before after es told up same (told_none told e) (λ r q. refl) counted

  module _ (f : OpenTransaction → Bool) (o : OpenTransaction) (found : find f p.open_txns ≡ Some o) where
    again : find_open p.open_txns o.tx ≡ Some o
    again = find_again f p.open_txns o live.pairs found

    commit_counts_to : (luck : Luck) → Counted (commit luck p o)
    commit_counts_to luck = appended luck p (end_owner o.owner o (commit_counts (record p { open_txns = without_open p.open_txns o.tx }) o.ops)) (txn_entries o.tx o.ops) (answer.Replied (reply.Committed o.tx)) refl refl
        (λ q. ap (λ c. cond (list_any (ends_count q) (txn_entries o.tx o.ops)) 0 (count_of c q)) (owner_counts o.owner o (commit_counts (record p { open_txns = without_open p.open_txns o.tx }) o.ops)) ∙ commit_counted p.counts o.tx o.ops q)

    abbrev offs : List Entry
    offs = cond (has_room p o) (off_entries p o) []

    undone_counts : (q : Bytes) → count_of (end_owner o.owner o (rolled_back (has_room p o) p o)).counts q ≡ cond (received_from q o) (one_more (count_of p.counts q) (anew p q (cond (has_room p o) (off_entries p o) []))) (count_of p.counts q)
    undone_counts q = ap (λ c. count_of c q) (owner_counts o.owner o (rolled_back (has_room p o) p o)) ∙ by_received (received_from q o) refl
      where
        the_def : (r : Option QueueDef) → is_some r ≡ true → (def : QueueDef) × (r ≡ Some def)
        the_def None e = clash (sym e)
        the_def (Some def) e = (def, refl)

        by_received : (c : Bool) → received_from q o ≡ c → count_of (fold (count_after (has_room p o) p) p.counts (queues_of p o)) q ≡ cond c (one_more (count_of p.counts q) (anew p q (cond (has_room p o) (off_entries p o) []))) (count_of p.counts q)
        by_received true e =
            let there : is_some (find_queue p.log q) ≡ true = received_there p.log o.tx [] o.ops q (all_found (IsOpenOk p.who p.log p.next_handle p.next_tx) f p.open_txns o live.each found).allowed e in
            let def = the_def (find_queue p.log q) there in
            received p o q (queues_apart p.log (log_ok p h).formed) (has_room p o) def.0 e def.1
        by_received false e = unreceived p o q (queues_apart p.log (log_ok p h).formed) (has_room p o) e

    pub roll_counts : (luck : Luck) (told : Reply → Answer) → rolled_back_by (told (reply.RolledBack o.tx (off_names p o))) ≡ Some o.tx → Counted (roll_back_with luck p o told)
    roll_counts luck told shows = append_is (λ d. CountsTo p d (rolls p d.answer)) luck p (end_owner o.owner o (rolled_back (has_room p o) p o)) (cond (has_room p o) (off_entries p o) []) (told (reply.RolledBack o.tx (off_names p o)))
        (λ e q u. (up, undone_counts q ∙ ap (λ l. cond (received_from q o) (one_more (count_of p.counts q) (anew p q l)) (count_of p.counts q)) e ∙ sym (ap (λ b. cond b (one_more (count_of p.counts q) (anew p q [])) (count_of p.counts q)) (rolled q))))
        (λ r e g. absurd (no_refusal r e g))
        (λ q u. (
          up,
          count_without (end_owner o.owner o (rolled_back (has_room p o) p o)).counts _ q ∙ ap (λ b. cond b 0 (count_of (end_owner o.owner o (rolled_back (has_room p o) p o)).counts q)) (ends_are (cond (has_room p o) (off_entries p o) []) q ∙ offs_none q) ∙ undone_counts q
              ∙ sym (ap (λ b. cond b 0 (cond (rolls p (told (reply.RolledBack o.tx (off_names p o))) q) (one_more (count_of p.counts q) (anew p q (cond (has_room p o) (off_entries p o) []))) (count_of p.counts q))) (offs_none q)
              ∙ ap (λ b. cond b (one_more (count_of p.counts q) (anew p q (cond (has_room p o) (off_entries p o) []))) (count_of p.counts q)) (rolled q)),
        ))
        (λ q u. clash (sym u))
      where
        rolled : (q : Bytes) → rolls p (told (reply.RolledBack o.tx (off_names p o))) q ≡ received_from q o
        rolled q = ap (λ k. option_map_or (received_from q) (option_and_then (find_open p.open_txns) k) false) shows ∙ ap (λ k. option_map_or (received_from q) k false) again

        offs_none : (q : Bytes) → list_any (ends_count q) (cond (has_room p o) (off_entries p o) []) ≡ false
        offs_none q = by_room (has_room p o)
          where
            by_room : (c : Bool) → list_any (ends_count q) (cond c (off_entries p o) []) ≡ false
            by_room true = offs_end_none _ q
            by_room false = refl

        none_some : (r : Refusal) (k : Option Refusal) → is_none k ≡ true → k ≡ Some r → ⊥
        none_some r None e g = absurd (none g)
          where
            none : None ≡ Some r → ⊥
            none i = cc
        none_some r (Some k) e g = clash (sym e)

        no_refusal : (r : Refusal) → (cond (has_room p o) (off_entries p o) [] ≡ [] → ⊥) → no_room p (cond (has_room p o) (off_entries p o) []) ≡ Some r → ⊥
        no_refusal r = by_room (has_room p o) refl
          where
            by_room : (c : Bool) → has_room p o ≡ c → (cond c (off_entries p o) [] ≡ [] → ⊥) → no_room p (cond c (off_entries p o) []) ≡ Some r → ⊥
            by_room true e g i = none_some r (no_room p (off_entries p o)) e i
            by_room false e g i = g refl

    planned_counts : (now : ℕ) (req : Request) (planned : Plan) → plan (ask p o.tx now) req ≡ Ok planned → Counted (record { answer = answer.Replied planned.reply; added = []; part = after_plan p o.tx planned })
    planned_counts now req planned e = stays_counts (rolls p (answer.Replied planned.reply)) p (in_open p o.tx (Ok planned)) (λ u. up) refl refl (told_none (answer.Replied planned.reply) (plain_never_undoes planned.reply (subst Sound e (plan_sound (ask p o.tx now) req))))

    in_open_counts : (now : ℕ) (req : Request) (r : Planned) → plan (ask p o.tx now) req ≡ r → Counted (in_open p o.tx r)
    in_open_counts now req (Err k) e = refused_counts p k refl
    in_open_counts now req (Ok planned) e = planned_counts now req planned e

    -- ---- readers

    pub reader_rolls_counts : (luck : Luck) (r : Refusal) → Counted (refused_reader luck p o r)
    reader_rolls_counts luck r = roll_counts luck (λ undone. answer.Refused r (Some undone)) refl

    waits_counts : (luck : Luck) (on : ℕ) (c : Option (List ℕ)) → Counted (wait_or_deadlock luck p o on c)
    waits_counts luck on None = stays_counts (rolls p (answer.Replied (reply.Waiting on))) p (wait_or_deadlock luck p o on None) (λ u. up) refl refl (λ q. refl)
    waits_counts luck on (Some txs) = reader_rolls_counts luck (refusal.Deadlock (o.tx ∷ txs))

    reader_refused_counts : (luck : Luck) (r : Refusal) → Counted (reader_refused luck p o r)
    reader_refused_counts luck (refusal.GroupHeld on) = waits_counts luck on _
    reader_refused_counts luck (refusal.RowHeld on) = waits_counts luck on _
    reader_refused_counts luck r = reader_rolls_counts luck r

    asked_counts : (luck : Luck) (now : ℕ) (req : Request) (r : Planned) → plan (ask p o.tx now) req ≡ r → Counted (reader_planned luck p o r)
    asked_counts luck now req (Err k) e = reader_refused_counts luck k
    asked_counts luck now req (Ok planned) e = planned_counts now req planned e

    reader_commit_counts : (luck : Luck) (r : Option Refusal) → Counted (reader_commit luck p o r)
    reader_commit_counts luck None = commit_counts_to luck
    reader_commit_counts luck (Some r) = reader_rolls_counts luck r

    pub reader_counts : (luck : Luck) (now : ℕ) (req : Request) → Counted (reader_request luck p o now req)
    reader_counts luck now request.Commit = reader_commit_counts luck (commit_refusal p o)
    reader_counts luck now request.Rollback = roll_counts luck answer.Replied refl
    reader_counts luck now (request.Define a) = reader_rolls_counts luck (refusal.InTransaction o.tx)
    reader_counts luck now (request.AlterQueue a b) = reader_rolls_counts luck (refusal.InTransaction o.tx)
    reader_counts luck now request.Begin = reader_rolls_counts luck (refusal.InTransaction o.tx)
    reader_counts luck now (request.BeginDialog a b c d e k) = asked_counts luck now (request.BeginDialog a b c d e k) _ refl
    reader_counts luck now (request.Send a b c) = asked_counts luck now (request.Send a b c) _ refl
    reader_counts luck now (request.Receive a b c) = asked_counts luck now (request.Receive a b c) _ refl
    reader_counts luck now (request.GetGroup a) = asked_counts luck now (request.GetGroup a) _ refl
    reader_counts luck now (request.Move a b) = asked_counts luck now (request.Move a b) _ refl
    reader_counts luck now (request.End a b) = asked_counts luck now (request.End a b) _ refl
    reader_counts luck now (request.Timer a b) = asked_counts luck now (request.Timer a b) _ refl
    reader_counts luck now (request.Insert a b c d) = asked_counts luck now (request.Insert a b c d) _ refl
    reader_counts luck now (request.Update a b c d) = asked_counts luck now (request.Update a b c d) _ refl
    reader_counts luck now (request.Delete a b) = asked_counts luck now (request.Delete a b) _ refl
    reader_counts luck now (request.Read a b) = asked_counts luck now (request.Read a b) _ refl

  -- ---- sessions

  once_counts : (luck : Luck) (now : ℕ) (req : Request) (r : Planned) → plan (ask p p.next_tx now) req ≡ r → Counted (at_once luck (drew_tx p) p.next_tx r)
  once_counts luck now req (Err k) e = refused_counts (drew_tx p) k refl
  once_counts luck now req (Ok planned) e = appended luck (drew_tx p) (draws (commit_counts (drew_tx p) planned.ops) planned.drawn) (txn_entries p.next_tx planned.ops) (answer.Replied planned.reply) refl
      (plain_never_undoes planned.reply (subst Sound e (plan_sound (ask p p.next_tx now) req))) (commit_counted p.counts p.next_tx planned.ops)

  step_counts : (luck : Luck) (now : ℕ) (req : Request) (f : OpenTransaction → Bool) (r : Option OpenTransaction) → find f p.open_txns ≡ r → Counted (planned_step luck p now req r)
  step_counts luck now req f None e = once_counts luck now req _ refl
  step_counts luck now req f (Some o) e = in_open_counts f o e now req _ refl

  define_counts : (luck : Luck) (d : Ddl) (r : Option Refusal) → Counted (define luck p d r)
  define_counts luck d None = appended luck p p (Defined d ∷ []) (answer.Replied reply.Done) refl refl (λ q. refl)
  define_counts luck d (Some r) = refused_counts p r refl

  alter_counts : (luck : Luck) (q : Bytes) (on : Bool) (r : Option Refusal) (def : Option QueueDef) → Counted (alter_queue luck p q on r def)
  alter_counts luck q on (Some r) def = refused_counts p r refl
  alter_counts luck q on None None = refused_counts p (refusal.NoQueue q) refl
  alter_counts luck q on None (Some def) = appended luck p p (cond (beq (is_on p.log def) on) [] (QueueSet q on ∷ [])) (answer.Replied reply.Done) refl refl (λ z. refl)

  begin_counts : (session : ℕ) (r : Option OpenTransaction) → Counted (begin p session r)
  begin_counts session (Some o) = refused_counts p (refusal.InTransaction o.tx) refl
  begin_counts session None = stays_counts (rolls p (answer.Replied (reply.Began p.next_tx))) p (begin p session None) (λ u. up) refl refl (λ q. refl)

  commit_asked_counts : (luck : Luck) (session : ℕ) (f : OpenTransaction → Bool) (r : Option OpenTransaction) → find f p.open_txns ≡ r → Counted (commit_asked luck p session r)
  commit_asked_counts luck session f None e = refused_counts p (refusal.NoTransaction (record { instance = p.who; number = session })) refl
  commit_asked_counts luck session f (Some o) e = commit_counts_to f o e luck

  rollback_asked_counts : (luck : Luck) (session : ℕ) (f : OpenTransaction → Bool) (r : Option OpenTransaction) → find f p.open_txns ≡ r → Counted (rollback_asked luck p session r)
  rollback_asked_counts luck session f None e = refused_counts p (refusal.NoTransaction (record { instance = p.who; number = session })) refl
  rollback_asked_counts luck session f (Some o) e = roll_counts f o e luck answer.Replied refl

  pub session_counts : (luck : Luck) (session now : ℕ) (req : Request) → Counted (session_request luck p session now req)
  session_counts luck session now (request.Define d) = define_counts luck d _
  session_counts luck session now (request.AlterQueue q on) = alter_counts luck q on _ _
  session_counts luck session now request.Begin = begin_counts session _
  session_counts luck session now request.Commit = commit_asked_counts luck session _ (session_open p session) refl
  session_counts luck session now request.Rollback = rollback_asked_counts luck session _ (session_open p session) refl
  session_counts luck session now (request.BeginDialog a b c d e k) = step_counts luck now (request.BeginDialog a b c d e k) _ (session_open p session) refl
  session_counts luck session now (request.Send a b c) = step_counts luck now (request.Send a b c) _ (session_open p session) refl
  session_counts luck session now (request.Receive a b c) = step_counts luck now (request.Receive a b c) _ (session_open p session) refl
  session_counts luck session now (request.GetGroup a) = step_counts luck now (request.GetGroup a) _ (session_open p session) refl
  session_counts luck session now (request.Move a b) = step_counts luck now (request.Move a b) _ (session_open p session) refl
  session_counts luck session now (request.End a b) = step_counts luck now (request.End a b) _ (session_open p session) refl
  session_counts luck session now (request.Timer a b) = step_counts luck now (request.Timer a b) _ (session_open p session) refl
  session_counts luck session now (request.Insert a b c d) = step_counts luck now (request.Insert a b c d) _ (session_open p session) refl
  session_counts luck session now (request.Update a b c d) = step_counts luck now (request.Update a b c d) _ (session_open p session) refl
  session_counts luck session now (request.Delete a b) = step_counts luck now (request.Delete a b) _ (session_open p session) refl
  session_counts luck session now (request.Read a b) = step_counts luck now (request.Read a b) _ (session_open p session) refl

  -- ---- deliveries and timers, which roll nothing back

  abbrev pub CountedNone : Done → Type 0
  CountedNone d = CountsTo p d (λ q. false)

  accept_counts : (luck : Luck) (after : Part) (d : Data) (v : Verdict) → after.counts ≡ p.counts → CountedNone (accept_data luck p after d v)
  accept_counts luck after d New same = plain_counts (λ a q. false) luck p p (draws after 2) (data_entry p d ∷ []) (verdict_told New) up refl (λ q. refl) (λ r q. refl) (λ q. ap (λ c. count_of c q) same)
  accept_counts luck after d Next same = plain_counts (λ a q. false) luck p p after (data_entry p d ∷ []) (verdict_told Next) up refl (λ q. refl) (λ r q. refl) (λ q. ap (λ c. count_of c q) same)
  accept_counts luck after d Repeat same = stays_counts (λ q. false) p (accept_data luck p after d Repeat) (λ u. up) same refl (λ q. refl)
  accept_counts luck after d Gone same = stays_counts (λ q. false) p (accept_data luck p after d Gone) (λ u. up) same refl (λ q. refl)
  accept_counts luck after d Early same = stays_counts (λ q. false) p (accept_data luck p after d Early) (λ u. up) same refl (λ q. refl)
  accept_counts luck after d (NotHere n) same = stays_counts (λ q. false) p (accept_data luck p after d (NotHere n)) (λ u. up) same refl (λ q. refl)
  accept_counts luck after d AckNew same = stays_counts (λ q. false) p (accept_data luck p after d AckNew) (λ u. up) same refl (λ q. refl)
  accept_counts luck after d AckOld same = stays_counts (λ q. false) p (accept_data luck p after d AckOld) (λ u. up) same refl (λ q. refl)

  deliver_counts : (luck : Luck) (d : Data) (v : Verdict) → CountedNone (deliver_data luck p d v)
  deliver_counts luck d v = by_owes (owes v)
    where
      by_owes : (c : Bool) → CountedNone (accept_data luck p (cond c (record p { owed = set_owed p.owed (receiver d) d.header.from }) p) d v)
      by_owes true = accept_counts luck (record p { owed = set_owed p.owed (receiver d) d.header.from }) d v refl
      by_owes false = accept_counts luck p d v refl

  ack_counts : (luck : Luck) (k : Ack) (v : Verdict) → CountedNone (deliver_ack luck p k v)
  ack_counts luck k AckNew = plain_counts (λ a q. false) luck p p p (Acked k.side k.upto k.closed ∷ []) (verdict_told AckNew) up refl (λ q. refl) (λ r q. refl) (λ q. refl)
  ack_counts luck k AckOld = stays_counts (λ q. false) p (deliver_ack luck p k AckOld) (λ u. up) refl refl (λ q. refl)
  ack_counts luck k New = stays_counts (λ q. false) p (deliver_ack luck p k New) (λ u. up) refl refl (λ q. refl)
  ack_counts luck k Next = stays_counts (λ q. false) p (deliver_ack luck p k Next) (λ u. up) refl refl (λ q. refl)
  ack_counts luck k Repeat = stays_counts (λ q. false) p (deliver_ack luck p k Repeat) (λ u. up) refl refl (λ q. refl)
  ack_counts luck k Gone = stays_counts (λ q. false) p (deliver_ack luck p k Gone) (λ u. up) refl refl (λ q. refl)
  ack_counts luck k Early = stays_counts (λ q. false) p (deliver_ack luck p k Early) (λ u. up) refl refl (λ q. refl)
  ack_counts luck k (NotHere n) = stays_counts (λ q. false) p (deliver_ack luck p k (NotHere n)) (λ u. up) refl refl (λ q. refl)

  pub frame_counts : (luck : Luck) (f : Frame) → CountedNone (deliver_frame luck p f)
  frame_counts luck (frame.Data d) = deliver_counts luck d (verdict p.who p.log d)
  frame_counts luck (frame.Ack k) = ack_counts luck k (ack_verdict p.who p.log k)

  pub handed_counts : (luck : Luck) (d : Data) (v : Verdict) → CountedNone (accept_data luck p p d v)
  handed_counts luck d v = accept_counts luck p d v refl

  pub fired_counts : (luck : Luck) (s : SideId) (k : DueKind) → CountedNone (append luck p (fired_entry s k ∷ []) answer.Fired p)
  fired_counts luck s due_kind.Timer = plain_counts (λ a q. false) luck p p p (fired_entry s due_kind.Timer ∷ []) answer.Fired up refl (λ q. refl) (λ r q. refl) (λ q. refl)
  fired_counts luck s due_kind.Lifetime = plain_counts (λ a q. false) luck p p p (fired_entry s due_kind.Lifetime ∷ []) answer.Fired up refl (λ q. refl) (λ r q. refl) (λ q. refl)

  pub started_counts : (q : Bytes) (g : Handle) → Counted (started_on p q g)
  started_counts q g = stays_counts (rolls p (answer.Started p.next_tx)) p (started_on p q g) (λ u. up) refl refl (λ z. refl)
