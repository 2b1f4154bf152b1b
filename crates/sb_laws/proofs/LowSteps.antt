-- Each step keeps handles and numbers below a bound that rises by four, so a history of few steps stays fresh.
use Rattle.std.proofs.Common.{◌≡◌, ℕ, Bool, true, false, List, [], ◌∷◌, ◌++◌, ◌+◌, ◌≤◌, ◌<◌, Option, Some, None, Ok, Err, refl, subst, arith, cond, map}
use Rattle.std.specs.Prelude.{filter, flat_map, find, not, IsTrue, ◌==◌}
use Rattle.std.specs.Option.{option_eq, option_map_or}
use Rattle.std.specs.Bool.{beq}
use Rattle.std.specs.List.{AllByRecursion}
use Rattle.sb_log.specs.declared.identifiers.Handle.{Handle}
use Rattle.sb_log.specs.declared.identifiers.SideId.{SideId}
use Rattle.sb_log.specs.declared.definitions.Ddl.{Ddl}
use Rattle.sb_log.specs.declared.definitions.QueueDef.{QueueDef}
use Rattle.sb_log.specs.declared.entries.Entry.{Entry}
use Rattle.sb_log.specs.declared.entries.Entry.TheVariants.{Defined, Accepted, Acked, QueueSet}
use Rattle.sb_log.specs.declared.entries.Op.{Op}
use Rattle.sb_log.specs.declared.messages.Ack.{Ack}
use Rattle.sb_log.specs.declared.messages.Data.{Data}
use Rattle.sb_log.specs.declared.messages.Frame.{Frame}
use Rattle.sb_log.specs.declared.messages.Frame.TheVariants as frame
use Rattle.sb_log.specs.declared.refusals.Refusal.{Refusal}
use Rattle.sb_log.specs.declared.refusals.Refusal.TheVariants as refusal
use Rattle.sb_log.specs.declared.requests.Reply.{Reply}
use Rattle.sb_log.specs.declared.requests.Reply.TheVariants as reply
use Rattle.sb_log.specs.declared.requests.Request.{Request}
use Rattle.sb_log.specs.declared.requests.Request.TheVariants as request
use Rattle.sb_log.specs.declared.steps.Answer.{Answer}
use Rattle.sb_log.specs.declared.steps.Answer.TheVariants as answer
use Rattle.sb_log.specs.declared.steps.DueKind.{DueKind}
use Rattle.sb_log.specs.declared.steps.DueKind.TheVariants as due_kind
use Rattle.sb_log.specs.declared.steps.Event.TheVariants as event
use Rattle.sb_log.specs.declared.steps.Verdict.{Verdict}
use Rattle.sb_log.specs.declared.steps.Verdict.TheVariants.{New, Next, Repeat, Early, Gone, NotHere, AckNew, AckOld}
use Rattle.sb_model.specs.Sides.{Bytes}
use Rattle.sb_model.specs.Catalog.{is_on}
use Rattle.sb_model.specs.Acceptance.{verdict, ack_verdict, makes_side, receiver}
use Rattle.sb_model.specs.Transactions.{OpenTransaction, Owner, find_open, view, with_ops}
use Rattle.sb_model.specs.Transactions as open_as
use Rattle.sb_model.specs.Instance.{Part, Luck, Works, Fails, Done, append, append_to, written, luck_at, no_room, refused, has_name, queue_taken}
use Rattle.sb_model.specs.Rollbacks.{without_open, released, end_owner, rolled_back, roll_back_with, has_room, off_entries, off_entry, off_names}
use Rattle.sb_model.specs.Replies.{Plan, Planned, plan, seen}
use Rattle.sb_model.specs.Statements.{txn_entries, add_plan, with_plan, after_plan, ask, draws, commit_counts, fresh_open, commit, drew_tx, at_once, in_open, planned_step, define, alter_queue, begin, commit_asked, rollback_asked, session_open, session_request, session_step, refused_reader, set_wait, wait_or_deadlock, reader_refused, reader_planned, commit_refusal, reader_commit, reader_request, started_on}
use Rattle.sb_model.specs.Steps.{told, deliver_data, deliver_ack, deliver_frame, arrive, accept_data, data_entry, owes, set_owed, new_handle, fired_entry}
use Rattle.sb_laws.specs.Fresh.{spells_low}
use Rattle.sb_laws.proofs.Grow.{all_weaker, all_append}
use Rattle.sb_laws.proofs.Delivered.{found_passes}
use Rattle.std.proofs.lemmas.Bool.{eqb-true}
use Rattle.sb_laws.proofs.Taking.{all_filter}
use Rattle.sb_laws.proofs.PlanCases.{all_found}
use Rattle.sb_laws.proofs.Parts.{all_map, mod_least}
use Rattle.sb_laws.proofs.Low.{IsLow, OpLow, EntryLow, LogLow, OpenLow, FrameLow, op_later, entry_later, low_view}
use Rattle.sb_laws.proofs.LowPlans.{PlanLow, plan_low, drawn_is_low}
use Rattle.sb_laws.proofs.PlanForms.{OfPlan}

-- ---- one instance

pub record PartLow (top : ℕ) (p : Part) : Type 0 where
  pub log : LogLow top p.log
  pub doubt : LogLow top p.doubt
  pub opens : AllByRecursion (OpenLow top) p.open_txns
  pub handles : p.next_handle ≤ top
  pub txs : p.next_tx ≤ top

pub part_later : (low top : ℕ) → low ≤ top → (p : Part) → PartLow low p → PartLow top p
part_later low top le p h = record {
  log = all_weaker (EntryLow low) (EntryLow top) (entry_later low top le) p.log h.log;
  doubt = all_weaker (EntryLow low) (EntryLow top) (entry_later low top le) p.doubt h.doubt;
  opens = all_weaker (OpenLow low) (OpenLow top) (λ o k. let t = k.0 in (omega (arith, t, le), all_weaker (OpLow low) (OpLow top) (op_later low top le) o.ops k.1)) p.open_txns h.opens;
  handles = let k = h.handles in omega (arith, k, le);
  txs = let k = h.txs in omega (arith, k, le);
}

-- entries are written, or their write fails, or they are refused
append_low : (top : ℕ) (luck : Luck) (p after : Part) (es : List Entry) (told : Answer) → PartLow top p → PartLow top after → LogLow top es → PartLow top (append luck p es told after).part
append_low top luck p after [] told h k e = k
append_low top luck p after (e ∷ es) told h k new = by_room (no_room p (e ∷ es))
  where
    by_luck : (l : Luck) → PartLow top (written l p (e ∷ es) told after).part
    by_luck Works = record { log = all_append (EntryLow top) after.log (e ∷ es) k.log new; doubt = k.doubt; opens = k.opens; handles = k.handles; txs = k.txs }
    by_luck Fails = record { log = h.log; doubt = new; opens = tt; handles = h.handles; txs = h.txs }

    by_room : (r : Option Refusal) → PartLow top (append_to luck p (e ∷ es) told after r).part
    by_room (Some r) = h
    by_room None = by_luck (luck_at p.end luck)

-- other open transactions, all else the same
with_opens : (top : ℕ) (p : Part) (opens : List OpenTransaction) → PartLow top p → AllByRecursion (OpenLow top) opens → PartLow top (record p { open_txns = opens })
with_opens top p opens h k = record { log = h.log; doubt = h.doubt; opens = k; handles = h.handles; txs = h.txs }

without_low : (top : ℕ) (opens : List OpenTransaction) (tx : ℕ) → AllByRecursion (OpenLow top) opens → AllByRecursion (OpenLow top) (without_open opens tx)
without_low top opens tx h = all_map (OpenLow top) (OpenLow top) (released tx) one (filter (λ o. not (o.tx == tx)) opens) (all_filter (OpenLow top) (λ o. not (o.tx == tx)) opens h)
  where
    one : (o : OpenTransaction) → OpenLow top o → OpenLow top (released tx o)
    one o k = by_test (option_eq ◌==◌ o.waits_for (Some tx))
      where
        by_test : (c : Bool) → OpenLow top (cond c (record o { waits_for = None }) o)
        by_test true = k
        by_test false = k

owner_low : (top : ℕ) (owner : Owner) (o : OpenTransaction) (p : Part) → PartLow top p → PartLow top (end_owner owner o p)
owner_low top (open_as.Session n) o p h = h
owner_low top (open_as.Reader n q) o p h = by_test (has_name (flat_map queue_taken o.ops) q)
  where
    by_test : (c : Bool) → PartLow top (cond c p (record p { held = p.held ++ q ∷ [] }))
    by_test true = h
    by_test false = record { log = h.log; doubt = h.doubt; opens = h.opens; handles = h.handles; txs = h.txs }

txn_low : (top tx : ℕ) (ops : List Op) → tx < top → AllByRecursion (OpLow top) ops → LogLow top (txn_entries tx ops)
txn_low top tx [] t h = tt
txn_low top tx (op ∷ ops) t h = ((t, h), tt)

offs_low : (top : ℕ) (defs : List QueueDef) → LogLow top (map off_entry defs)
offs_low top [] = tt
offs_low top (d ∷ defs) = (tt, offs_low top defs)

commit_low : (top : ℕ) (luck : Luck) (p : Part) (o : OpenTransaction) → PartLow top p → OpenLow top o → PartLow top (commit luck p o).part
commit_low top luck p o h k = append_low top luck p _ (txn_entries o.tx o.ops) (answer.Replied (reply.Committed o.tx)) h
    (owner_low top o.owner o (commit_counts (record p { open_txns = without_open p.open_txns o.tx }) o.ops)
    (record { log = h.log; doubt = h.doubt; opens = without_low top p.open_txns o.tx h.opens; handles = h.handles; txs = h.txs }))
    (txn_low top o.tx o.ops k.0 k.1)

roll_low : (top : ℕ) (luck : Luck) (p : Part) (o : OpenTransaction) (told : Reply → Answer) → PartLow top p → PartLow top (roll_back_with luck p o told).part
roll_low top luck p o told h = append_low top luck p _ (cond (has_room p o) (off_entries p o) []) (told (reply.RolledBack o.tx (off_names p o))) h
    (owner_low top o.owner o (rolled_back (has_room p o) p o)
    (record { log = h.log; doubt = h.doubt; opens = without_low top p.open_txns o.tx h.opens; handles = h.handles; txs = h.txs }))
    (by_room (has_room p o))
  where
    by_room : (c : Bool) → LogLow top (cond c (off_entries p o) [])
    by_room true = offs_low top _
    by_room false = tt

draws_low : (low top : ℕ) (p : Part) (n : ℕ) → low + 2 ≤ top → n ≤ 2 → p.next_handle ≤ low → PartLow top p → PartLow top (draws p n)
draws_low low top p n le few at h = record { log = h.log; doubt = h.doubt; opens = h.opens; handles = omega (arith, mod_least (p.next_handle + n), le, few, at); txs = h.txs }

module _ (low top : ℕ) (le : low + 4 ≤ top) (p : Part) (h : PartLow low p) where
  later : PartLow top p
  later = part_later low top (omega (arith, le)) p h

  find_low : (q : OpenTransaction → Bool) (o : OpenTransaction) → find q p.open_txns ≡ Some o → OpenLow top o
  find_low q o e = all_found (OpenLow top) q p.open_txns o later.opens e

  -- the log as a transaction sees it
  seen_low : (tx now : ℕ) → LogLow low (seen (ask p tx now))
  seen_low tx now = by_open (find_open p.open_txns tx)
      (λ o e. subst (λ k. (k < low) × AllByRecursion (OpLow low) o.ops) (eqb-true o.tx tx (found_passes (λ z. z.tx == tx) p.open_txns o e)) (all_found (OpenLow low) (λ z. z.tx == tx) p.open_txns o h.opens e))
    where
      by_open : (r : Option OpenTransaction) → ((o : OpenTransaction) → r ≡ Some o → (tx < low) × AllByRecursion (OpLow low) o.ops) → LogLow low (option_map_or (λ o. with_ops p.log tx o.ops) r p.log)
      by_open None f = h.log
      by_open (Some o) f = let k = f o refl in low_view low p.log tx o.ops h.log k.0 k.1

  plans_low : (tx now : ℕ) (req : Request) → IsTrue (spells_low low (event.Asked req)) → OfPlan (PlanLow top) (plan (ask p tx now) req)
  plans_low tx now req spelled = plan_low low top le (ask p tx now) (seen_low tx now) h.handles req spelled

  -- ---- in a transaction

  after_low : (tx : ℕ) (planned : Plan) → PlanLow top planned → PartLow top (after_plan p tx planned)
  after_low tx planned k = draws_low low top (record p { open_txns = map (add_plan tx planned) p.open_txns }) planned.drawn (omega (arith, le)) k.few h.handles
      (with_opens top p (map (add_plan tx planned) p.open_txns) later (all_map (OpenLow top) (OpenLow top) (add_plan tx planned) one p.open_txns later.opens))
    where
      one : (o : OpenTransaction) → OpenLow top o → OpenLow top (add_plan tx planned o)
      one o l = by_test (o.tx == tx)
        where
          by_test : (c : Bool) → OpenLow top (cond c (with_plan planned o) o)
          by_test true = (l.0, all_append (OpLow top) o.ops planned.ops l.1 k.ops)
          by_test false = l

  in_open_low : (tx : ℕ) (r : Planned) → OfPlan (PlanLow top) r → PartLow top (in_open p tx r).part
  in_open_low tx (Err k) f = later
  in_open_low tx (Ok planned) f = after_low tx planned f

  drew_low : PartLow top (drew_tx p)
  drew_low = record { log = later.log; doubt = later.doubt; opens = later.opens; handles = later.handles; txs = let t = h.txs in omega (arith, mod_least (p.next_tx + 1), t, le) }

  at_once_low : (luck : Luck) (r : Planned) → OfPlan (PlanLow top) r → PartLow top (at_once luck (drew_tx p) p.next_tx r).part
  at_once_low luck (Err k) f = drew_low
  at_once_low luck (Ok planned) f = append_low top luck (drew_tx p) _ (txn_entries p.next_tx planned.ops) (answer.Replied planned.reply) drew_low
      (draws_low low top (commit_counts (drew_tx p) planned.ops) planned.drawn (omega (arith, le)) f.few h.handles
      (record { log = drew_low.log; doubt = drew_low.doubt; opens = drew_low.opens; handles = drew_low.handles; txs = drew_low.txs }))
      (txn_low top p.next_tx planned.ops (let t = h.txs in omega (arith, t, le)) f.ops)

  planned_low : (luck : Luck) (now : ℕ) (req : Request) (r : Option OpenTransaction) → IsTrue (spells_low low (event.Asked req)) → PartLow top (planned_step luck p now req r).part
  planned_low luck now req (Some o) spelled = in_open_low o.tx (plan (ask p o.tx now) req) (plans_low o.tx now req spelled)
  planned_low luck now req None spelled = at_once_low luck (plan (ask p p.next_tx now) req) (plans_low p.next_tx now req spelled)

  opened_low : (owner : Owner) (groups : List Handle) → AllByRecursion (OpenLow top) (p.open_txns ++ fresh_open owner p.next_tx groups ∷ [])
  opened_low owner groups = all_append (OpenLow top) p.open_txns (fresh_open owner p.next_tx groups ∷ []) later.opens ((let t = h.txs in omega (arith, t, le), tt), tt)

  begin_low : (session : ℕ) (r : Option OpenTransaction) → PartLow top (begin p session r).part
  begin_low session (Some o) = later
  begin_low session None = record { log = later.log; doubt = later.doubt; opens = opened_low (open_as.Session session) []; handles = later.handles; txs = drew_low.txs }

  pub started_low : (q : Bytes) (g : Handle) → PartLow top (started_on p q g).part
  started_low q g = record { log = later.log; doubt = later.doubt; opens = opened_low (open_as.Reader (p.last_reader + 1) q) (g ∷ []); handles = later.handles; txs = drew_low.txs }

  -- ---- sessions

  define_low : (luck : Luck) (d : Ddl) (r : Option Refusal) → PartLow top (define luck p d r).part
  define_low luck d None = append_low top luck p p (Defined d ∷ []) (answer.Replied reply.Done) later later (tt, tt)
  define_low luck d (Some r) = later

  alter_low : (luck : Luck) (q : Bytes) (on : Bool) (r : Option Refusal) (def : Option QueueDef) → PartLow top (alter_queue luck p q on r def).part
  alter_low luck q on (Some r) def = later
  alter_low luck q on None None = later
  alter_low luck q on None (Some def) = by_test (beq (is_on p.log def) on)
    where
      by_test : (c : Bool) → PartLow top (append luck p (cond c [] (QueueSet q on ∷ [])) (answer.Replied reply.Done) p).part
      by_test true = later
      by_test false = append_low top luck p p (QueueSet q on ∷ []) (answer.Replied reply.Done) later later (tt, tt)

  commit_asked_low : (luck : Luck) (session : ℕ) (q : OpenTransaction → Bool) (r : Option OpenTransaction) → find q p.open_txns ≡ r → PartLow top (commit_asked luck p session r).part
  commit_asked_low luck session q None e = later
  commit_asked_low luck session q (Some o) e = commit_low top luck p o later (find_low q o e)

  rollback_asked_low : (luck : Luck) (session : ℕ) (r : Option OpenTransaction) → PartLow top (rollback_asked luck p session r).part
  rollback_asked_low luck session None = later
  rollback_asked_low luck session (Some o) = roll_low top luck p o answer.Replied later

  session_low : (luck : Luck) (session now : ℕ) (req : Request) → IsTrue (spells_low low (event.Asked req)) → PartLow top (session_request luck p session now req).part
  session_low luck session now (request.Define d) spelled = define_low luck d _
  session_low luck session now (request.AlterQueue q on) spelled = alter_low luck q on _ _
  session_low luck session now request.Begin spelled = begin_low session _
  session_low luck session now request.Commit spelled = commit_asked_low luck session _ (session_open p session) refl
  session_low luck session now request.Rollback spelled = rollback_asked_low luck session (session_open p session)
  session_low luck session now (request.BeginDialog a b c d e f) spelled = planned_low luck now (request.BeginDialog a b c d e f) (session_open p session) spelled
  session_low luck session now (request.Send a b c) spelled = planned_low luck now (request.Send a b c) (session_open p session) spelled
  session_low luck session now (request.Receive a b c) spelled = planned_low luck now (request.Receive a b c) (session_open p session) spelled
  session_low luck session now (request.GetGroup a) spelled = planned_low luck now (request.GetGroup a) (session_open p session) spelled
  session_low luck session now (request.Move a b) spelled = planned_low luck now (request.Move a b) (session_open p session) spelled
  session_low luck session now (request.End a b) spelled = planned_low luck now (request.End a b) (session_open p session) spelled
  session_low luck session now (request.Timer a b) spelled = planned_low luck now (request.Timer a b) (session_open p session) spelled
  session_low luck session now (request.Insert a b c d) spelled = planned_low luck now (request.Insert a b c d) (session_open p session) spelled
  session_low luck session now (request.Update a b c d) spelled = planned_low luck now (request.Update a b c d) (session_open p session) spelled
  session_low luck session now (request.Delete a b) spelled = planned_low luck now (request.Delete a b) (session_open p session) spelled
  session_low luck session now (request.Read a b) spelled = planned_low luck now (request.Read a b) (session_open p session) spelled

  pub session_step_low : (luck : Luck) (session now : ℕ) (req : Request) → IsTrue (spells_low low (event.Asked req)) → PartLow top (session_step luck p session now req).part
  session_step_low luck session now req spelled = by_up p.up
    where
      by_up : (c : Bool) → PartLow top (let d : Done = cond c (session_request luck p session now req) (refused p (refusal.Down p.who)) in d.part)
      by_up true = session_low luck session now req spelled
      by_up false = later

  -- ---- readers

  module _ (o : OpenTransaction) (open_low : OpenLow top o) where
    wait_low : (luck : Luck) (on : ℕ) (c : Option (List ℕ)) → PartLow top (wait_or_deadlock luck p o on c).part
    wait_low luck on None = with_opens top p (map (set_wait o.tx on) p.open_txns) later (all_map (OpenLow top) (OpenLow top) (set_wait o.tx on) one p.open_txns later.opens)
      where
        one : (b : OpenTransaction) → OpenLow top b → OpenLow top (set_wait o.tx on b)
        one b k = by_test (b.tx == o.tx)
          where
            by_test : (c : Bool) → OpenLow top (cond c (record b { waits_for = Some on }) b)
            by_test true = k
            by_test false = k
    wait_low luck on (Some txs) = roll_low top luck p o (λ undone. answer.Refused (refusal.Deadlock (o.tx ∷ txs)) (Some undone)) later

    pub refused_low : (luck : Luck) (r : Refusal) → PartLow top (refused_reader luck p o r).part
    refused_low luck r = roll_low top luck p o (λ undone. answer.Refused r (Some undone)) later

    reader_refused_low : (luck : Luck) (r : Refusal) → PartLow top (reader_refused luck p o r).part
    reader_refused_low luck (refusal.GroupHeld on) = wait_low luck on _
    reader_refused_low luck (refusal.RowHeld on) = wait_low luck on _
    reader_refused_low luck r = refused_low luck r

    reader_planned_low : (luck : Luck) (r : Planned) → OfPlan (PlanLow top) r → PartLow top (reader_planned luck p o r).part
    reader_planned_low luck (Err r) f = reader_refused_low luck r
    reader_planned_low luck (Ok planned) f = after_low o.tx planned f

    reader_commit_low : (luck : Luck) (r : Option Refusal) → PartLow top (reader_commit luck p o r).part
    reader_commit_low luck None = commit_low top luck p o later open_low
    reader_commit_low luck (Some r) = refused_low luck r

    asked_low : (luck : Luck) (now : ℕ) (req : Request) → IsTrue (spells_low low (event.Asked req)) → PartLow top (reader_planned luck p o (plan (ask p o.tx now) req)).part
    asked_low luck now req spelled = reader_planned_low luck (plan (ask p o.tx now) req) (plans_low o.tx now req spelled)

    pub reader_low : (luck : Luck) (now : ℕ) (req : Request) → IsTrue (spells_low low (event.Asked req)) → PartLow top (reader_request luck p o now req).part
    reader_low luck now request.Commit spelled = reader_commit_low luck (commit_refusal p o)
    reader_low luck now request.Rollback spelled = roll_low top luck p o answer.Replied later
    reader_low luck now (request.Define a) spelled = refused_low luck (refusal.InTransaction o.tx)
    reader_low luck now (request.AlterQueue a b) spelled = refused_low luck (refusal.InTransaction o.tx)
    reader_low luck now request.Begin spelled = refused_low luck (refusal.InTransaction o.tx)
    reader_low luck now (request.BeginDialog a b c d e f) spelled = asked_low luck now (request.BeginDialog a b c d e f) spelled
    reader_low luck now (request.Send a b c) spelled = asked_low luck now (request.Send a b c) spelled
    reader_low luck now (request.Receive a b c) spelled = asked_low luck now (request.Receive a b c) spelled
    reader_low luck now (request.GetGroup a) spelled = asked_low luck now (request.GetGroup a) spelled
    reader_low luck now (request.Move a b) spelled = asked_low luck now (request.Move a b) spelled
    reader_low luck now (request.End a b) spelled = asked_low luck now (request.End a b) spelled
    reader_low luck now (request.Timer a b) spelled = asked_low luck now (request.Timer a b) spelled
    reader_low luck now (request.Insert a b c d) spelled = asked_low luck now (request.Insert a b c d) spelled
    reader_low luck now (request.Update a b c d) spelled = asked_low luck now (request.Update a b c d) spelled
    reader_low luck now (request.Delete a b) spelled = asked_low luck now (request.Delete a b) spelled
    reader_low luck now (request.Read a b) spelled = asked_low luck now (request.Read a b) spelled

  -- ---- deliveries

  accept_low : (luck : Luck) (after : Part) (d : Data) (v : Verdict) → IsLow low d.side.conversation → after.next_handle ≤ low → PartLow top after → PartLow top (accept_data luck p after d v).part
  accept_low luck after d v f at k = by_verdict v
    where
      entry_low : (c : Bool) → EntryLow top (Accepted (receiver d) d.number (cond c (Some (record { handle = new_handle p 0; group = new_handle p 1; header = d.header })) None) d.content)
      entry_low true = (omega (arith, f, le), drawn_is_low p.who p.next_handle 0 top (let n = h.handles in omega (arith, n, le)), drawn_is_low p.who p.next_handle 1 top (let n = h.handles in omega (arith, n, le)))
      entry_low false = tt

      by_verdict : (w : Verdict) → PartLow top (accept_data luck p after d w).part
      by_verdict New = append_low top luck p (draws after 2) (data_entry p d ∷ []) _ later (draws_low low top after 2 (omega (arith, le)) (omega arith) at k) (entry_low (makes_side p.log d), tt)
      by_verdict Next = append_low top luck p after (data_entry p d ∷ []) _ later k (entry_low (makes_side p.log d), tt)
      by_verdict Repeat = k
      by_verdict Gone = k
      by_verdict Early = k
      by_verdict (NotHere n) = k
      by_verdict AckNew = k
      by_verdict AckOld = k

  deliver_low : (luck : Luck) (d : Data) (v : Verdict) → IsLow low d.side.conversation → PartLow top (deliver_data luck p d v).part
  deliver_low luck d v f = by_owes (owes v)
    where
      by_owes : (c : Bool) → PartLow top (accept_data luck p (cond c (record p { owed = set_owed p.owed (receiver d) d.header.from }) p) d v).part
      by_owes true = accept_low luck (record p { owed = set_owed p.owed (receiver d) d.header.from }) d v f h.handles
          (record { log = later.log; doubt = later.doubt; opens = later.opens; handles = later.handles; txs = later.txs })
      by_owes false = accept_low luck p d v f h.handles later

  ack_low : (luck : Luck) (k : Ack) (v : Verdict) → PartLow top (deliver_ack luck p k v).part
  ack_low luck k AckNew = append_low top luck p p (Acked k.side k.upto k.closed ∷ []) _ later later (tt, tt)
  ack_low luck k AckOld = later
  ack_low luck k New = later
  ack_low luck k Next = later
  ack_low luck k Repeat = later
  ack_low luck k Gone = later
  ack_low luck k Early = later
  ack_low luck k (NotHere n) = later

  pub arrive_low : (luck : Luck) (f : Frame) → FrameLow low f → PartLow top (arrive luck p f).part
  arrive_low luck f k = by_up p.up
    where
      by_frame : (g : Frame) → FrameLow low g → PartLow top (deliver_frame luck p g).part
      by_frame (frame.Data d) l = deliver_low luck d (verdict p.who p.log d) l
      by_frame (frame.Ack a) l = ack_low luck a (ack_verdict p.who p.log a)

      by_up : (c : Bool) → PartLow top (let d : Done = cond c (deliver_frame luck p f) (refused p (refusal.Down p.who)) in d.part)
      by_up true = by_frame f k
      by_up false = later

  pub handed_low : (luck : Luck) (d : Data) (v : Verdict) → IsLow low d.side.conversation → PartLow top (accept_data luck p p d v).part
  handed_low luck d v f = accept_low luck p d v f h.handles later

  pub fired_low : (luck : Luck) (s : SideId) (k : DueKind) → PartLow top (append luck p (fired_entry s k ∷ []) answer.Fired p).part
  fired_low luck s due_kind.Timer = append_low top luck p p (fired_entry s due_kind.Timer ∷ []) answer.Fired later later (tt, tt)
  fired_low luck s due_kind.Lifetime = append_low top luck p p (fired_entry s due_kind.Lifetime ∷ []) answer.Fired later later (tt, tt)
