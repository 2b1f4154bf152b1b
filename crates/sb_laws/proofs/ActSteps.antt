-- What statements of sessions and readers do to the open transactions by their acts.
use Rattle.std.proofs.Common.{◌≡◌, ℕ, Bool, true, false, List, [], ◌∷◌, ◌++◌, ◌+◌, ◌<◌, Option, Some, None, Ok, Err, refl, sym, ◌∙◌, ap, subst, arith, cond, inl, inr, map}
use Rattle.std.specs.Prelude.{flat_map, find, not, ◌⊎◌, ◌==◌, ◌&&◌, ◌||◌, option_map, option_and_then, is_none}
use Rattle.std.specs.Option.{option_eq}
use Rattle.std.specs.Bool.{beq}
use Rattle.std.specs.List.{AllByRecursion}
use Rattle.std.proofs.lemmas.Option.{same_Some}
use Rattle.std.proofs.lemmas.Bool.Decides.{nat_tests}
use Rattle.sb_log.specs.declared.identifiers.Handle.{Handle}
use Rattle.sb_log.specs.declared.identifiers.Session.{Session}
use Rattle.sb_log.specs.declared.definitions.Ddl.{Ddl}
use Rattle.sb_log.specs.declared.definitions.QueueDef.{QueueDef}
use Rattle.sb_log.specs.declared.entries.Entry.{Entry}
use Rattle.sb_log.specs.declared.entries.Entry.TheVariants.{Defined, QueueSet}
use Rattle.sb_log.specs.declared.refusals.Refusal.{Refusal}
use Rattle.sb_log.specs.declared.refusals.Refusal.TheVariants as refusal
use Rattle.sb_log.specs.declared.requests.Reply.{Reply}
use Rattle.sb_log.specs.declared.requests.Reply.TheVariants as reply
use Rattle.sb_log.specs.declared.requests.Request.{Request}
use Rattle.sb_log.specs.declared.requests.Request.TheVariants as request
use Rattle.sb_log.specs.declared.steps.Answer.{Answer}
use Rattle.sb_log.specs.declared.steps.Answer.TheVariants as answer
use Rattle.sb_model.specs.Sides.{Bytes, makings, same_id, same_name}
use Rattle.sb_model.specs.Catalog.{find_queue, is_on, queues}
use Rattle.sb_model.specs.Definitions.{define_refusal}
use Rattle.sb_model.specs.Transactions.{OpenTransaction, Owner, find_open, is_free, with_ops, view}
use Rattle.sb_model.specs.Transactions as open_as
use Rattle.sb_model.specs.Instance.{Part, Luck, Works, Fails, Done, append, append_to, written, luck_at, no_room, grown, down_with, refused, has_name, queue_taken}
use Rattle.sb_model.specs.Pick.{Pick}
use Rattle.sb_model.specs.Replies.{Plan, Planned, plan}
use Rattle.sb_model.specs.Rollbacks.{without_open, end_owner, rolled_back, roll_back_with, has_room, off_entries, off_entry, off_names}
use Rattle.sb_model.specs.Statements.{txn_entries, after_plan, ask, draws, commit_counts, fresh_open, commit, drew_tx, at_once, in_open, in_transaction, planned_step, define, alter_queue, begin, commit_asked, rollback_asked, session_open, session_request, refused_reader, set_wait, wait_or_deadlock, reader_refused, reader_planned, refusal_of_entries, commit_refusal, reader_commit, reader_request, start_pick, started_on, start_step, may_start_on}
use Rattle.sb_model.specs.Steps.{part, World, words_told}
use Rattle.sb_model.specs.Histories.{Act, mark, act_of, asks_commit, has_plan, open_acts, failed_acts, session_acts, reader_acts, start_acts, is_refused, is_disk_failed, disk_failed_at, failure_ends, all_end}
use Rattle.sb_laws.specs.Worlds.{HasRoom}
use Rattle.sb_laws.proofs.Grow.{all_weaker}
use Rattle.sb_laws.proofs.Sides.{ids_same, both_right}
use Rattle.sb_laws.proofs.Opens.{IsCounted, LogOk, IsOpenOk, LiveOk}
use Rattle.sb_laws.proofs.PlanCases.{plan_fine, IsFine}
use Rattle.sb_laws.proofs.Parts.{PartOk, log_ok, find_again}
use Rattle.sb_laws.proofs.Steps.{view_is, view_ok, view_counted, view_none, start_free}
use Rattle.sb_laws.proofs.Undisked.{plain_never_waits, is_disk, Sound, plan_sound, NoDisk, or_else_sound, define_sound, room_sound}
use Rattle.sb_laws.specs.Waits.{HasNoCircle}
use Rattle.sb_laws.proofs.Circles.{waits_no_circle, no_circle_pushed}
use Rattle.sb_model.specs.Statements.{chain}
use Rattle.sb_laws.proofs.Acts.{Held, Holds, ops_open, Effect, IsNoTxn, effect_none}
use Rattle.sb_laws.proofs.ActForms.{act, ends_of, any_append, held_waiting, open_waiting, open_pushed, effect_falls, effect_commit_falls, effect_ends, effect_planned, effect_once, effect_once_falls, effect_started}

clash : {P : Type 0} → true ≡ false → P
clash e = cc

-- where a disk failed all transactions of that instance end
abbrev pub failing : World → Answer → List Act
failing w given = failure_ends w (disk_failed_at given)

-- ---- refusals that are no disk's

pub undisked : (r : Refusal) (back : Option Reply) → is_disk r ≡ false → (is_disk_failed (answer.Refused r back) ≡ false) × (disk_failed_at (answer.Refused r back) ≡ None)
undisked (refusal.DiskFailed x) back e = clash e
undisked r back e = (refl, refl)

pub failing_none : (w : World) (r : Refusal) (back : Option Reply) → is_disk r ≡ false → failing w (answer.Refused r back) ≡ []
failing_none w r back e = ap (failure_ends w) (undisked r back e).1

pub falls : (w : World) (p : Part) → part w p.who ≡ p → failure_ends w (Some p.who) ≡ ends_of p.who p.open_txns
falls w p own = ap all_end own

-- ---- an append: nothing to write, refused, written or failed

pub append_is : (C : Done → Type 0) (luck : Luck) (p after : Part) (es : List Entry) (told : Answer) → (es ≡ [] → C (record { answer = told; added = []; part = after })) →
    ((r : Refusal) → (es ≡ [] → ⊥) → no_room p es ≡ Some r → C (refused p r)) → C (record { answer = told; added = es; part = grown after es }) →
    C (record { answer = answer.Refused (refusal.DiskFailed p.who) None; added = []; part = down_with p es }) → C (append luck p es told after)
append_is C luck p after [] told a b c d = a refl
append_is C luck p after (e ∷ es) told a b c d = by_room (no_room p (e ∷ es)) refl
  where
    by_luck : (l : Luck) → C (written l p (e ∷ es) told after)
    by_luck Works = c
    by_luck Fails = d

    not_none : (let l : List Entry = e ∷ es in l) ≡ [] → ⊥
    not_none f = cc

    by_room : (o : Option Refusal) → no_room p (e ∷ es) ≡ o → C (append_to luck p (e ∷ es) told after o)
    by_room (Some r) f = b r not_none f
    by_room None f = by_luck (luck_at p.end luck)

room_undisked : (p : Part) (es : List Entry) (r : Refusal) → no_room p es ≡ Some r → is_disk r ≡ false
room_undisked p es r e = subst NoDisk e (room_sound p es)

owner_opens : (owner : Owner) (o : OpenTransaction) (r : Part) → (end_owner owner o r).open_txns ≡ r.open_txns
owner_opens (open_as.Session n) o r = refl
owner_opens (open_as.Reader n q) o r = by_test (has_name (flat_map queue_taken o.ops) q)
  where
    by_test : (c : Bool) → (let z : Part = cond c r (record r { held = r.held ++ q ∷ [] }) in z.open_txns) ≡ r.open_txns
    by_test true = refl
    by_test false = refl

owner_doubt : (owner : Owner) (o : OpenTransaction) (r : Part) → (end_owner owner o r).doubt ≡ r.doubt
owner_doubt (open_as.Session n) o r = refl
owner_doubt (open_as.Reader n q) o r = by_test (has_name (flat_map queue_taken o.ops) q)
  where
    by_test : (c : Bool) → (let z : Part = cond c r (record r { held = r.held ++ q ∷ [] }) in z.doubt) ≡ r.doubt
    by_test true = refl
    by_test false = refl

owner_up : (owner : Owner) (o : OpenTransaction) (r : Part) → (end_owner owner o r).up ≡ r.up
owner_up (open_as.Session n) o r = refl
owner_up (open_as.Reader n q) o r = by_test (has_name (flat_map queue_taken o.ops) q)
  where
    by_test : (c : Bool) → (let z : Part = cond c r (record r { held = r.held ++ q ∷ [] }) in z.up) ≡ r.up
    by_test true = refl
    by_test false = refl

pub effect_stays : (p : Part) → Effect p p [] []
effect_stays p = effect_none p p [] (λ tx gs h. h) (λ k. k) (λ tx. refl) tt (inr refl)

-- entries that are no transactions, from an instance whose open transactions stay
pub quiet_effect : (w : World) (luck : Luck) (p after : Part) (es : List Entry) (told : Answer) → part w p.who ≡ p → disk_failed_at told ≡ None → after.open_txns ≡ p.open_txns → after.doubt ≡ p.doubt → AllByRecursion IsNoTxn es →
    Effect p (append luck p es told after).part (failing w (append luck p es told after).answer) (append luck p es told after).added
quiet_effect w luck p after es told own fine opens doubt none = append_is (λ d. Effect p d.part (failing w d.answer) d.added) luck p after es told
    (λ e. subst (λ l. Effect p after l []) (sym no_failure) (effect_none p after [] keep rank same tt (inr doubt)))
    (λ r e f. subst (λ l. Effect p p l []) (sym (failing_none w r None (room_undisked p es r f))) (effect_stays p))
    (subst (λ l. Effect p (grown after es) l es) (sym no_failure) (effect_none p (grown after es) es keep rank same none (inr doubt)))
    (subst (λ l. Effect p (down_with p es) l []) (sym (falls w p own)) (effect_falls p es none))
  where
    no_failure : failing w told ≡ []
    no_failure = ap (failure_ends w) fine

    keep : (tx : ℕ) (gs : List Handle) → Held p.open_txns tx gs → Held after.open_txns tx gs
    keep tx gs h = subst (λ V. Held V tx gs) (sym opens) h

    rank : HasNoCircle p.open_txns → HasNoCircle after.open_txns
    rank k = subst HasNoCircle (sym opens) k

    same : (tx : ℕ) → ops_open p.open_txns tx ≡ ops_open after.open_txns tx
    same tx = ap (λ V. ops_open V tx) (sym opens)

offs_no_txn : (defs : List QueueDef) → AllByRecursion IsNoTxn (map off_entry defs)
offs_no_txn [] = tt
offs_no_txn (d ∷ defs) = (tt, offs_no_txn defs)

-- a refused statement of a session has no act
pub session_quiet : (w : World) (p : Part) (req : Request) (given : Answer) (open_one : Option OpenTransaction) → is_disk_failed given ≡ false → is_refused given ≡ true → session_acts w p req given open_one ≡ []
session_quiet w p req given (Some o) e f = ap (λ b. cond b (failed_acts p req o) (cond (is_refused given) [] (open_acts w p req o))) e ∙ ap (λ b. cond b [] (open_acts w p req o)) f
session_quiet w p req given None e f = ap (λ b. cond (has_plan req && (b || not (is_refused given))) (act_of p.who p.next_tx true (plan (ask p p.next_tx w.moment) req)) []) e
    ∙ ap (λ b. cond (has_plan req && not b) (act_of p.who p.next_tx true (plan (ask p p.next_tx w.moment) req)) []) f ∙ by_test (has_plan req)
  where
    by_test : (b : Bool) → cond (b && false) (act_of p.who p.next_tx true (plan (ask p p.next_tx w.moment) req)) [] ≡ []
    by_test true = refl
    by_test false = refl

-- the acts of a request that has a plan
record IsAsked (w : World) (p : Part) (req : Request) : Type 0 where
  in_open_is : (o : OpenTransaction) → open_acts w p req o ≡ act_of p.who o.tx false (plan (ask p o.tx w.moment) req)
  planned : has_plan req ≡ true

module _ (w : World) (p : Part) (own : part w p.who ≡ p) (h : PartOk p) (room : HasRoom p) (up : p.up ≡ true) where
  abbrev U : List OpenTransaction
  U = p.open_txns

  no_doubt : p.doubt ≡ []
  no_doubt = h.quiet up

  live : LiveOk p.who p.log p.next_handle p.next_tx U
  live = h.live up

  below : AllByRecursion (λ b. (b.tx == p.next_tx) ≡ false) U
  below = all_weaker (IsOpenOk p.who p.log p.next_handle p.next_tx) (λ b. (b.tx == p.next_tx) ≡ false) (λ b o. apart b.tx p.next_tx o.below) U live.each
    where
      apart : (m n : ℕ) → m < n → (m == n) ≡ false
      apart m n lt = grind (arith, nat_tests)

  session_none : (req : Request) (given : Answer) (open_one : Option OpenTransaction) → is_disk_failed given ≡ false → is_refused given ≡ true → session_acts w p req given open_one ≡ []
  session_none req given open_one e f = session_quiet w p req given open_one e f

  -- of a session
  abbrev BySession : Request → Option OpenTransaction → Done → Type 0
  BySession req o d = Effect p d.part (session_acts w p req d.answer o ++ failing w d.answer) d.added

  session_refused : (req : Request) (o : Option OpenTransaction) (q : Part) (r : Refusal) → q.open_txns ≡ U → q.doubt ≡ p.doubt → is_disk r ≡ false → BySession req o (refused q r)
  session_refused req o q r opens doubt e =
      subst (λ l. Effect p q l []) (sym (ap (λ l. l ++ failing w (answer.Refused r None)) (session_none req (answer.Refused r None) o (undisked r None e).0 refl) ∙ failing_none w r None e))
      (effect_none p q [] (λ tx gs k. subst (λ V. Held V tx gs) (sym opens) k) (λ k. subst HasNoCircle (sym opens) k) (λ tx. ap (λ V. ops_open V tx) (sym opens)) tt (inr doubt))

  none_twice : (a b : Bool) → cond a (let l : List Act = [] in l) (cond b [] []) ≡ []
  none_twice true b = refl
  none_twice false true = refl
  none_twice false false = refl

  define_effect : (luck : Luck) (d : Ddl) (o : Option OpenTransaction) (r : Option Refusal) → NoDisk r → BySession (request.Define d) o (define luck p d r)
  define_effect luck d o None e = subst (λ l. Effect p (define luck p d None).part (l ++ failing w (define luck p d None).answer) (define luck p d None).added) (sym (none_here (define luck p d None).answer o))
      (quiet_effect w luck p p (Defined d ∷ []) (answer.Replied reply.Done) own refl refl refl (tt, tt))
    where
      none_here : (given : Answer) (k : Option OpenTransaction) → session_acts w p (request.Define d) given k ≡ []
      none_here given None = refl
      none_here given (Some k) = none_twice (is_disk_failed given) (is_refused given)
  define_effect luck d o (Some r) e = session_refused (request.Define d) o p r refl refl e

  alter_effect : (luck : Luck) (q : Bytes) (on : Bool) (o : Option OpenTransaction) (def : Option QueueDef) → BySession (request.AlterQueue q on) o (alter_queue luck p q on (in_transaction o) def)
  alter_effect luck q on (Some o) def = session_refused (request.AlterQueue q on) (Some o) p (refusal.InTransaction o.tx) refl refl refl
  alter_effect luck q on None None = session_refused (request.AlterQueue q on) None p (refusal.NoQueue q) refl refl refl
  alter_effect luck q on None (Some def) = by_test (beq (is_on p.log def) on)
    where
      by_test : (c : Bool) → Effect p (append luck p (cond c [] (QueueSet q on ∷ [])) (answer.Replied reply.Done) p).part (failing w (append luck p (cond c [] (QueueSet q on ∷ [])) (answer.Replied reply.Done) p).answer)
          (append luck p (cond c [] (QueueSet q on ∷ [])) (answer.Replied reply.Done) p).added
      by_test true = quiet_effect w luck p p [] (answer.Replied reply.Done) own refl refl refl tt
      by_test false = quiet_effect w luck p p (QueueSet q on ∷ []) (answer.Replied reply.Done) own refl refl refl (tt, tt)

  begin_effect : (session : ℕ) (o : Option OpenTransaction) → BySession request.Begin o (begin p session o)
  begin_effect session (Some o) = session_refused request.Begin (Some o) p (refusal.InTransaction o.tx) refl refl refl
  begin_effect session None = effect_none p (begin p session None).part [] (λ tx gs k. any_append (Holds tx gs) U _ k) (no_circle_pushed U (fresh_open (open_as.Session session) p.next_tx []) refl) (λ tx. open_pushed U (fresh_open (open_as.Session session) p.next_tx []) tx refl) tt (inr refl)

  -- ---- a transaction that is found

  module _ (q : OpenTransaction → Bool) (o : OpenTransaction) (found : find q U ≡ Some o) where
    again : find_open U o.tx ≡ Some o
    again = find_again q U o live.pairs found

    abbrev committed : Part
    committed = end_owner o.owner o (commit_counts (record p { open_txns = without_open U o.tx }) o.ops)

    abbrev undone : Part
    undone = end_owner o.owner o (rolled_back (has_room p o) p o)

    -- a commit, by the acts of a session or a reader
    commit_effect : (acts : Answer → List Act) (luck : Luck) → acts (answer.Replied (reply.Committed o.tx)) ≡ act p.who o.tx [] [] true true ∷ [] →
        acts (answer.Refused (refusal.DiskFailed p.who) None) ≡ act p.who o.tx [] [] true false ∷ [] →
        ((r : Refusal) → (txn_entries o.tx o.ops ≡ [] → ⊥) → no_room p (txn_entries o.tx o.ops) ≡ Some r → acts (answer.Refused r None) ≡ []) →
        Effect p (commit luck p o).part (acts (commit luck p o).answer ++ failing w (commit luck p o).answer) (commit luck p o).added
    commit_effect acts luck works fails full = append_is (λ d. Effect p d.part (acts d.answer ++ failing w d.answer) d.added) luck p committed (txn_entries o.tx o.ops) (answer.Replied (reply.Committed o.tx))
        (λ e. subst (λ l. Effect p committed (l ++ []) []) (sym works) (effect_ends p live.pairs o again committed true [] (owner_opens o.owner o _) (owner_doubt o.owner o _ ∙ no_doubt) (inl tt)))
        (λ r e f. subst (λ l. Effect p p l []) (sym (ap (λ l. l ++ failing w (answer.Refused r None)) (full r e f) ∙ failing_none w r None (room_undisked p (txn_entries o.tx o.ops) r f))) (effect_stays p))
        (subst (λ l. Effect p (grown committed (txn_entries o.tx o.ops)) (l ++ []) (txn_entries o.tx o.ops)) (sym works)
        (effect_ends p live.pairs o again (grown committed (txn_entries o.tx o.ops)) true (txn_entries o.tx o.ops) (owner_opens o.owner o _) (owner_doubt o.owner o _ ∙ no_doubt) (inr (refl, refl))))
        (subst (λ l. Effect p (down_with p (txn_entries o.tx o.ops)) l []) (sym (ap (λ l. l ++ failure_ends w (Some p.who)) fails ∙ ap (λ l. act p.who o.tx [] [] true false ∷ l) (falls w p own))) (effect_commit_falls p live.pairs o again (txn_entries o.tx o.ops) (inr refl)))

    offs : List Entry
    offs = cond (has_room p o) (off_entries p o) []

    offs_none : AllByRecursion IsNoTxn (cond (has_room p o) (off_entries p o) [])
    offs_none = by_room (has_room p o)
      where
        by_room : (c : Bool) → AllByRecursion IsNoTxn (cond c (off_entries p o) [])
        by_room true = offs_no_txn _
        by_room false = tt

    -- a rollback writes only where there is room
    has_its_room : (r : Refusal) → (cond (has_room p o) (off_entries p o) [] ≡ [] → ⊥) → no_room p (cond (has_room p o) (off_entries p o) []) ≡ Some r → ⊥
    has_its_room r = by_room (has_room p o) refl
      where
        none_some : (k : Option Refusal) → is_none k ≡ true → k ≡ Some r → ⊥
        none_some None e f = absurd (none f)
          where
            none : None ≡ Some r → ⊥
            none g = cc
        none_some (Some k) e f = clash (sym e)

        by_room : (c : Bool) → has_room p o ≡ c → (cond c (off_entries p o) [] ≡ [] → ⊥) → no_room p (cond c (off_entries p o) []) ≡ Some r → ⊥
        by_room true e f g = none_some (no_room p (off_entries p o)) e g
        by_room false e f g = f refl

    -- a rollback, by the acts of a session or a reader
    roll_effect : (acts : Answer → List Act) (luck : Luck) (told : Reply → Answer) → disk_failed_at (told (reply.RolledBack o.tx (off_names p o))) ≡ None →
        acts (told (reply.RolledBack o.tx (off_names p o))) ≡ act p.who o.tx [] [] false true ∷ [] →
        ((acts (answer.Refused (refusal.DiskFailed p.who) None) ≡ []) ⊎ (acts (answer.Refused (refusal.DiskFailed p.who) None) ≡ act p.who o.tx [] [] true false ∷ [])) →
        Effect p (roll_back_with luck p o told).part (acts (roll_back_with luck p o told).answer ++ failing w (roll_back_with luck p o told).answer) (roll_back_with luck p o told).added
    roll_effect acts luck told fine works fails = append_is (λ d. Effect p d.part (acts d.answer ++ failing w d.answer) d.added) luck p undone (cond (has_room p o) (off_entries p o) []) (told (reply.RolledBack o.tx (off_names p o)))
        (λ e. subst (λ l. Effect p undone l []) (sym all_acts) (effect_ends p live.pairs o again undone false [] (owner_opens o.owner o _) (owner_doubt o.owner o _ ∙ no_doubt) (inl tt)))
        (λ r e f. absurd (has_its_room r e f))
        (subst (λ l. Effect p (grown undone (cond (has_room p o) (off_entries p o) [])) l (cond (has_room p o) (off_entries p o) [])) (sym all_acts)
        (effect_ends p live.pairs o again (grown undone (cond (has_room p o) (off_entries p o) [])) false (cond (has_room p o) (off_entries p o) []) (owner_opens o.owner o _) (owner_doubt o.owner o _ ∙ no_doubt) (inl offs_none)))
        (by_fails fails)
      where
        all_acts : acts (told (reply.RolledBack o.tx (off_names p o))) ++ failing w (told (reply.RolledBack o.tx (off_names p o))) ≡ act p.who o.tx [] [] false true ∷ []
        all_acts = ap (λ l. l ++ failing w (told (reply.RolledBack o.tx (off_names p o)))) works ∙ ap (λ z. act p.who o.tx [] [] false true ∷ failure_ends w z) fine

        by_fails : (acts (answer.Refused (refusal.DiskFailed p.who) None) ≡ []) ⊎ (acts (answer.Refused (refusal.DiskFailed p.who) None) ≡ act p.who o.tx [] [] true false ∷ []) →
            Effect p (down_with p (cond (has_room p o) (off_entries p o) [])) (acts (answer.Refused (refusal.DiskFailed p.who) None) ++ failure_ends w (Some p.who)) []
        by_fails (inl e) = subst (λ l. Effect p (down_with p (cond (has_room p o) (off_entries p o) [])) l []) (sym (ap (λ l. l ++ failure_ends w (Some p.who)) e ∙ falls w p own)) (effect_falls p _ offs_none)
        by_fails (inr e) = subst (λ l. Effect p (down_with p (cond (has_room p o) (off_entries p o) [])) l []) (sym (ap (λ l. l ++ failure_ends w (Some p.who)) e ∙ ap (λ l. act p.who o.tx [] [] true false ∷ l) (falls w p own))) (effect_commit_falls p live.pairs o again _ (inl offs_none))

    -- the plan's groups are free
    plan_free : (req : Request) (planned : Plan) → plan (ask p o.tx w.moment) req ≡ Ok planned → AllByRecursion (λ g. is_free U g o.tx ≡ true) planned.groups
    plan_free req planned e =
        let facts : IsFine (ask p o.tx w.moment) planned = plan_fine (ask p o.tx w.moment) (subst (LogOk p.who) (sym (view_is p h room up q o found w.moment)) (view_ok p h room up q o found)) (view_counted p h room up q o found w.moment) room.handles req planned e in
        facts.free

    planned_effect : (req : Request) (planned : Plan) → plan (ask p o.tx w.moment) req ≡ Ok planned → Effect p (after_plan p o.tx planned) (act p.who o.tx planned.groups planned.ops false false ∷ []) []
    planned_effect req planned e = effect_planned p live.pairs o again (after_plan p o.tx planned) planned refl refl no_doubt (plan_free req planned e)

    open_effect : (req : Request) → IsAsked w p req → (r : Planned) → plan (ask p o.tx w.moment) req ≡ r → BySession req (Some o) (in_open p o.tx r)
    open_effect req asked (Err k) e = session_refused req (Some o) p k refl refl (subst Sound e (plan_sound (ask p o.tx w.moment) req))
    open_effect req asked (Ok planned) e = subst (λ l. Effect p (after_plan p o.tx planned) (l ++ []) []) (sym (asked.in_open_is o ∙ ap (act_of p.who o.tx false) e)) (planned_effect req planned e)

  -- ---- a transaction of its own

  once_effect : (luck : Luck) (req : Request) → IsAsked w p req → (r : Planned) → plan (ask p p.next_tx w.moment) req ≡ r → BySession req None (at_once luck (drew_tx p) p.next_tx r)
  once_effect luck req asked (Err k) e = session_refused req None (drew_tx p) k refl refl (subst Sound e (plan_sound (ask p p.next_tx w.moment) req))
  once_effect luck req asked (Ok planned) e = append_is (BySession req None) luck (drew_tx p) after (txn_entries p.next_tx planned.ops) (answer.Replied planned.reply)
      (λ f. subst (λ l. Effect p after (l ++ []) []) (sym (its_act true refl)) (effect_once p p.next_tx below planned free after [] refl no_doubt (sym f)))
      (λ r f g. session_refused req None (drew_tx p) r refl refl (room_undisked (drew_tx p) (txn_entries p.next_tx planned.ops) r g))
      (subst (λ l. Effect p (grown after (txn_entries p.next_tx planned.ops)) (l ++ []) (txn_entries p.next_tx planned.ops)) (sym (its_act true refl))
      (effect_once p p.next_tx below planned free (grown after (txn_entries p.next_tx planned.ops)) (txn_entries p.next_tx planned.ops) refl no_doubt refl))
      (subst (λ l. Effect p (down_with (drew_tx p) (txn_entries p.next_tx planned.ops)) l []) (sym (ap (λ l. l ++ failure_ends w (Some p.who)) (its_act true refl) ∙ ap (λ l. act p.who p.next_tx planned.groups planned.ops true true ∷ l) (falls w p own)))
      (effect_once_falls p p.next_tx below planned free (down_with (drew_tx p) (txn_entries p.next_tx planned.ops)) refl refl))
    where
      after : Part
      after = draws (commit_counts (drew_tx p) planned.ops) planned.drawn

      its_act : (b : Bool) → b ≡ true → cond (has_plan req && b) (act_of p.who p.next_tx true (plan (ask p p.next_tx w.moment) req)) [] ≡ act p.who p.next_tx planned.groups planned.ops true true ∷ []
      its_act b f = ap (λ c. cond (c && b) (act_of p.who p.next_tx true (plan (ask p p.next_tx w.moment) req)) []) asked.planned ∙ ap (λ c. cond c (act_of p.who p.next_tx true (plan (ask p p.next_tx w.moment) req)) []) f
          ∙ ap (act_of p.who p.next_tx true) e

      facts : IsFine (ask p p.next_tx w.moment) planned
      facts = plan_fine (ask p p.next_tx w.moment) (subst (LogOk p.who) (sym (view_none p h room up w.moment)) (log_ok p h)) (subst (λ l. AllByRecursion (IsCounted p.who p.next_handle) (makings l)) (sym (view_none p h room up w.moment)) live.counted) room.handles req planned e

      free : AllByRecursion (λ g. is_free U g p.next_tx ≡ true) planned.groups
      free = facts.free

  -- ---- sessions

  asked_effect : (luck : Luck) (req : Request) → IsAsked w p req → (q : OpenTransaction → Bool) (o : Option OpenTransaction) → find q U ≡ o → BySession req o (planned_step luck p w.moment req o)
  asked_effect luck req asked q None e = once_effect luck req asked (plan (ask p p.next_tx w.moment) req) refl
  asked_effect luck req asked q (Some o) e = open_effect q o e req asked (plan (ask p o.tx w.moment) req) refl

  commit_asked_effect : (luck : Luck) (session : ℕ) (q : OpenTransaction → Bool) (o : Option OpenTransaction) → find q U ≡ o → BySession request.Commit o (commit_asked luck p session o)
  commit_asked_effect luck session q None e = session_refused request.Commit None p (let s : Session = record { instance = p.who; number = session } in refusal.NoTransaction s) refl refl refl
  commit_asked_effect luck session q (Some o) e = commit_effect q o e (λ given. session_acts w p request.Commit given (Some o)) luck refl refl
      (λ r f g. session_none request.Commit (answer.Refused r None) (Some o) (undisked r None (room_undisked p (txn_entries o.tx o.ops) r g)).0 refl)

  rollback_asked_effect : (luck : Luck) (session : ℕ) (q : OpenTransaction → Bool) (o : Option OpenTransaction) → find q U ≡ o → BySession request.Rollback o (rollback_asked luck p session o)
  rollback_asked_effect luck session q None e = session_refused request.Rollback None p (let s : Session = record { instance = p.who; number = session } in refusal.NoTransaction s) refl refl refl
  rollback_asked_effect luck session q (Some o) e = roll_effect q o e (λ given. session_acts w p request.Rollback given (Some o)) luck answer.Replied refl refl (inl refl)

  plain : (req : Request) → ((o : OpenTransaction) → open_acts w p req o ≡ act_of p.who o.tx false (plan (ask p o.tx w.moment) req)) → has_plan req ≡ true → IsAsked w p req
  plain req a b = record { in_open_is = a; planned = b }

  taken_undisked : (o : Option OpenTransaction) → NoDisk (in_transaction o)
  taken_undisked None = tt
  taken_undisked (Some o) = refl

  pub session_effect : (luck : Luck) (session : ℕ) (req : Request) → BySession req (session_open p session) (session_request luck p session w.moment req)
  session_effect luck session (request.Define d) = define_effect luck d (session_open p session) _ (or_else_sound (in_transaction (session_open p session)) (define_refusal p.log d) (taken_undisked (session_open p session)) (define_sound p.log d))
  session_effect luck session (request.AlterQueue q on) = alter_effect luck q on (session_open p session) (find_queue p.log q)
  session_effect luck session request.Begin = begin_effect session (session_open p session)
  session_effect luck session request.Commit = commit_asked_effect luck session _ (session_open p session) refl
  session_effect luck session request.Rollback = rollback_asked_effect luck session _ (session_open p session) refl
  session_effect luck session (request.BeginDialog a b c d e f) = asked_effect luck (request.BeginDialog a b c d e f) (plain _ (λ o. refl) refl) _ (session_open p session) refl
  session_effect luck session (request.Send a b c) = asked_effect luck (request.Send a b c) (plain _ (λ o. refl) refl) _ (session_open p session) refl
  session_effect luck session (request.Receive a b c) = asked_effect luck (request.Receive a b c) (plain _ (λ o. refl) refl) _ (session_open p session) refl
  session_effect luck session (request.GetGroup a) = asked_effect luck (request.GetGroup a) (plain _ (λ o. refl) refl) _ (session_open p session) refl
  session_effect luck session (request.Move a b) = asked_effect luck (request.Move a b) (plain _ (λ o. refl) refl) _ (session_open p session) refl
  session_effect luck session (request.End a b) = asked_effect luck (request.End a b) (plain _ (λ o. refl) refl) _ (session_open p session) refl
  session_effect luck session (request.Timer a b) = asked_effect luck (request.Timer a b) (plain _ (λ o. refl) refl) _ (session_open p session) refl
  session_effect luck session (request.Insert a b c d) = asked_effect luck (request.Insert a b c d) (plain _ (λ o. refl) refl) _ (session_open p session) refl
  session_effect luck session (request.Update a b c d) = asked_effect luck (request.Update a b c d) (plain _ (λ o. refl) refl) _ (session_open p session) refl
  session_effect luck session (request.Delete a b) = asked_effect luck (request.Delete a b) (plain _ (λ o. refl) refl) _ (session_open p session) refl
  session_effect luck session (request.Read a b) = asked_effect luck (request.Read a b) (plain _ (λ o. refl) refl) _ (session_open p session) refl

  -- ---- readers

  module _ (q : OpenTransaction → Bool) (o : OpenTransaction) (found : find q U ≡ Some o) where
    abbrev ByReader : Request → Done → Type 0
    ByReader req d = Effect p d.part (reader_acts w p req d.answer (Some o) ++ failing w d.answer) d.added

    -- a refused statement of a reader rolls its transaction back
    pub reader_rolls : (req : Request) (luck : Luck) (r : Refusal) → is_disk r ≡ false → ByReader req (refused_reader luck p o r)
    reader_rolls req luck r e = roll_effect q o found (λ given. reader_acts w p req given (Some o)) luck (λ undone. answer.Refused r (Some undone)) (undisked r _ e).1 refused_mark (by_commit (asks_commit req))
      where
        refused_mark : reader_acts w p req (answer.Refused r (Some (reply.RolledBack o.tx (off_names p o)))) (Some o) ≡ act p.who o.tx [] [] false true ∷ []
        refused_mark = ap (λ b. cond b (failed_acts p req o) (mark p.who o.tx false true)) (undisked r (Some (reply.RolledBack o.tx (off_names p o))) e).0

        by_commit : (c : Bool) → (cond c (mark p.who o.tx true false) [] ≡ []) ⊎ (cond c (mark p.who o.tx true false) [] ≡ act p.who o.tx [] [] true false ∷ [])
        by_commit true = inr refl
        by_commit false = inl refl

    waits_effect : (req : Request) (luck : Luck) (on : ℕ) (c : Option (List ℕ)) → chain U o.tx (o ∷ U) on ≡ c → ByReader req (wait_or_deadlock luck p o on c)
    waits_effect req luck on None e = effect_none p (record p { open_txns = map (set_wait o.tx on) U }) [] (λ tx gs k. held_waiting U o.tx on tx gs k) (waits_no_circle U o.tx on o live.pairs e) (λ tx. open_waiting U o.tx on tx) tt (inr refl)
    waits_effect req luck on (Some txs) e = reader_rolls req luck (refusal.Deadlock (o.tx ∷ txs)) refl

    refused_effect : (req : Request) (luck : Luck) (r : Refusal) → is_disk r ≡ false → ByReader req (reader_refused luck p o r)
    refused_effect req luck (refusal.GroupHeld on) e = waits_effect req luck on _ refl
    refused_effect req luck (refusal.RowHeld on) e = waits_effect req luck on _ refl
    refused_effect req luck r e = reader_rolls req luck r e

    reader_planned_effect : (req : Request) → IsAsked w p req → (luck : Luck) (r : Planned) → plan (ask p o.tx w.moment) req ≡ r → ByReader req (reader_planned luck p o r)
    reader_planned_effect req asked luck (Err k) e = refused_effect req luck k (subst Sound e (plan_sound (ask p o.tx w.moment) req))
    reader_planned_effect req asked luck (Ok planned) e =
        subst (λ l. Effect p (after_plan p o.tx planned) (l ++ []) []) (sym (ap (λ b. cond b [] (open_acts w p req o)) (plain_never_waits planned.reply (subst Sound e (plan_sound (ask p o.tx w.moment) req))) ∙ asked.in_open_is o ∙ ap (act_of p.who o.tx false) e))
        (planned_effect q o found req planned e)

    reader_commit_effect : (luck : Luck) (r : Option Refusal) → commit_refusal p o ≡ r → ByReader request.Commit (reader_commit luck p o r)
    reader_commit_effect luck None e = commit_effect q o found (λ given. reader_acts w p request.Commit given (Some o)) luck refl refl (λ r f g. absurd (full (txn_entries o.tx o.ops) r f e g))
      where
        full : (es : List Entry) (r : Refusal) → (es ≡ [] → ⊥) → refusal_of_entries p es ≡ None → no_room p es ≡ Some r → ⊥
        full [] r f k g = f refl
        full (z ∷ es) r f k g = none (sym k ∙ g)
          where
            none : None ≡ Some r → ⊥
            none i = cc
    reader_commit_effect luck (Some r) e = reader_rolls request.Commit luck r (undisk (txn_entries o.tx o.ops) e)
      where
        undisk : (es : List Entry) → refusal_of_entries p es ≡ Some r → is_disk r ≡ false
        undisk [] f = cc
        undisk (z ∷ es) f = room_undisked p (z ∷ es) r f

    pub reader_effect : (luck : Luck) (req : Request) → ByReader req (reader_request luck p o w.moment req)
    reader_effect luck request.Commit = reader_commit_effect luck (commit_refusal p o) refl
    reader_effect luck request.Rollback = roll_effect q o found (λ given. reader_acts w p request.Rollback given (Some o)) luck answer.Replied refl refl (inl refl)
    reader_effect luck (request.Define a) = reader_rolls (request.Define a) luck (refusal.InTransaction o.tx) refl
    reader_effect luck (request.AlterQueue a b) = reader_rolls (request.AlterQueue a b) luck (refusal.InTransaction o.tx) refl
    reader_effect luck request.Begin = reader_rolls request.Begin luck (refusal.InTransaction o.tx) refl
    reader_effect luck (request.BeginDialog a b c d e f) = reader_planned_effect (request.BeginDialog a b c d e f) (plain _ (λ z. refl) refl) luck _ refl
    reader_effect luck (request.Send a b c) = reader_planned_effect (request.Send a b c) (plain _ (λ z. refl) refl) luck _ refl
    reader_effect luck (request.Receive a b c) = reader_planned_effect (request.Receive a b c) (plain _ (λ z. refl) refl) luck _ refl
    reader_effect luck (request.GetGroup a) = reader_planned_effect (request.GetGroup a) (plain _ (λ z. refl) refl) luck _ refl
    reader_effect luck (request.Move a b) = reader_planned_effect (request.Move a b) (plain _ (λ z. refl) refl) luck _ refl
    reader_effect luck (request.End a b) = reader_planned_effect (request.End a b) (plain _ (λ z. refl) refl) luck _ refl
    reader_effect luck (request.Timer a b) = reader_planned_effect (request.Timer a b) (plain _ (λ z. refl) refl) luck _ refl
    reader_effect luck (request.Insert a b c d) = reader_planned_effect (request.Insert a b c d) (plain _ (λ z. refl) refl) luck _ refl
    reader_effect luck (request.Update a b c d) = reader_planned_effect (request.Update a b c d) (plain _ (λ z. refl) refl) luck _ refl
    reader_effect luck (request.Delete a b) = reader_planned_effect (request.Delete a b) (plain _ (λ z. refl) refl) luck _ refl
    reader_effect luck (request.Read a b) = reader_planned_effect (request.Read a b) (plain _ (λ z. refl) refl) luck _ refl

    -- refused words of a reader; DiskFailed is told only where the instance went down
    pub words_effect : (luck : Luck) (k : Refusal) (d : Done) → words_told k (refused_reader luck p o k) ≡ Some d → ByReader request.Rollback d
    words_effect luck (refusal.DiskFailed x) d e = append_is (λ z. cond z.part.up None (Some z) ≡ Some d → ByReader request.Rollback d) luck p (undone q o found) (cond (has_room p o) (off_entries p o) [])
        (answer.Refused (refusal.DiskFailed x) (Some (reply.RolledBack o.tx (off_names p o))))
        (λ f g. still_up _ (owner_up o.owner o (rolled_back (has_room p o) p o) ∙ up) g)
        (λ r f g. absurd (has_its_room q o found r f g))
        (λ g. still_up _ (owner_up o.owner o (rolled_back (has_room p o) p o) ∙ up) g)
        (λ g. subst (ByReader request.Rollback) (same_Some _ d g) (subst (λ l. Effect p (down_with p (cond (has_room p o) (off_entries p o) [])) l []) (sym (falls w p own)) (effect_falls p _ (offs_none q o found)))) e
      where
        still_up : (z : Done) → z.part.up ≡ true → cond z.part.up None (Some z) ≡ Some d → ByReader request.Rollback d
        still_up z f g = absurd (none (sym (ap (λ b. cond b None (Some z)) f) ∙ g))
          where
            none : None ≡ Some d → ⊥
            none i = cc
    words_effect luck k d e = subst (ByReader request.Rollback) (same_Some (refused_reader luck p o k) d e) (reader_rolls request.Rollback luck k refl)

  -- ---- starts

  pub start_effect : (q : Bytes) (g : Handle) (d : Done) → start_step p q g ≡ Some d → Effect p d.part (start_acts p d.answer g ++ failing w d.answer) d.added
  start_effect q g d e = by_up_test p.up refl e
    where
      none : {P : Type 0} → None ≡ Some d → P
      none k = cc

      by_group : (o : Option Pick) (def : QueueDef) → start_pick p def ≡ o → option_eq same_id (option_map (λ k. k.group) o) (Some g) ≡ true → is_free U g p.next_tx ≡ true
      by_group None def f k = clash (sym k)
      by_group (Some k) def f i = subst (λ z. is_free U z p.next_tx ≡ true) (ids_same k.group g i) (start_free p h room up def k f)

      started : is_free U g p.next_tx ≡ true → Effect p (started_on p q g).part (act p.who p.next_tx (g ∷ []) [] false false ∷ []) []
      started free = effect_started p p.next_tx below (started_on p q g).part (open_as.Reader (p.last_reader + 1) q) g refl no_doubt free

      by_queue : (r : Option QueueDef) → option_and_then (λ def. cond (same_name def.name q && option_eq same_id (option_map (λ k. k.group) (start_pick p def)) (Some g)) (Some (started_on p q g)) None) r ≡ Some d →
          Effect p d.part (start_acts p d.answer g ++ failing w d.answer) d.added
      by_queue None f = none f
      by_queue (Some def) f = by_test (same_name def.name q && option_eq same_id (option_map (λ k. k.group) (start_pick p def)) (Some g)) refl f
        where
          by_test : (c : Bool) → (same_name def.name q && option_eq same_id (option_map (λ k. k.group) (start_pick p def)) (Some g)) ≡ c → cond c (Some (started_on p q g)) None ≡ Some d →
              Effect p d.part (start_acts p d.answer g ++ failing w d.answer) d.added
          by_test true i k = subst (λ z. Effect p z.part (start_acts p z.answer g ++ failing w z.answer) z.added) (same_Some (started_on p q g) d k) (started (by_group (start_pick p def) def refl (both_right (same_name def.name q) _ i)))
          by_test false i k = none k

      by_up_test : (c : Bool) → p.up ≡ c → option_and_then (λ def. cond (same_name def.name q && option_eq same_id (option_map (λ k. k.group) (start_pick p def)) (Some g)) (Some (started_on p q g)) None) (cond c (find (may_start_on p) (queues p.log)) None) ≡ Some d →
          Effect p d.part (start_acts p d.answer g ++ failing w d.answer) d.added
      by_up_test true i f = by_queue (find (may_start_on p) (queues p.log)) f
      by_up_test false i f = none f
