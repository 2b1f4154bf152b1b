-- What sessions, readers, starts, timers and deliveries make of an instance.
use Rattle.std.proofs.Common.{◌≡◌, ℕ, Bool, true, false, List, [], ◌∷◌, ◌++◌, ◌+◌, ◌^◌, ◌%◌, ◌≤◌, ◌<◌, Option, Some, None, Ok, Err, refl, sym, ◌∙◌, ap, subst, arith, cond, inl, map}
use Rattle.std.specs.Prelude.{filter, flat_map, find, ⊤, ◌==◌, ◌&&◌, option_map, option_and_then, is_none, is_some}
use Rattle.std.specs.Option.{option_eq, option_map_or}
use Rattle.std.specs.Bool.{beq}
use Rattle.std.specs.List.{list_any, AllByRecursion}
use Rattle.std.proofs.lemmas.Option.{same_Some}
use Rattle.std.proofs.lemmas.Bool.Decides.{nat_tests}
use Rattle.sb_log.specs.declared.identifiers.Handle.{Handle}
use Rattle.sb_log.specs.declared.definitions.Ddl.{Ddl}
use Rattle.sb_log.specs.declared.definitions.QueueDef.{QueueDef}
use Rattle.sb_log.specs.declared.entries.Entry.{Entry}
use Rattle.sb_log.specs.declared.entries.Entry.TheVariants.{Defined, Accepted, Acked, QueueSet}
use Rattle.sb_log.specs.declared.entries.Op.{Op}
use Rattle.sb_log.specs.declared.refusals.Refusal.{Refusal}
use Rattle.sb_log.specs.declared.refusals.Refusal.TheVariants as refusal
use Rattle.sb_log.specs.declared.requests.Request.{Request}
use Rattle.sb_log.specs.declared.requests.Request.TheVariants as request
use Rattle.sb_log.specs.declared.requests.Reply.{Reply}
use Rattle.sb_log.specs.declared.requests.Reply.TheVariants as reply
use Rattle.sb_log.specs.declared.requests.Filter.TheVariants as filters
use Rattle.sb_log.specs.declared.steps.Answer.{Answer}
use Rattle.sb_log.specs.declared.steps.Answer.TheVariants as answer
use Rattle.sb_model.specs.Sides.{Bytes, same_id, same_name}
use Rattle.sb_model.specs.Catalog.{is_on, queues}
use Rattle.sb_model.specs.Transactions.{OpenTransaction, Owner, with_ops, view, find_open, is_free}
use Rattle.sb_model.specs.Pick.{Pick}
use Rattle.sb_model.specs.Transactions as open_as
use Rattle.sb_model.specs.Instance.{Part, Luck, Done, append, refused, has_name, queue_taken}
use Rattle.sb_model.specs.Rollbacks.{without_open, end_owner, rolled_back, roll_back_with, has_room, off_entries, off_entry, off_names}
use Rattle.sb_model.specs.Replies.{Plan, Planned, plan, seen}
use Rattle.sb_model.specs.Statements.{txn_entries, add_plan, after_plan, ask, draws, commit_counts, fresh_open, commit, drew_tx, at_once, in_open, in_transaction, planned_step, define, alter_queue, begin, commit_asked, rollback_asked, session_open, session_request, session_step, refused_reader, set_wait, wait_or_deadlock, reader_refused, reader_planned, commit_refusal, reader_commit, reader_request, reader_open, runnable, reader_step, start_pick, started_on, start_step, may_start_on}
use Rattle.sb_model.specs.Sides.{makings, made_by_op}
use Rattle.sb_model.specs.Catalog.{find_queue}
use Rattle.sb_model.specs.Logs.{are_allowed_after, is_ddl_allowed}
use Rattle.sb_model.specs.Definitions.{define_refusal}
use Rattle.sb_model.specs.Refusals.{or_else}
use Rattle.sb_model.specs.Rollbacks.{queues_of, disables}
use Rattle.sb_laws.proofs.Allowed.{both_true}
use Rattle.sb_laws.proofs.Defines.{defined_allowed, offs_allowed, offs_make_none, queues_named, IsNamed}
use Rattle.sb_laws.proofs.Taking.{all_filter}
use Rattle.sb_laws.proofs.Grow.{all_weaker, all_append}
use Rattle.sb_laws.proofs.Sides.{ids_same, both_right}
use Rattle.sb_laws.proofs.Views.{txn_is_view, makings_view}
use Rattle.sb_laws.proofs.Opens.{LogOk, OpenOk, Apart, IsOpenOk, AreApart, LiveOk, IsCounted, PlanOk, log_committed, open_later, open_new, open_planned, apart_planned}
use Rattle.sb_laws.proofs.Plans.{plan_from_facts, low_is, pick_is}
use Rattle.sb_laws.proofs.PlanCases.{plan_fine, all_found, IsFine}
use Rattle.sb_laws.specs.Worlds.{HasRoom}
use Rattle.sb_laws.proofs.Parts.{Few, few_same, few_tx, few_drawn, few_wider, few_at_once, append_few, PartOk, Moved, SameLog, IsQuiet, Brings, brings_none, counted_later, counted_ops, log_ok, moved_not, moved_live, moved_append, moved_quiet, live_without, live_commit, live_planned, live_committed, log_txn, find_again, find_above, all_map, pairs_map, pairs_push, free_beside, all_with}

clash : {P : Type 0} → true ≡ false → P
clash e = cc

-- an entry that isn't accepted and acknowledges nothing
abbrev pub IsOwn : Entry → Type 0
IsOwn (Accepted a b c d) = ⊥
IsOwn (Acked a b c) = ⊥
IsOwn _ = ⊤

-- a step that adds only such entries
pub record Steps (p q : Part) : Type 0 where
  pub entries : List Entry
  pub own : AllByRecursion IsOwn entries
  pub moved : Moved p q entries

pub stays : (p : Part) → PartOk p → Steps p p
stays p h = record { entries = []; own = tt; moved = moved_not p [] h }

-- ---- an instance that is up

module _ (p : Part) (h : PartOk p) (room : HasRoom p) (up : p.up ≡ true) where
  abbrev U : List OpenTransaction
  U = p.open_txns

  abbrev n : ℕ
  n = p.next_handle

  abbrev m : ℕ
  m = p.next_tx

  live : LiveOk p.who p.log n m U
  live = h.live up

  same_log : SameLog p p
  same_log = record { who = refl; up = refl; log = refl; doubt = refl; few = few_same 2 n m }

  next_tx_is : (m + 1) % 2 ^ 64 ≡ m + 1
  next_tx_is = low_is (m + 1) room.txs

  -- counters that rise
  pub live_later : (k l : ℕ) → n ≤ k → m ≤ l → LiveOk p.who p.log k l U
  live_later k l le le' = record {
    each = all_weaker (IsOpenOk p.who p.log n m) (IsOpenOk p.who p.log k l) (λ b o. open_later p.who p.log n m k l b.tx b.ops b.groups le le' o) U live.each;
    pairs = live.pairs;
    counted = all_weaker (IsCounted p.who n) (IsCounted p.who k) (counted_later p.who n k le) _ live.counted;
  }

  -- ---- an open transaction that is found

  module _ (q : OpenTransaction → Bool) (o : OpenTransaction) (found : find q U ≡ Some o) where
    open_ok : OpenOk p.who p.log n m o.tx o.ops o.groups
    open_ok = all_found (IsOpenOk p.who p.log n m) q U o live.each found

    pub view_is : (now : ℕ) → seen (ask p o.tx now) ≡ with_ops p.log o.tx o.ops
    view_is now = ap (λ r. option_map_or (λ z. with_ops p.log o.tx z.ops) r p.log) (find_again q U o live.pairs found)

    pub view_ok : LogOk p.who (with_ops p.log o.tx o.ops)
    view_ok = log_committed p.who p.log n m o.tx o.ops o.groups (log_ok p h) open_ok

    pub view_counted : (now : ℕ) → AllByRecursion (IsCounted p.who n) (makings (seen (ask p o.tx now)))
    view_counted now = subst (λ l. AllByRecursion (IsCounted p.who n) (makings l)) (sym (view_is now)) (subst (AllByRecursion (IsCounted p.who n)) (sym (makings_view p.log o.tx o.ops))
        (all_append (IsCounted p.who n) (makings p.log) (flat_map made_by_op o.ops) live.counted (counted_ops p.who n o.ops open_ok.begins_below)))

    pub planned_moved : (now : ℕ) (req : Request) (planned : Plan) → plan (ask p o.tx now) req ≡ Ok planned → Steps p (after_plan p o.tx planned)
    planned_moved now req planned e =
        let facts : IsFine (ask p o.tx now) planned = plan_fine (ask p o.tx now) (subst (LogOk p.who) (sym (view_is now)) view_ok) (view_counted now) room.handles req planned e in
        let ok : PlanOk p.who p.log U n (n + planned.drawn) o.tx o.ops planned.ops planned.groups =
        plan_from_facts p.who p.log (seen (ask p o.tx now)) U n (n + planned.drawn) o.tx o.ops planned.ops planned.groups (view_is now) facts in
        let fits : (n + planned.drawn) % 2 ^ 64 ≡ n + planned.drawn = low_is (n + planned.drawn) (omega (arith, facts.few, room.handles)) in
        record {
          entries = [];
          own = tt;
          moved = moved_live p (after_plan p o.tx planned) [] h up (record { who = refl; up = refl; log = refl; doubt = refl; few = few_drawn n m planned.drawn (omega (arith, facts.few)) })
              (λ f. subst (λ k. LiveOk p.who p.log k m (map (add_plan o.tx planned) U)) (sym fits)
              (live_planned p.who p.log n (n + planned.drawn) m U q o planned live found (omega arith) ok));
        }

    by_owner : (Q : Part → Type 0) (owner : Owner) (r : Part) → Q r → ((held : List Bytes) → Q (record r { held = held })) → Q (end_owner owner o r)
    by_owner Q (open_as.Session k) r a b = a
    by_owner Q (open_as.Reader k w) r a b = by_test (has_name (flat_map queue_taken o.ops) w)
      where
        by_test : (c : Bool) → Q (cond c r (record r { held = r.held ++ w ∷ [] }))
        by_test true = a
        by_test false = b (r.held ++ w ∷ [])

    commit_live : LiveOk p.who (p.log ++ txn_entries o.tx o.ops) n m (without_open U o.tx)
    commit_live = subst (λ l. LiveOk p.who l n m (without_open U o.tx)) (sym (txn_is_view p.log o.tx o.ops)) (live_commit p.who p.log n m U q o live found)

    own_txn : (tx : ℕ) (ops : List Op) → AllByRecursion IsOwn (txn_entries tx ops)
    own_txn tx [] = tt
    own_txn tx (op ∷ ops) = (tt, tt)

    pub commit_moved : (luck : Luck) → Steps p (commit luck p o).part
    commit_moved luck = record {
      entries = txn_entries o.tx o.ops;
      own = own_txn o.tx o.ops;
      moved = by_owner (λ r. Moved p (append luck p (txn_entries o.tx o.ops) (answer.Replied (reply.Committed o.tx)) r).part (txn_entries o.tx o.ops))
          o.owner (commit_counts (record p { open_txns = without_open U o.tx }) o.ops)
          (moved_append luck p _ (txn_entries o.tx o.ops) (answer.Replied (reply.Committed o.tx)) h up (record { who = refl; up = refl; log = refl; doubt = refl; few = few_same 2 n m })
          (λ k. log_txn p.who p.log o.tx o.ops k (log_ok p h) view_ok) commit_live)
          (λ held. moved_append luck p _ (txn_entries o.tx o.ops) (answer.Replied (reply.Committed o.tx)) h up (record { who = refl; up = refl; log = refl; doubt = refl; few = few_same 2 n m })
          (λ k. log_txn p.who p.log o.tx o.ops k (log_ok p h) view_ok) commit_live);
    }

    offs_quiet : (defs : List QueueDef) → AllByRecursion IsQuiet (map off_entry defs)
    offs_quiet [] = tt
    offs_quiet (d ∷ defs) = ((refl, tt), offs_quiet defs)

    offs_own : (defs : List QueueDef) → AllByRecursion IsOwn (map off_entry defs)
    offs_own [] = tt
    offs_own (d ∷ defs) = (tt, offs_own defs)

    when_room : (P : Entry → Type 0) (c : Bool) (es : List Entry) → AllByRecursion P es → AllByRecursion P (cond c es [])
    when_room P true es k = k
    when_room P false es k = tt

    -- turnings off of the log's own queues
    offs_brings : (c : Bool) (V : List OpenTransaction) → Brings p.who p.log (cond c (off_entries p o) []) n V
    offs_brings true V = brings_none p.who p.log (off_entries p o) n V (offs_quiet (filter (disables p) (queues_of p o)))
        (offs_allowed p.log (filter (disables p) (queues_of p o)) (all_filter (IsNamed p.log) (disables p) (queues_of p o) (all_filter (IsNamed p.log) (λ def. has_name (flat_map queue_taken o.ops) def.name) (queues p.log) (queues_named p.log)))) (offs_make_none (filter (disables p) (queues_of p o)))
    offs_brings false V = brings_none p.who p.log [] n V tt refl refl

    pub rolled_moved : (luck : Luck) (told : Reply → Answer) → Steps p (roll_back_with luck p o told).part
    rolled_moved luck told = record {
      entries = cond (has_room p o) (off_entries p o) [];
      own = when_room IsOwn (has_room p o) (off_entries p o) (offs_own _);
      moved = by_owner (λ r. Moved p (append luck p (cond (has_room p o) (off_entries p o) []) (told (reply.RolledBack o.tx (off_names p o))) r).part (cond (has_room p o) (off_entries p o) []))
          o.owner (rolled_back (has_room p o) p o)
          (moved_quiet luck p _ (cond (has_room p o) (off_entries p o) []) _ h up (record { who = refl; up = refl; log = refl; doubt = refl; few = few_same 2 n m })
          (offs_brings (has_room p o) (without_open U o.tx)) (live_without p.who p.log n m U o.tx live))
          (λ held. moved_quiet luck p _ (cond (has_room p o) (off_entries p o) []) _ h up (record { who = refl; up = refl; log = refl; doubt = refl; few = few_same 2 n m })
          (offs_brings (has_room p o) (without_open U o.tx)) (live_without p.who p.log n m U o.tx live));
    }

    in_open_moved : (now : ℕ) (req : Request) (r : Planned) → plan (ask p o.tx now) req ≡ r → Steps p (in_open p o.tx r).part
    in_open_moved now req (Err k) e = stays p h
    in_open_moved now req (Ok planned) e = planned_moved now req planned e

    -- a reader that waits
    waits_moved : (tx on : ℕ) → Steps p (record p { open_txns = map (set_wait tx on) U })
    waits_moved tx on = record {
      entries = [];
      own = tt;
      moved = moved_live p (record p { open_txns = map (set_wait tx on) U }) [] h up (record { who = refl; up = refl; log = refl; doubt = refl; few = few_same 2 n m })
          (λ f. record {
            each = all_map (IsOpenOk p.who p.log n m) (IsOpenOk p.who p.log n m) (set_wait tx on) one U live.each;
            pairs = pairs_map (λ b. ⊤) AreApart AreApart (set_wait tx on) (λ a b i j r. both a b (a.tx == tx) (b.tx == tx) r) U (every U) live.pairs;
            counted = live.counted;
          });
    }
      where
        every : (V : List OpenTransaction) → AllByRecursion (λ b. ⊤) V
        every [] = tt
        every (b ∷ V) = (tt, every V)

        one : (b : OpenTransaction) → IsOpenOk p.who p.log n m b → IsOpenOk p.who p.log n m (set_wait tx on b)
        one b k = by_test (b.tx == tx)
          where
            by_test : (c : Bool) → IsOpenOk p.who p.log n m (cond c (record b { waits_for = Some on }) b)
            by_test true = k
            by_test false = k

        both : (a b : OpenTransaction) (c d : Bool) → AreApart a b → AreApart (cond c (record a { waits_for = Some on }) a) (cond d (record b { waits_for = Some on }) b)
        both a b true true r = r
        both a b true false r = r
        both a b false true r = r
        both a b false false r = r

    deadlock_moved : (luck : Luck) (on : ℕ) (c : Option (List ℕ)) → Steps p (wait_or_deadlock luck p o on c).part
    deadlock_moved luck on None = waits_moved o.tx on
    deadlock_moved luck on (Some txs) = rolled_moved luck (λ undone. answer.Refused (refusal.Deadlock (o.tx ∷ txs)) (Some undone))

  -- ---- new transactions

  pub view_none : (now : ℕ) → seen (ask p m now) ≡ p.log
  view_none now = ap (λ r. option_map_or (λ z. with_ops p.log m z.ops) r p.log) (find_above U m (all_weaker (IsOpenOk p.who p.log n m) (λ b. b.tx < m) (λ b o. o.below) U live.each))

  tx_other : (b : OpenTransaction) → IsOpenOk p.who p.log n m b → (b.tx == m) ≡ false
  tx_other b o = let lt = o.below in grind (arith, nat_tests)

  other_tx : (b : OpenTransaction) → IsOpenOk p.who p.log n m b → (m == b.tx) ≡ false
  other_tx b o = let lt = o.below in grind (arith, nat_tests)

  live_pushed : (owner : Owner) (groups : List Handle) → AllByRecursion (λ g. is_free U g m ≡ true) groups → LiveOk p.who p.log n (m + 1) (U ++ fresh_open owner m groups ∷ [])
  live_pushed owner groups free = record {
    each = all_append (IsOpenOk p.who p.log n (m + 1)) U (fresh_open owner m groups ∷ []) (live_later n (m + 1) (omega arith) (omega arith)).each
        (open_new p.who p.log n (m + 1) m groups (omega arith) (log_ok p h), tt);
    pairs = pairs_push AreApart U (fresh_open owner m groups) live.pairs
        (all_with (IsOpenOk p.who p.log n m) (λ b. (b.tx == m) ≡ false → (g : Handle) → list_any (same_id g) groups ≡ true → list_any (same_id g) b.groups ≡ false) (λ b. AreApart b (fresh_open owner m groups))
        (λ b o f. record {
          txs = tx_other b o;
          groups_apart = λ g e k. clash (sym e ∙ f (tx_other b o) g k);
          begins_apart = λ s e k. clash (sym k);
        }) U live.each (free_beside U m groups free));
    counted = live.counted;
  }

  begin_moved : (session : ℕ) (r : Option OpenTransaction) → Steps p (begin p session r).part
  begin_moved session (Some o) = stays p h
  begin_moved session None = record {
    entries = [];
    own = tt;
    moved = moved_live p _ [] h up (record { who = refl; up = refl; log = refl; doubt = refl; few = few_tx n m })
        (λ f. subst (λ k. LiveOk p.who p.log n k (U ++ fresh_open (open_as.Session session) m [] ∷ [])) (sym next_tx_is) (live_pushed (open_as.Session session) [] tt));
  }

  pub started_moved : (q : Bytes) (g : Handle) → is_free U g m ≡ true → Steps p (started_on p q g).part
  started_moved q g free = record {
    entries = [];
    own = tt;
    moved = moved_live p _ [] h up (record { who = refl; up = refl; log = refl; doubt = refl; few = few_tx n m })
        (λ f. subst (λ k. LiveOk p.who p.log n k (U ++ fresh_open (open_as.Reader (p.last_reader + 1) q) m (g ∷ []) ∷ [])) (sym next_tx_is) (live_pushed (open_as.Reader (p.last_reader + 1) q) (g ∷ []) (free, tt)));
  }

  -- the group of the pick of a start is free
  pub start_free : (def : QueueDef) (k : Pick) → start_pick p def ≡ Some k → is_free U k.group m ≡ true
  start_free def k e = (pick_is p.who (seen (ask p m 0)) U 0 0 m (subst (LogOk p.who) (sym (view_none 0)) (log_ok p h)) (omega arith) def.name None filters.All k e).free

  -- a plan outside a transaction
  drew_ok : PartOk (drew_tx p)
  drew_ok = record {
    quiet = h.quiet;
    down = h.down;
    logs = h.logs;
    live = λ e. subst (λ k. LiveOk p.who p.log n k U) (sym next_tx_is) (live_later n (m + 1) (omega arith) (omega arith));
  }

  drew_moved : (es : List Entry) → Moved p (drew_tx p) es
  drew_moved es = record { who = refl; ok = drew_ok; few = few_wider n m n ((m + 1) % 2 ^ 64) (few_tx n m); reach = λ k. inl (k, refl) }

  at_once_moved : (luck : Luck) (now : ℕ) (req : Request) (r : Planned) → plan (ask p m now) req ≡ r → Steps p (at_once luck (drew_tx p) m r).part
  at_once_moved luck now req (Err k) e = record { entries = []; own = tt; moved = drew_moved [] }
  at_once_moved luck now req (Ok planned) e =
      let facts : IsFine (ask p m now) planned = plan_fine (ask p m now) (subst (LogOk p.who) (sym (view_none now)) (log_ok p h)) (subst (λ l. AllByRecursion (IsCounted p.who n) (makings l)) (sym (view_none now)) live.counted) room.handles req planned e in
      let high : ℕ = n + planned.drawn in
      let ok : PlanOk p.who p.log U n (n + planned.drawn) m [] planned.ops planned.groups =
      plan_from_facts p.who p.log (seen (ask p m now)) U n (n + planned.drawn) m [] planned.ops planned.groups (view_none now) facts in
      let fits : (n + planned.drawn) % 2 ^ 64 ≡ n + planned.drawn = low_is (n + planned.drawn) (omega (arith, facts.few, room.handles)) in
      let alone : OpenOk p.who p.log (n + planned.drawn) (m + 1) m planned.ops planned.groups =
      open_planned p.who p.log U n (n + planned.drawn) (m + 1) m [] planned.ops [] planned.groups (omega arith) live.counted (open_new p.who p.log n (m + 1) m [] (omega arith) (log_ok p h)) ok in
      let after_live : LiveOk p.who (with_ops p.log m planned.ops) (n + planned.drawn) (m + 1) U =
      live_committed p.who p.log (n + planned.drawn) (m + 1) m planned.ops planned.groups U U alone
      (all_with (IsOpenOk p.who p.log n m) (λ b. (b.tx == m) ≡ false → (g : Handle) → list_any (same_id g) planned.groups ≡ true → list_any (same_id g) b.groups ≡ false)
      (λ b. IsOpenOk p.who p.log (n + planned.drawn) (m + 1) b × Apart m planned.ops planned.groups b.tx b.ops b.groups)
      (λ b o f. (
        open_later p.who p.log n m (n + planned.drawn) (m + 1) b.tx b.ops b.groups (omega arith) (omega arith) o,
        apart_planned p.who p.log U n (n + planned.drawn) m m b.tx [] planned.ops b.ops [] planned.groups b.groups o ok (f (tx_other b o))
            (record { txs = other_tx b o; groups_apart = λ g c d. clash (sym c); begins_apart = λ s c d. clash (sym c) }),
      ))
      U live.each (free_beside U m planned.groups ok.free)) live.pairs (live_later (n + planned.drawn) (m + 1) (omega arith) (omega arith)).counted in
      let committed : LogOk p.who (with_ops p.log m planned.ops) = log_committed p.who p.log (n + planned.drawn) (m + 1) m planned.ops planned.groups (log_ok p h) alone in
      let moved : Moved (drew_tx p) (at_once luck (drew_tx p) m (Ok planned)).part (txn_entries m planned.ops) =
      moved_append luck (drew_tx p) (draws (commit_counts (drew_tx p) planned.ops) planned.drawn) (txn_entries m planned.ops) (answer.Replied planned.reply) drew_ok up
      (record { who = refl; up = refl; log = refl; doubt = refl; few = few_drawn n ((m + 1) % 2 ^ 64) planned.drawn (omega (arith, facts.few)) })
      (λ k. log_txn p.who p.log m planned.ops k (log_ok p h) committed)
      (subst (λ l. LiveOk p.who l ((n + planned.drawn) % 2 ^ 64) ((m + 1) % 2 ^ 64) U) (sym (txn_is_view p.log m planned.ops))
      (subst (λ a. LiveOk p.who (with_ops p.log m planned.ops) a ((m + 1) % 2 ^ 64) U) (sym fits) (subst (λ a. LiveOk p.who (with_ops p.log m planned.ops) (n + planned.drawn) a U) (sym next_tx_is) after_live))) in
      let few : Few 4 n m (at_once luck (drew_tx p) m (Ok planned)).part.next_handle (at_once luck (drew_tx p) m (Ok planned)).part.next_tx =
      append_few (λ k l. Few 4 n m k l) luck (drew_tx p) (draws (commit_counts (drew_tx p) planned.ops) planned.drawn) (txn_entries m planned.ops) (answer.Replied planned.reply)
      (few_wider n m n ((m + 1) % 2 ^ 64) (few_tx n m)) (few_at_once n m planned.drawn (omega (arith, facts.few))) in
      record { entries = txn_entries m planned.ops; own = own_txn_of m planned.ops; moved = record { who = moved.who; ok = moved.ok; few = few; reach = moved.reach } }
    where
      own_txn_of : (tx : ℕ) (ops : List Op) → AllByRecursion IsOwn (txn_entries tx ops)
      own_txn_of tx [] = tt
      own_txn_of tx (op ∷ ops) = (tt, tt)

  -- ---- one entry of its own

  pub quiet_moved : (luck : Luck) (es : List Entry) (told : Answer) → AllByRecursion IsQuiet es → are_allowed_after p.log es ≡ true → makings es ≡ [] → AllByRecursion IsOwn es → Steps p (append luck p es told p).part
  quiet_moved luck es told quiet allowed none own = record { entries = es; own = own; moved = moved_quiet luck p p es told h up same_log (brings_none p.who p.log es n U quiet allowed none) live }

  define_moved : (luck : Luck) (d : Ddl) (r : Option Refusal) → (r ≡ None → define_refusal p.log d ≡ None) → Steps p (define luck p d r).part
  define_moved luck d None e = quiet_moved luck (Defined d ∷ []) _ ((refl, tt), tt) (both_true (is_ddl_allowed p.log d) true (defined_allowed p.log d (e refl)) refl) refl (tt, tt)
  define_moved luck d (Some r) e = stays p h

  rest_none : (a b : Option Refusal) → or_else a b ≡ None → b ≡ None
  rest_none None b e = e
  rest_none (Some r) b e = cc

  alter_moved : (luck : Luck) (q : Bytes) (on : Bool) (r : Option Refusal) (def : Option QueueDef) → find_queue p.log q ≡ def → Steps p (alter_queue luck p q on r def).part
  alter_moved luck q on (Some r) def e = stays p h
  alter_moved luck q on None None e = stays p h
  alter_moved luck q on None (Some def) e = by_test (beq (is_on p.log def) on)
    where
      by_test : (c : Bool) → Steps p (append luck p (cond c [] (QueueSet q on ∷ [])) (answer.Replied reply.Done) p).part
      by_test true = quiet_moved luck [] (answer.Replied reply.Done) tt refl refl tt
      by_test false = quiet_moved luck (QueueSet q on ∷ []) (answer.Replied reply.Done) ((refl, tt), tt) (both_true (is_some (find_queue p.log q)) true (ap is_some e) refl) refl (tt, tt)

  -- ---- sessions

  asked_moved : (luck : Luck) (now : ℕ) (req : Request) (q : OpenTransaction → Bool) (r : Option OpenTransaction) → find q U ≡ r → Steps p (planned_step luck p now req r).part
  asked_moved luck now req q None e = at_once_moved luck now req _ refl
  asked_moved luck now req q (Some o) e = in_open_moved q o e now req _ refl

  commit_asked_moved : (luck : Luck) (session : ℕ) (q : OpenTransaction → Bool) (r : Option OpenTransaction) → find q U ≡ r → Steps p (commit_asked luck p session r).part
  commit_asked_moved luck session q None e = stays p h
  commit_asked_moved luck session q (Some o) e = commit_moved q o e luck

  rollback_asked_moved : (luck : Luck) (session : ℕ) (q : OpenTransaction → Bool) (r : Option OpenTransaction) → find q U ≡ r → Steps p (rollback_asked luck p session r).part
  rollback_asked_moved luck session q None e = stays p h
  rollback_asked_moved luck session q (Some o) e = rolled_moved q o e luck answer.Replied

  pub session_moved : (luck : Luck) (session now : ℕ) (req : Request) → Steps p (session_request luck p session now req).part
  session_moved luck session now (request.Define d) = define_moved luck d _ (rest_none (in_transaction (session_open p session)) (define_refusal p.log d))
  session_moved luck session now (request.AlterQueue q on) = alter_moved luck q on _ _ refl
  session_moved luck session now request.Begin = begin_moved session _
  session_moved luck session now request.Commit = commit_asked_moved luck session _ (session_open p session) refl
  session_moved luck session now request.Rollback = rollback_asked_moved luck session _ (session_open p session) refl
  session_moved luck session now (request.BeginDialog a b c d e f) = asked_moved luck now (request.BeginDialog a b c d e f) _ (session_open p session) refl
  session_moved luck session now (request.Send a b c) = asked_moved luck now (request.Send a b c) _ (session_open p session) refl
  session_moved luck session now (request.Receive a b c) = asked_moved luck now (request.Receive a b c) _ (session_open p session) refl
  session_moved luck session now (request.GetGroup a) = asked_moved luck now (request.GetGroup a) _ (session_open p session) refl
  session_moved luck session now (request.Move a b) = asked_moved luck now (request.Move a b) _ (session_open p session) refl
  session_moved luck session now (request.End a b) = asked_moved luck now (request.End a b) _ (session_open p session) refl
  session_moved luck session now (request.Timer a b) = asked_moved luck now (request.Timer a b) _ (session_open p session) refl
  session_moved luck session now (request.Insert a b c d) = asked_moved luck now (request.Insert a b c d) _ (session_open p session) refl
  session_moved luck session now (request.Update a b c d) = asked_moved luck now (request.Update a b c d) _ (session_open p session) refl
  session_moved luck session now (request.Delete a b) = asked_moved luck now (request.Delete a b) _ (session_open p session) refl
  session_moved luck session now (request.Read a b) = asked_moved luck now (request.Read a b) _ (session_open p session) refl

  -- ---- readers

  module _ (q : OpenTransaction → Bool) (o : OpenTransaction) (found : find q U ≡ Some o) where
    refused_moved : (luck : Luck) (r : Refusal) → Steps p (reader_refused luck p o r).part
    refused_moved luck (refusal.GroupHeld on) = deadlock_moved q o found luck on _
    refused_moved luck (refusal.RowHeld on) = deadlock_moved q o found luck on _
    refused_moved luck r = rolled_moved q o found luck (λ undone. answer.Refused r (Some undone))

    reader_commit_moved : (luck : Luck) (r : Option Refusal) → Steps p (reader_commit luck p o r).part
    reader_commit_moved luck None = commit_moved q o found luck
    reader_commit_moved luck (Some r) = rolled_moved q o found luck (λ undone. answer.Refused r (Some undone))

    reader_planned_moved : (luck : Luck) (now : ℕ) (req : Request) (r : Planned) → plan (ask p o.tx now) req ≡ r → Steps p (reader_planned luck p o r).part
    reader_planned_moved luck now req (Err k) e = refused_moved luck k
    reader_planned_moved luck now req (Ok planned) e = planned_moved q o found now req planned e

    pub reader_moved : (luck : Luck) (now : ℕ) (req : Request) → Steps p (reader_request luck p o now req).part
    reader_moved luck now request.Commit = reader_commit_moved luck (commit_refusal p o)
    reader_moved luck now request.Rollback = rolled_moved q o found luck answer.Replied
    reader_moved luck now (request.Define a) = rolled_moved q o found luck (λ undone. answer.Refused (refusal.InTransaction o.tx) (Some undone))
    reader_moved luck now (request.AlterQueue a b) = rolled_moved q o found luck (λ undone. answer.Refused (refusal.InTransaction o.tx) (Some undone))
    reader_moved luck now request.Begin = rolled_moved q o found luck (λ undone. answer.Refused (refusal.InTransaction o.tx) (Some undone))
    reader_moved luck now (request.BeginDialog a b c d e f) = reader_planned_moved luck now (request.BeginDialog a b c d e f) _ refl
    reader_moved luck now (request.Send a b c) = reader_planned_moved luck now (request.Send a b c) _ refl
    reader_moved luck now (request.Receive a b c) = reader_planned_moved luck now (request.Receive a b c) _ refl
    reader_moved luck now (request.GetGroup a) = reader_planned_moved luck now (request.GetGroup a) _ refl
    reader_moved luck now (request.Move a b) = reader_planned_moved luck now (request.Move a b) _ refl
    reader_moved luck now (request.End a b) = reader_planned_moved luck now (request.End a b) _ refl
    reader_moved luck now (request.Timer a b) = reader_planned_moved luck now (request.Timer a b) _ refl
    reader_moved luck now (request.Insert a b c d) = reader_planned_moved luck now (request.Insert a b c d) _ refl
    reader_moved luck now (request.Update a b c d) = reader_planned_moved luck now (request.Update a b c d) _ refl
    reader_moved luck now (request.Delete a b) = reader_planned_moved luck now (request.Delete a b) _ refl
    reader_moved luck now (request.Read a b) = reader_planned_moved luck now (request.Read a b) _ refl

-- ---- whether it is up or not

pub session_step_moved : (p : Part) → PartOk p → HasRoom p → (luck : Luck) (session now : ℕ) (req : Request) → Steps p (session_step luck p session now req).part
session_step_moved p h room luck session now req = by_test p.up refl
  where
    by_test : (c : Bool) → p.up ≡ c → Steps p (let d : Done = cond c (session_request luck p session now req) (refused p (refusal.Down p.who)) in d.part)
    by_test true e = session_moved p h room e luck session now req
    by_test false e = stays p h

-- a reader that is open is of an instance that is up
pub open_is_up : (p : Part) → PartOk p → (q : OpenTransaction → Bool) (o : OpenTransaction) → find q p.open_txns ≡ Some o → p.up ≡ true
open_is_up p h q o e = by_test p.up refl
  where
    by_test : (c : Bool) → p.up ≡ c → p.up ≡ true
    by_test true f = f
    by_test false f = absurd (none (sym (ap (find q) (h.down f)) ∙ e))
      where
        none : None ≡ Some o → ⊥
        none k = cc

-- a runnable reader is open
pub runnable_open : (p : Part) (reader : ℕ) (o : OpenTransaction) → runnable p reader ≡ Some o → reader_open p reader ≡ Some o
runnable_open p reader o e = by_open (reader_open p reader) e
  where
    none : {P : Type 0} → None ≡ Some o → P
    none k = cc

    by_open : (r : Option OpenTransaction) → option_and_then (λ z. cond (is_none z.waits_for) (Some z) None) r ≡ Some o → r ≡ Some o
    by_open None f = none f
    by_open (Some z) f = by_test (is_none z.waits_for) f
      where
        by_test : (c : Bool) → cond c (Some z) None ≡ Some o → Some z ≡ Some o
        by_test true k = k
        by_test false k = none k

pub refused_reader_moved : (p : Part) → PartOk p → HasRoom p → (luck : Luck) (reader : ℕ) (o : OpenTransaction) (r : Refusal) → runnable p reader ≡ Some o → Steps p (refused_reader luck p o r).part
refused_reader_moved p h room luck reader o r e =
    let found : reader_open p reader ≡ Some o = runnable_open p reader o e in
    rolled_moved p h room (open_is_up p h _ o found) _ o found luck (λ undone. answer.Refused r (Some undone))

pub reader_step_moved : (p : Part) → PartOk p → HasRoom p → (luck : Luck) (reader now : ℕ) (req : Request) (d : Done) → reader_step luck p reader now req ≡ Some d → Steps p d.part
reader_step_moved p h room luck reader now req d e = by_open (runnable p reader) refl e
  where
    by_open : (r : Option OpenTransaction) → runnable p reader ≡ r → option_map (λ o. reader_request luck p o now req) r ≡ Some d → Steps p d.part
    by_open None f g = absurd (none g)
      where
        none : None ≡ Some d → ⊥
        none k = cc
    by_open (Some o) f g =
        let found : reader_open p reader ≡ Some o = runnable_open p reader o f in
        subst (λ x. Steps p x.part) (same_Some (reader_request luck p o now req) d g) (reader_moved p h room (open_is_up p h _ o found) _ o found luck now req)

pub start_step_moved : (p : Part) → PartOk p → HasRoom p → (q : Bytes) (g : Handle) (d : Done) → start_step p q g ≡ Some d → Steps p d.part
start_step_moved p h room q g d e = by_up_test p.up refl e
  where
    none : {P : Type 0} → None ≡ Some d → P
    none k = cc

    by_group : (o : Option Pick) (def : QueueDef) → start_pick p def ≡ o → option_eq same_id (option_map (λ k. k.group) o) (Some g) ≡ true → p.up ≡ true → is_free p.open_txns g p.next_tx ≡ true
    by_group None def f k up = clash (sym k)
    by_group (Some k) def f i up = subst (λ z. is_free p.open_txns z p.next_tx ≡ true) (ids_same k.group g i) (start_free p h room up def k f)

    by_queue : (r : Option QueueDef) → p.up ≡ true → option_and_then (λ def. cond (same_name def.name q && option_eq same_id (option_map (λ k. k.group) (start_pick p def)) (Some g)) (Some (started_on p q g)) None) r ≡ Some d → Steps p d.part
    by_queue None up f = none f
    by_queue (Some def) up f = by_test (same_name def.name q && option_eq same_id (option_map (λ k. k.group) (start_pick p def)) (Some g)) refl f
      where
        by_test : (c : Bool) → (same_name def.name q && option_eq same_id (option_map (λ k. k.group) (start_pick p def)) (Some g)) ≡ c → cond c (Some (started_on p q g)) None ≡ Some d → Steps p d.part
        by_test true i k = subst (λ x. Steps p x.part) (same_Some (started_on p q g) d k)
            (started_moved p h room up q g (by_group (start_pick p def) def refl (both_right (same_name def.name q) _ i) up))
        by_test false i k = none k

    by_up_test : (c : Bool) → p.up ≡ c → option_and_then (λ def. cond (same_name def.name q && option_eq same_id (option_map (λ k. k.group) (start_pick p def)) (Some g)) (Some (started_on p q g)) None) (cond c (find (may_start_on p) (queues p.log)) None) ≡ Some d → Steps p d.part
    by_up_test true up f = by_queue (find (may_start_on p) (queues p.log)) up f
    by_up_test false up f = none f
