-- Want of memory is no refusal that the definitions give.
use Rattle.std.proofs.Common.{◌≡◌, ℕ, Bool, true, false, List, [], ◌∷◌, ◌++◌, length, map, Option, Some, None, Ok, Err, ap}
use Rattle.std.specs.Bool.{beq}
use Rattle.std.specs.List.{list_any}
use Rattle.std.specs.Prelude.{IsTrue, ℤ, pos, nat_abs, nat_le, nat_lt, is_none, is_some, ◌&&◌, ◌||◌, find, if◌then◌else◌, not, option_and_then, option_map, unwrap_or}
use Rattle.sb_instance.specs.Asked.{is_built}
use Rattle.sb_log.specs.Names.{is_name, character_count}
use Rattle.sb_log.specs.declared.definitions.Activation.{Activation}
use Rattle.sb_log.specs.declared.definitions.Ddl.{Ddl}
use Rattle.sb_log.specs.declared.definitions.Ddl.TheVariants.{MessageType, Contract, Queue, Service, Route, Priority, Table, Procedure}
use Rattle.sb_log.specs.declared.definitions.MessageDef.{MessageDef}
use Rattle.sb_log.specs.declared.definitions.QueueDef.{QueueDef}
use Rattle.sb_log.specs.declared.entries.Entry.{Entry}
use Rattle.sb_log.specs.declared.entries.Entry.TheVariants.{Defined, QueueSet}
use Rattle.sb_log.specs.declared.entries.Op.TheVariants as op
use Rattle.sb_log.specs.declared.identifiers.Handle.{Handle}
use Rattle.sb_log.specs.declared.identifiers.SideId.{SideId}
use Rattle.sb_log.specs.declared.refusals.Refusal.{Refusal}
use Rattle.sb_log.specs.declared.refusals.Refusal.TheVariants as refusal
use Rattle.sb_log.specs.declared.requests.Filter.{Filter}
use Rattle.sb_log.specs.declared.requests.Filter.TheVariants as filters
use Rattle.sb_log.specs.declared.requests.Reply.TheVariants as reply
use Rattle.sb_log.specs.declared.requests.Request.{Request}
use Rattle.sb_log.specs.declared.requests.Request.TheVariants as request
use Rattle.sb_log.specs.declared.steps.Answer.{Answer}
use Rattle.sb_log.specs.declared.steps.Answer.TheVariants as answer
use Rattle.sb_model.specs.Acceptance.{has_body}
use Rattle.sb_model.specs.Catalog.{default_name, definitions, find_contract, find_message_type, find_procedure, find_queue, find_service, find_table, is_on, may_be_sent_by, priorities, routes, sender_of}
use Rattle.sb_model.specs.Definitions.{bad_readers, bad_text, define_refusal, first_refusal, from_initiator, is_system_type, listed, missing, missing_if_named, own_refusal, procedure_named}
use Rattle.sb_model.specs.Instance.{Luck, Works, Fails, Part, append, append_to, written, luck_at, no_room, no_room_behind, refused, Done}
use Rattle.sb_model.specs.Pick.{Pick, pick}
use Rattle.sb_model.specs.Refusals.{need, or_else, refuse_if, unless_refused, when}
use Rattle.sb_model.specs.Replies.{Ask, Plan, Planned, body_length, contract_of, in_state, live, own_group, planned, seen, plan, receive, received, send, send_typed, with_filter, with_group, with_open_queue, with_optional_number, with_side, in_range}
use Rattle.sb_model.specs.Sides.{Bytes, same_name}
use Rattle.sb_model.specs.Statements.{alter_queue, define, in_transaction, at_once, ask, commit_counts, draws, drew_tx, is_session, planned_step, session_open, session_step, txn_entries}
use Rattle.sb_model.specs.States.{may_send, state_of}
use Rattle.sb_model.specs.Transactions.{OpenTransaction, holder}
use Rattle.sb_top.specs.Runs.{IsPlain}

-- a plan that isn't refused by want of memory
pub record IsOther (x : Planned) : Type 0 where
  pub other : x ≡ Err refusal.OutOfMemory → ⊥

need_other : {X : Type 0} (o : Option X) (r : Refusal) (rest : X → Planned) → (r ≡ refusal.OutOfMemory → ⊥) → ((x : X) → IsOther (rest x)) → IsOther (need o r rest)
need_other None r rest bad h = record { other = λ e. bad cc }
need_other (Some x) r rest bad h = h x

refuse_other : (b : Bool) (r : Refusal) (rest : Planned) → (r ≡ refusal.OutOfMemory → ⊥) → IsOther rest → IsOther (refuse_if b r rest)
refuse_other true r rest bad h = record { other = λ e. bad cc }
refuse_other false r rest bad h = h

unless_other : (o : Option Refusal) (rest : Planned) → (o ≡ Some refusal.OutOfMemory → ⊥) → IsOther rest → IsOther (unless_refused o rest)
unless_other None rest bad h = h
unless_other (Some r) rest bad h = record { other = λ e. bad cc }

held_other : (o : Option ℕ) → option_map refusal.GroupHeld o ≡ Some refusal.OutOfMemory → ⊥
held_other None e = cc
held_other (Some n) e = cc

off_other : (q : Bytes) (o : Option QueueDef) (test : QueueDef → Bool) → option_and_then (λ def. when (test def) (refusal.QueueOff q)) o ≡ Some refusal.OutOfMemory → ⊥
off_other q None test e = cc
off_other q (Some def) test e = by_test (test def) e
  where
    by_test : (b : Bool) → when b (refusal.QueueOff q) ≡ Some refusal.OutOfMemory → ⊥
    by_test true e = cc
    by_test false e = cc

ok_other : (k : Plan) → IsOther (Ok k)
ok_other k = record { other = λ e. cc }

number_other : (top : Option ℤ) (rest : Planned) → IsOther rest → IsOther (with_optional_number top rest)
number_other None rest h = h
number_other (Some z) rest h = refuse_other _ (refusal.BadNumber z) rest (λ e. cc) h

filter_other : (a : Ask) (filter_by : Filter) (rest : Planned) → IsOther rest → IsOther (with_filter a filter_by rest)
filter_other a (filters.Side handle) rest h = need_other _ (refusal.NoConversation handle) (λ s. rest) (λ e. cc) (λ s. h)
filter_other a _ rest h = h

received_other : (a : Ask) (q : Bytes) (o : Option Pick) → IsOther (received a q o)
received_other a q None = record { other = λ e. cc }
received_other a q (Some k) = record { other = λ e. cc }

typed_other : (a : Ask) (s : SideId) (type : Bytes) (empty : Bool) (body : Option Bytes) → IsOther (send_typed a s type empty body)
typed_other a s type empty body =
    let sent = planned (own_group a s ∷ []) (op.Send s type body ∷ []) reply.Done in
    let short = refuse_if (nat_lt 65536 (body_length body)) (refusal.BodyTooLong (body_length body)) sent in
    let fitting = refuse_if (empty && has_body body) (refusal.BodyNotEmpty (body_length body)) short in
    need_other (option_and_then (λ def. sender_of def type) (find_contract (seen a) (contract_of a s))) (refusal.NotInContract type)
    (λ by. refuse_if (not (may_be_sent_by by s.initiator)) (refusal.NotYours type) fitting) (λ e. cc)
    (λ by. refuse_other (not (may_be_sent_by by s.initiator)) (refusal.NotYours type) fitting (λ e. cc)
    (refuse_other (empty && has_body body) (refusal.BodyNotEmpty (body_length body)) short (λ e. cc)
    (refuse_other (nat_lt 65536 (body_length body)) (refusal.BodyTooLong (body_length body)) sent (λ e. cc) (ok_other _))))

send_other : (a : Ask) (handle : Handle) (type : Bytes) (body : Option Bytes) → IsOther (send a handle type body)
send_other a handle type body =
    let of_side = λ (def : MessageDef) (s : SideId). with_group a (own_group a s) (in_state a s may_send (send_typed a s type def.empty body)) in
    need_other (find_message_type (seen a) type) (refusal.NoMessageType type) (λ def. with_side a handle (of_side def)) (λ e. cc)
    (λ def. need_other (live a handle) (refusal.NoConversation handle) (of_side def) (λ e. cc)
    (λ s. unless_other (option_map refusal.GroupHeld (holder a.open_txns (own_group a s) a.tx)) (in_state a s may_send (send_typed a s type def.empty body))
    (held_other (holder a.open_txns (own_group a s) a.tx))
    (refuse_other (not (may_send (state_of (seen a) s))) (refusal.WrongState (state_of (seen a) s)) (send_typed a s type def.empty body) (λ e. cc)
    (typed_other a s type def.empty body))))

receive_other : (a : Ask) (queue : Bytes) (top : Option ℤ) (filter_by : Filter) → IsOther (receive a queue top filter_by)
receive_other a queue top filter_by =
    let found = received a queue (pick a.log a.open_txns a.tx queue (option_map nat_abs top) filter_by) in
    need_other (find_queue (seen a) queue) (refusal.NoQueue queue) (λ def. with_optional_number top (with_filter a filter_by (with_open_queue a queue found))) (λ e. cc)
    (λ def. number_other top (with_filter a filter_by (with_open_queue a queue found)) (filter_other a filter_by (with_open_queue a queue found)
    (unless_other (option_and_then (λ d. when (not (is_on (seen a) d)) (refusal.QueueOff queue)) (find_queue (seen a) queue)) found
    (off_other queue (find_queue (seen a) queue) (λ d. not (is_on (seen a) d)))
    (received_other a queue (pick a.log a.open_txns a.tx queue (option_map nat_abs top) filter_by)))))

-- ---- nor of a definition

-- none of these is want of memory
pub data AreOther : List (Option Refusal) → Type 0 where
  none : AreOther []
  more : (o : Option Refusal) (os : List (Option Refusal)) → (o ≡ Some refusal.OutOfMemory → ⊥) → AreOther os → AreOther (o ∷ os)

when_other : (b : Bool) (r : Refusal) → (r ≡ refusal.OutOfMemory → ⊥) → when b r ≡ Some refusal.OutOfMemory → ⊥
when_other true r bad e = bad cc
when_other false r bad e = cc

or_other : (o p : Option Refusal) → (o ≡ Some refusal.OutOfMemory → ⊥) → (p ≡ Some refusal.OutOfMemory → ⊥) → or_else o p ≡ Some refusal.OutOfMemory → ⊥
or_other None p bad worse e = worse e
or_other (Some r) p bad worse e = bad e

first_other : (os : List (Option Refusal)) → AreOther os → first_refusal os ≡ Some refusal.OutOfMemory → ⊥
first_other [] none e = cc
first_other (o ∷ os) (more _ _ bad rest) e = or_other o (first_refusal os) bad (first_other os rest) e

missing_other : {X : Type 0} (look : Bytes → Option X) (refuse : Bytes → Refusal) (o : Option Bytes) → ((name : Bytes) → refuse name ≡ refusal.OutOfMemory → ⊥)
    → missing_if_named look refuse o ≡ Some refusal.OutOfMemory → ⊥
missing_other look refuse None bad e = cc
missing_other look refuse (Some name) bad e = when_other (is_none (look name)) (refuse name) (bad name) e

listed_other : {X : Type 0} (look : Bytes → Option X) (refuse : Bytes → Refusal) (seen_before names : List Bytes) → ((name : Bytes) → refuse name ≡ refusal.OutOfMemory → ⊥)
    → listed look refuse seen_before names ≡ Some refusal.OutOfMemory → ⊥
listed_other look refuse before [] bad e = cc
listed_other look refuse before (name ∷ names) bad e =
    or_other (when (list_any (same_name name) before) (refusal.NameTaken name)) (or_else (missing look refuse name) (listed look refuse (name ∷ before) names))
    (when_other (list_any (same_name name) before) (refusal.NameTaken name) (λ k. cc))
    (or_other (missing look refuse name) (listed look refuse (name ∷ before) names) (when_other (is_none (look name)) (refuse name) (bad name))
    (listed_other look refuse (name ∷ before) names bad)) e

text_other : (o : Option Bytes) → bad_text o ≡ Some refusal.OutOfMemory → ⊥
text_other None e = cc
text_other (Some text) e = when_other (not (is_name text)) (refusal.BadNumber (pos (character_count text))) (λ k. cc) e

readers_other : (o : Option Activation) → bad_readers o ≡ Some refusal.OutOfMemory → ⊥
readers_other None e = cc
readers_other (Some a) e = when_other (not (in_range a.readers 0 32767)) (refusal.BadNumber a.readers) (λ k. cc) e

-- the last one is that of too many definitions
own_other : (log : List Entry) (ddl : Ddl) (last : List (Option Refusal)) → AreOther last → AreOther (own_refusal log ddl ++ last)
own_other log (MessageType d) last h = more _ _ (when_other (is_some (find_message_type log d.name) || is_system_type d.name) (refusal.NameTaken d.name) (λ k. cc)) h
own_other log (Contract d) last h =
    more _ _ (when_other (is_some (find_contract log d.name)) (refusal.NameTaken d.name) (λ k. cc))
    (more _ _ (listed_other (find_message_type log) refusal.NoMessageType [] (map (λ sent. sent.kind) d.types) (λ name k. cc))
    (more _ _ (when_other (not (from_initiator d)) (refusal.NothingFromInitiator d.name) (λ k. cc)) h))
own_other log (Queue d) last h =
    more _ _ (when_other (is_some (find_queue log d.name)) (refusal.NameTaken d.name) (λ k. cc))
    (more _ _ (missing_other (find_procedure log) refusal.NoProcedure (procedure_named d.activation) (λ name k. cc))
    (more _ _ (readers_other d.activation) h))
own_other log (Service d) last h =
    more _ _ (when_other (is_some (find_service log d.name)) (refusal.NameTaken d.name) (λ k. cc))
    (more _ _ (when_other (is_none (find_queue log d.queue)) (refusal.NoQueue d.queue) (λ k. cc))
    (more _ _ (listed_other (find_contract log) refusal.NoContract [] d.contracts (λ name k. cc)) h))
own_other log (Route d) last h =
    more _ _ (when_other (is_some (find (λ r. same_name r.name d.name) (routes log))) (refusal.NameTaken d.name) (λ k. cc))
    (more _ _ (text_other d.service) h)
own_other log (Priority d) last h =
    more _ _ (when_other (is_some (find (λ r. same_name r.name d.name) (priorities log))) (refusal.NameTaken d.name) (λ k. cc))
    (more _ _ (missing_other (find_contract log) refusal.NoContract d.contract (λ name k. cc))
    (more _ _ (missing_other (find_service log) refusal.NoService d.local (λ name k. cc))
    (more _ _ (text_other d.remote)
    (more _ _ (when_other (not (in_range d.level 1 10)) (refusal.BadNumber d.level) (λ k. cc)) h))))
own_other log (Table d) last h = more _ _ (when_other (is_some (find_table log d.name)) (refusal.NameTaken d.name) (λ k. cc)) h
own_other log (Procedure d) last h = more _ _ (when_other (is_some (find_procedure log d.name)) (refusal.NameTaken d.name) (λ k. cc)) h

definition_other : (log : List Entry) (ddl : Ddl) → define_refusal log ddl ≡ Some refusal.OutOfMemory → ⊥
definition_other log ddl =
    let last = when (nat_le 4096 (length (definitions log))) refusal.TooMany ∷ [] in
    first_other (own_refusal log ddl ++ last)
    (own_other log ddl last (more _ _ (when_other (nat_le 4096 (length (definitions log))) refusal.TooMany (λ k. cc)) none))

-- ---- nor an answer

abbrev memory : Answer
memory = answer.Refused refusal.OutOfMemory None

written_other : (luck : Luck) (p : Part) (es : List Entry) (told : Answer) (after : Part) → (told ≡ memory → ⊥) → (written luck p es told after).answer ≡ memory → ⊥
written_other Works p es told after bad e = bad e
written_other Fails p es told after bad e = cc

room_other : (p : Part) (es : List Entry) (told : Answer) (after : Part) (room : Option Refusal) → room ≡ None → (told ≡ memory → ⊥) → (append_to Works p es told after room).answer ≡ memory → ⊥
room_other p es told after None is bad e = written_other (luck_at p.end Works) p es told after bad e
room_other p es told after (Some r) is bad e = cc

append_other : (p : Part) (es : List Entry) (told : Answer) (after : Part) → p.end ≡ None → (told ≡ memory → ⊥) → (append Works p es told after).answer ≡ memory → ⊥
append_other p [] told after end bad e = bad e
append_other p (x ∷ xs) told after end bad e =
    room_other p (x ∷ xs) told after (no_room p (x ∷ xs)) (ap (λ o. option_and_then (no_room_behind (x ∷ xs)) o) end) bad e

at_once_other : (p : Part) (tx : ℕ) (planned : Planned) → p.end ≡ None → IsOther planned → (at_once Works p tx planned).answer ≡ memory → ⊥
at_once_other p tx (Err r) end h e = h.other cc
at_once_other p tx (Ok planned) end h e =
    append_other p (txn_entries tx planned.ops) (answer.Replied planned.reply) (draws (commit_counts p planned.ops) planned.drawn) end (λ k. cc) e

planned_other : (p : Part) (req : Request) (o : Option OpenTransaction) → o ≡ None → p.end ≡ None → IsOther (plan (ask (drew_tx p) p.next_tx 0) req)
    → (planned_step Works p 0 req o).answer ≡ memory → ⊥
planned_other p req (Some o) is end h e = cc
planned_other p req None is end h e = at_once_other (drew_tx p) p.next_tx (plan (ask p p.next_tx 0) req) end (record { other = h.other }) e

define_other : (p : Part) (ddl : Ddl) (o : Option OpenTransaction) (r : Option Refusal) → o ≡ None → p.end ≡ None → (r ≡ Some refusal.OutOfMemory → ⊥)
    → (define Works p ddl (or_else (in_transaction o) r)).answer ≡ memory → ⊥
define_other p ddl (Some o) r is end bad e = cc
define_other p ddl None None is end bad e = append_other p (Defined ddl ∷ []) (answer.Replied reply.Done) p end (λ k. cc) e
define_other p ddl None (Some r) is end bad e = bad cc

alter_other : (p : Part) (queue : Bytes) (on : Bool) (o : Option OpenTransaction) (def : Option QueueDef) → o ≡ None → p.end ≡ None
    → (alter_queue Works p queue on (in_transaction o) def).answer ≡ memory → ⊥
alter_other p queue on (Some o) def is end e = cc
alter_other p queue on None None is end e = cc
alter_other p queue on None (Some d) is end e =
    append_other p (if beq (is_on p.log d) on then [] else QueueSet queue on ∷ []) (answer.Replied reply.Done) p end (λ k. cc) e

up_other : (b : Bool) (p : Part) (d : Done) → b ≡ true → (d.answer ≡ memory → ⊥) → (if b then d else refused p (refusal.Down p.who)).answer ≡ memory → ⊥
up_other true p d is bad e = bad e
up_other false p d is bad e = cc

none_open : (p : Part) → IsPlain p → session_open p 1 ≡ None
none_open p plain = ap (λ u. find (is_session 1) u) plain.closed

-- no statement that is built is answered so
pub never_memory : (p : Part) (req : Request) → IsTrue (is_built req) → IsPlain p → (session_step Works p 1 0 req).answer ≡ answer.Refused refusal.OutOfMemory None → ⊥
never_memory p (request.Send handle type body) built plain e =
    up_other p.up p (planned_step Works p 0 (request.Send handle type body) (session_open p 1)) plain.up
    (planned_other p (request.Send handle type body) (session_open p 1) (none_open p plain) plain.end (send_other (ask p p.next_tx 0) handle (unwrap_or type default_name) body)) e
never_memory p (request.Receive queue top filter_by) built plain e =
    up_other p.up p (planned_step Works p 0 (request.Receive queue top filter_by) (session_open p 1)) plain.up
    (planned_other p (request.Receive queue top filter_by) (session_open p 1) (none_open p plain) plain.end (receive_other (ask p p.next_tx 0) queue top filter_by)) e
never_memory p (request.Define ddl) built plain e =
    up_other p.up p (define Works p ddl (or_else (in_transaction (session_open p 1)) (define_refusal p.log ddl))) plain.up
    (define_other p ddl (session_open p 1) (define_refusal p.log ddl) (none_open p plain) plain.end (definition_other p.log ddl)) e
never_memory p (request.AlterQueue queue on) built plain e =
    up_other p.up p (alter_queue Works p queue on (in_transaction (session_open p 1)) (find_queue p.log queue)) plain.up
    (alter_other p queue on (session_open p 1) (find_queue p.log queue) (none_open p plain) plain.end) e
never_memory p _ built plain e = cc
