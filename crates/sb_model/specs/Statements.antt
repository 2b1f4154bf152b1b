-- What statements of sessions and readers make of an instance, and when readers start.
use Rattle.std.specs.Prelude.{ℕ, pos, Bool, true, false, not, ◌&&◌, ◌==◌, ◌+◌, ◌^◌, ◌%◌, int_lt, nat_lt, if◌then◌else◌, List, [], ◌∷◌, ◌++◌, Option, Some, None, Ok, Err, map, filter, flat_map, find, length, option_map, option_and_then, is_some, is_none}
use Rattle.std.specs.Option.{option_eq, option_map_or}
use Rattle.std.specs.Bool.{beq}
use Rattle.sb_log.specs.declared.identifiers.Handle.{Handle}
use Rattle.sb_log.specs.declared.entries.Entry.{Entry}
use Rattle.sb_log.specs.declared.entries.Op.{Op}
use Rattle.sb_log.specs.declared.refusals.Refusal.{Refusal}
use Rattle.sb_log.specs.declared.requests.Request.{Request}
use Rattle.sb_model.specs.Sides.{Bytes, same_name, same_id}
use Rattle.sb_log.specs.declared.entries.Entry.TheVariants.{Defined, Txn, QueueSet}
use Rattle.sb_log.specs.declared.definitions.Ddl.{Ddl}
use Rattle.sb_log.specs.declared.definitions.QueueDef.{QueueDef}
use Rattle.sb_log.specs.declared.definitions.Activation.{Activation}
use Rattle.sb_model.specs.Catalog.{queues, is_on, find_queue}
use Rattle.sb_model.specs.Definitions.{define_refusal}
use Rattle.sb_model.specs.Transactions.{OpenTransaction, Owner, find_open}
use Rattle.sb_model.specs.Pick.{pick, Pick}
use Rattle.sb_model.specs.Replies.{Ask, Plan, Planned, plan}
use Rattle.sb_model.specs.Instance.{Luck, Part, Done, append, has_name, queue_taken, without_counts, no_room, refused}
use Rattle.sb_model.specs.Rollbacks.{without_open, end_owner, roll_back_with}
use Rattle.sb_model.specs.Refusals.{or_else}
use Rattle.sb_log.specs.declared.refusals.Refusal.TheVariants as refusal
use Rattle.sb_log.specs.declared.requests.Request.TheVariants as request
use Rattle.sb_log.specs.declared.requests.Reply.TheVariants as reply
use Rattle.sb_log.specs.declared.steps.Answer.TheVariants as answer
use Rattle.sb_log.specs.declared.requests.Filter.TheVariants as filters
use Rattle.sb_model.specs.Transactions as open_as

abbrev pub owner_is_session : ℕ → Owner → Bool
owner_is_session n (open_as.Session m) = m == n
owner_is_session n (open_as.Reader m q) = false

abbrev pub owner_is_reader : ℕ → Owner → Bool
owner_is_reader n (open_as.Session m) = false
owner_is_reader n (open_as.Reader m q) = m == n

abbrev pub owner_reads : Bytes → Owner → Bool
owner_reads q (open_as.Session m) = false
owner_reads q (open_as.Reader m own) = same_name own q

abbrev pub owner_is_any_reader : Owner → Bool
owner_is_any_reader (open_as.Session m) = false
owner_is_any_reader (open_as.Reader m q) = true

abbrev pub is_session : ℕ → OpenTransaction → Bool
is_session n o = owner_is_session n o.owner

abbrev pub is_reader : ℕ → OpenTransaction → Bool
is_reader n o = owner_is_reader n o.owner

abbrev pub is_reader_of : Bytes → OpenTransaction → Bool
is_reader_of q o = owner_reads q o.owner

abbrev pub is_any_reader : OpenTransaction → Bool
is_any_reader o = owner_is_any_reader o.owner

-- the transaction with what a plan adds
abbrev pub with_plan : Plan → OpenTransaction → OpenTransaction
with_plan planned o = record o { ops = o.ops ++ planned.ops; groups = o.groups ++ planned.groups; keys = o.keys ++ planned.keys }

abbrev pub add_plan : ℕ → Plan → OpenTransaction → OpenTransaction
add_plan tx planned o = if o.tx == tx then with_plan planned o else o

abbrev pub draws : Part → ℕ → Part
draws p n = record p { next_handle = (p.next_handle + n) % 2 ^ 64 }

abbrev pub ask : Part → ℕ → ℕ → Ask
ask p tx now = record { who = p.who; log = p.log; open_txns = p.open_txns; tx = tx; now = now; next = p.next_handle }

-- the part after a plan in an open transaction
abbrev pub after_plan : Part → ℕ → Plan → Part
after_plan p tx planned = draws (record p { open_txns = map (add_plan tx planned) p.open_txns }) planned.drawn

abbrev pub txn_entries : ℕ → List Op → List Entry
txn_entries tx [] = []
txn_entries tx (op ∷ ops) = Txn tx (op ∷ ops) ∷ []

abbrev pub commit_counts : Part → List Op → Part
commit_counts p ops = record p { counts = without_counts p.counts (flat_map queue_taken ops) }

abbrev pub fresh_open : Owner → ℕ → List Handle → OpenTransaction
fresh_open owner tx groups = record { owner = owner; tx = tx; ops = []; groups = groups; keys = []; waits_for = None }

-- a commit of an open transaction; refused, it stays open
abbrev pub commit : Luck → Part → OpenTransaction → Done
commit luck p o =
    append luck p (txn_entries o.tx o.ops) (answer.Replied (reply.Committed o.tx))
    (end_owner o.owner o (commit_counts (record p { open_txns = without_open p.open_txns o.tx }) o.ops))

abbrev pub drew_tx : Part → Part
drew_tx p = record p { next_tx = (p.next_tx + 1) % 2 ^ 64 }

-- a plan outside a transaction is its row and a commit in one step
abbrev pub at_once : Luck → Part → ℕ → Planned → Done
at_once luck p tx (Err r) = refused p r
at_once luck p tx (Ok planned) =
    append luck p (txn_entries tx planned.ops) (answer.Replied planned.reply) (draws (commit_counts p planned.ops) planned.drawn)

abbrev pub in_open : Part → ℕ → Planned → Done
in_open p tx (Err r) = refused p r
in_open p tx (Ok planned) = record { answer = answer.Replied planned.reply; added = []; part = after_plan p tx planned }

abbrev pub planned_step : Luck → Part → ℕ → Request → Option OpenTransaction → Done
planned_step luck p now req (Some o) = in_open p o.tx (plan (ask p o.tx now) req)
planned_step luck p now req None = at_once luck (drew_tx p) p.next_tx (plan (ask p p.next_tx now) req)

-- 6
abbrev pub in_transaction : Option OpenTransaction → Option Refusal
in_transaction None = None
in_transaction (Some o) = Some (refusal.InTransaction o.tx)

abbrev pub define : Luck → Part → Ddl → Option Refusal → Done
define luck p ddl None = append luck p (Defined ddl ∷ []) (answer.Replied reply.Done) p
define luck p ddl (Some r) = refused p r

abbrev pub alter_queue : Luck → Part → Bytes → Bool → Option Refusal → Option QueueDef → Done
alter_queue luck p q on (Some r) def = refused p r
alter_queue luck p q on None None = refused p (refusal.NoQueue q)
alter_queue luck p q on None (Some def) =
    append luck p (if beq (is_on p.log def) on then [] else QueueSet q on ∷ []) (answer.Replied reply.Done) p

abbrev pub begin : Part → ℕ → Option OpenTransaction → Done
begin p session (Some o) = refused p (refusal.InTransaction o.tx)
begin p session None =
    record {
      answer = answer.Replied (reply.Began p.next_tx);
      added = [];
      part = drew_tx (record p { open_txns = p.open_txns ++ fresh_open (open_as.Session session) p.next_tx [] ∷ [] });
    }

abbrev pub commit_asked : Luck → Part → ℕ → Option OpenTransaction → Done
commit_asked luck p session None = refused p (refusal.NoTransaction (record { instance = p.who; number = session }))
commit_asked luck p session (Some o) = commit luck p o

abbrev pub rollback_asked : Luck → Part → ℕ → Option OpenTransaction → Done
rollback_asked luck p session None = refused p (refusal.NoTransaction (record { instance = p.who; number = session }))
rollback_asked luck p session (Some o) = roll_back_with luck p o answer.Replied

abbrev pub session_open : Part → ℕ → Option OpenTransaction
session_open p n = find (is_session n) p.open_txns

-- a request of a session at an instance that is up
abbrev pub session_request : Luck → Part → ℕ → ℕ → Request → Done
session_request luck p session now (request.Define ddl) =
    define luck p ddl (or_else (in_transaction (session_open p session)) (define_refusal p.log ddl))
session_request luck p session now (request.AlterQueue q on) =
    alter_queue luck p q on (in_transaction (session_open p session)) (find_queue p.log q)
session_request luck p session now request.Begin = begin p session (session_open p session)
session_request luck p session now request.Commit = commit_asked luck p session (session_open p session)
session_request luck p session now request.Rollback = rollback_asked luck p session (session_open p session)
session_request luck p session now req = planned_step luck p now req (session_open p session)

-- a request of a session: Down comes first
abbrev pub session_step : Luck → Part → ℕ → ℕ → Request → Done
session_step luck p session now req =
    if p.up then session_request luck p session now req else refused p (refusal.Down p.who)

-- the chain of waits from a transaction, if it leads back to `own`
abbrev pub chain : List OpenTransaction → ℕ → List OpenTransaction → ℕ → Option (List ℕ)
chain u own [] on = None
chain u own (step ∷ steps) on =
    if on == own then Some [] else option_map (λ txs. on ∷ txs) (option_and_then (chain u own steps) (option_and_then (λ o. o.waits_for) (find_open u on)))

abbrev pub refused_reader : Luck → Part → OpenTransaction → Refusal → Done
refused_reader luck p o r = roll_back_with luck p o (λ undone. answer.Refused r (Some undone))

abbrev pub set_wait : ℕ → ℕ → OpenTransaction → OpenTransaction
set_wait tx on o = if o.tx == tx then record o { waits_for = Some on } else o

-- a reader waits where no chain of waits leads back to it
abbrev pub wait_or_deadlock : Luck → Part → OpenTransaction → ℕ → Option (List ℕ) → Done
wait_or_deadlock luck p o on None =
    record { answer = answer.Replied (reply.Waiting on); added = []; part = record p { open_txns = map (set_wait o.tx on) p.open_txns } }
wait_or_deadlock luck p o on (Some txs) = refused_reader luck p o (refusal.Deadlock (o.tx ∷ txs))

abbrev pub reader_refused : Luck → Part → OpenTransaction → Refusal → Done
reader_refused luck p o (refusal.GroupHeld on) = wait_or_deadlock luck p o on (chain p.open_txns o.tx (o ∷ p.open_txns) on)
reader_refused luck p o (refusal.RowHeld on) = wait_or_deadlock luck p o on (chain p.open_txns o.tx (o ∷ p.open_txns) on)
reader_refused luck p o r = refused_reader luck p o r

abbrev pub reader_planned : Luck → Part → OpenTransaction → Planned → Done
reader_planned luck p o (Err r) = reader_refused luck p o r
reader_planned luck p o (Ok planned) = record { answer = answer.Replied planned.reply; added = []; part = after_plan p o.tx planned }

-- 29 and 30 of a commit
abbrev pub refusal_of_entries : Part → List Entry → Option Refusal
refusal_of_entries p [] = None
refusal_of_entries p (e ∷ es) = no_room p (e ∷ es)

abbrev pub commit_refusal : Part → OpenTransaction → Option Refusal
commit_refusal p o = refusal_of_entries p (txn_entries o.tx o.ops)

-- a reader's commit that is refused rolls back
abbrev pub reader_commit : Luck → Part → OpenTransaction → Option Refusal → Done
reader_commit luck p o None = commit luck p o
reader_commit luck p o (Some r) = refused_reader luck p o r

abbrev pub reader_request : Luck → Part → OpenTransaction → ℕ → Request → Done
reader_request luck p o now (request.Define def) = refused_reader luck p o (refusal.InTransaction o.tx)
reader_request luck p o now (request.AlterQueue q on) = refused_reader luck p o (refusal.InTransaction o.tx)
reader_request luck p o now request.Begin = refused_reader luck p o (refusal.InTransaction o.tx)
reader_request luck p o now request.Commit = reader_commit luck p o (commit_refusal p o)
reader_request luck p o now request.Rollback = roll_back_with luck p o answer.Replied
reader_request luck p o now req = reader_planned luck p o (plan (ask p o.tx now) req)

abbrev pub reader_open : Part → ℕ → Option OpenTransaction
reader_open p n = find (is_reader n) p.open_txns

-- a reader that is open and waits for no other transaction; an instance that is down has none
abbrev pub runnable : Part → ℕ → Option OpenTransaction
runnable p reader = option_and_then (λ o. if is_none o.waits_for then Some o else None) (reader_open p reader)

-- a step of a reader that is open and runnable
abbrev pub reader_step : Luck → Part → ℕ → ℕ → Request → Option Done
reader_step luck p reader now req = option_map (λ o. reader_request luck p o now req) (runnable p reader)

abbrev pub readers_of : Part → Bytes → ℕ
readers_of p q = length (filter (is_reader_of q) p.open_txns)

abbrev pub has_readers_left : Part → QueueDef → Activation → Bool
has_readers_left p def a = a.on && int_lt (pos (readers_of p def.name)) a.readers

-- the pick of a reader that would start now
abbrev pub start_pick : Part → QueueDef → Option Pick
start_pick p def = pick p.log p.open_txns p.next_tx def.name None filters.All

abbrev pub may_start_on : Part → QueueDef → Bool
may_start_on p def =
    is_on p.log def && not (has_name p.held def.name) && option_map_or (has_readers_left p def) def.activation false
    && nat_lt (length (filter is_any_reader p.open_txns)) 64 && is_some (start_pick p def)

-- the queue on which a reader starts, the first in order of definition
abbrev pub start_queue : Part → Option QueueDef
start_queue p = if p.up then find (may_start_on p) (queues p.log) else None

abbrev pub started_on : Part → Bytes → Handle → Done
started_on p q g = record {
  answer = answer.Started p.next_tx;
  added = [];
  part = drew_tx (record p {
    last_reader = p.last_reader + 1;
    open_txns = p.open_txns ++ fresh_open (open_as.Reader (p.last_reader + 1) q) p.next_tx (g ∷ []) ∷ [];
  });
}

-- a start is possible for the first candidate alone, and for the group that it would pick
abbrev pub start_step : Part → Bytes → Handle → Option Done
start_step p q g =
    option_and_then (λ def. if same_name def.name q && option_eq same_id (option_map (λ k. k.group) (start_pick p def)) (Some g) then Some (started_on p q g) else None)
    (start_queue p)
