-- A statement that an instance without a journal answered is a step, and leaves it without one.
use Rattle.std.proofs.Common.{◌≡◌, ℕ, Bool, true, false, List, [], ◌∷◌, inl, inr, Option, Some, None, Ok, Err, refl, sym, ap, subst, ◌∙◌}
use Rattle.std.specs.Bool.{beq}
use Rattle.std.specs.Prelude.{IsTrue, if◌then◌else◌, sum_by, option_map, find, ◌+◌, ◌^◌}
use Rattle.sb_instance.specs.Asked.{Answers, is_built}
use Rattle.sb_instance.specs.Running.{IsDone}
use Rattle.sb_log.specs.declared.definitions.Ddl.{Ddl}
use Rattle.sb_log.specs.declared.definitions.QueueDef.{QueueDef}
use Rattle.sb_log.specs.declared.entries.Entry.{Entry}
use Rattle.sb_log.specs.declared.entries.Entry.TheVariants.{Defined, QueueSet}
use Rattle.sb_log.specs.declared.refusals.Refusal.{Refusal}
use Rattle.sb_log.specs.declared.refusals.Refusal.TheVariants as refusal
use Rattle.sb_log.specs.declared.requests.Reply.{Reply}
use Rattle.sb_log.specs.declared.requests.Reply.TheVariants as reply
use Rattle.sb_log.specs.declared.requests.Request.{Request}
use Rattle.sb_log.specs.declared.requests.Request.TheVariants as request
use Rattle.sb_log.specs.declared.steps.Answer.{Answer}
use Rattle.sb_log.specs.declared.steps.Answer.TheVariants as answer
use Rattle.sb_log.specs.declared.steps.Event.TheVariants as event
use Rattle.sb_model.specs.Instance.{Luck, Works, Fails, Part, Done, append, append_to, written, luck_at, no_room, refused}
use Rattle.sb_model.specs.Catalog.{find_queue, is_on}
use Rattle.sb_model.specs.Definitions.{define_refusal}
use Rattle.sb_model.specs.Refusals.{or_else}
use Rattle.sb_model.specs.Replies.{Planned, plan}
use Rattle.sb_model.specs.Sides.{Bytes}
use Rattle.sb_model.specs.Statements.{alter_queue, define, in_transaction, session_step, planned_step, at_once, drew_tx, ask, txn_entries, session_open, commit_counts, draws, is_session}
use Rattle.sb_model.specs.Steps.{luck_of}
use Rattle.sb_laws.specs.Fresh.{spells_low}
use Rattle.sb_model.specs.Sizes.{record_size}
use Rattle.sb_model.specs.Transactions.{OpenTransaction}
use Rattle.sb_top.proofs.Refusing.{never_memory}
use Rattle.sb_top.specs.Following.{asked}
use Rattle.sb_top.specs.Runs.{IsPlain, IsStep, world_of}

-- ---- without a journal no write can fail

luck_at_same : (luck : Luck) (end : Option ℕ) → end ≡ None → luck_at end luck ≡ luck_at end Works
luck_at_same luck None e = refl
luck_at_same luck (Some n) e = cc

append_to_same : (luck : Luck) (p : Part) (es : List Entry) (told : Answer) (after : Part) (room : Option Refusal) → p.end ≡ None
    → append_to luck p es told after room ≡ append_to Works p es told after room
append_to_same luck p es told after None e = ap (λ l. written l p es told after) (luck_at_same luck p.end e)
append_to_same luck p es told after (Some r) e = refl

append_same : (luck : Luck) (p : Part) (es : List Entry) (told : Answer) (after : Part) → p.end ≡ None
    → append luck p es told after ≡ append Works p es told after
append_same luck p [] told after e = refl
append_same luck p (x ∷ xs) told after e = append_to_same luck p (x ∷ xs) told after (no_room p (x ∷ xs)) e

at_once_same : (luck : Luck) (p : Part) (tx : ℕ) (planned : Planned) → p.end ≡ None → at_once luck p tx planned ≡ at_once Works p tx planned
at_once_same luck p tx (Err r) e = refl
at_once_same luck p tx (Ok planned) e =
    append_same luck p (txn_entries tx planned.ops) (answer.Replied planned.reply) (draws (commit_counts p planned.ops) planned.drawn) e

planned_same : (luck : Luck) (p : Part) (now : ℕ) (req : Request) (o : Option OpenTransaction) → p.end ≡ None
    → planned_step luck p now req o ≡ planned_step Works p now req o
planned_same luck p now req None e = at_once_same luck (drew_tx p) p.next_tx (plan (ask p p.next_tx now) req) e
planned_same luck p now req (Some o) e = refl

define_same : (luck : Luck) (p : Part) (ddl : Ddl) (o : Option Refusal) → p.end ≡ None → define luck p ddl o ≡ define Works p ddl o
define_same luck p ddl None e = append_same luck p (Defined ddl ∷ []) (answer.Replied reply.Done) p e
define_same luck p ddl (Some r) e = refl

alter_same : (luck : Luck) (p : Part) (queue : Bytes) (on : Bool) (o : Option Refusal) (def : Option QueueDef) → p.end ≡ None
    → alter_queue luck p queue on o def ≡ alter_queue Works p queue on o def
alter_same luck p queue on (Some r) def e = refl
alter_same luck p queue on None None e = refl
alter_same luck p queue on None (Some d) e = append_same luck p (if beq (is_on p.log d) on then [] else QueueSet queue on ∷ []) (answer.Replied reply.Done) p e

step_same : (luck : Luck) (p : Part) (now : ℕ) (req : Request) → IsTrue (is_built req) → p.end ≡ None
    → session_step luck p 1 now req ≡ session_step Works p 1 now req
step_same luck p now (request.Send handle type body) built e =
    ap (λ d. if p.up then d else refused p (refusal.Down p.who)) (planned_same luck p now (request.Send handle type body) (session_open p 1) e)
step_same luck p now (request.Receive queue top filter_by) built e =
    ap (λ d. if p.up then d else refused p (refusal.Down p.who)) (planned_same luck p now (request.Receive queue top filter_by) (session_open p 1) e)
step_same luck p now (request.Define ddl) built e =
    ap (λ d. if p.up then d else refused p (refusal.Down p.who)) (define_same luck p ddl (or_else (in_transaction (session_open p 1)) (define_refusal p.log ddl)) e)
step_same luck p now (request.AlterQueue queue on) built e =
    ap (λ d. if p.up then d else refused p (refusal.Down p.who)) (alter_same luck p queue on (in_transaction (session_open p 1)) (find_queue p.log queue) e)
step_same luck p now _ built e = cc

-- ---- what a statement leaves

luck_at_works : (end : Option ℕ) → luck_at end Works ≡ Works
luck_at_works None = refl
luck_at_works (Some n) = refl

written_plain : (luck : Luck) (p : Part) (es : List Entry) (told : Answer) (after : Part) → luck ≡ Works → IsPlain after → IsPlain (written luck p es told after).part
written_plain Works p es told after e plain = record { who = plain.who; up = plain.up; end = ap (λ x. option_map (λ end. end + sum_by record_size es) x) plain.end; closed = plain.closed }
written_plain Fails p es told after e plain = cc

append_to_plain : (p : Part) (es : List Entry) (told : Answer) (after : Part) (room : Option Refusal) → IsPlain p → IsPlain after → IsPlain (append_to Works p es told after room).part
append_to_plain p es told after None plain later = written_plain (luck_at p.end Works) p es told after (luck_at_works p.end) later
append_to_plain p es told after (Some r) plain later = plain

pub append_plain : (p : Part) (es : List Entry) (told : Answer) (after : Part) → IsPlain p → IsPlain after → IsPlain (append Works p es told after).part
append_plain p [] told after plain later = later
append_plain p (x ∷ xs) told after plain later = append_to_plain p (x ∷ xs) told after (no_room p (x ∷ xs)) plain later

at_once_plain : (p : Part) (tx : ℕ) (planned : Planned) → IsPlain p → IsPlain (at_once Works p tx planned).part
at_once_plain p tx (Err r) plain = plain
at_once_plain p tx (Ok planned) plain =
    append_plain p (txn_entries tx planned.ops) (answer.Replied planned.reply) (draws (commit_counts p planned.ops) planned.drawn) plain
    (record { who = plain.who; up = plain.up; end = plain.end; closed = plain.closed })

-- a plain instance has no open transaction
none_open : (p : Part) → IsPlain p → session_open p 1 ≡ None
none_open p plain = ap (λ u. find (is_session 1) u) plain.closed

planned_plain : (p : Part) (now : ℕ) (req : Request) (o : Option OpenTransaction) → o ≡ None → IsPlain p → IsPlain (planned_step Works p now req o).part
planned_plain p now req (Some o) is plain = cc
planned_plain p now req None is plain = at_once_plain (drew_tx p) p.next_tx (plan (ask p p.next_tx now) req) (record { who = plain.who; up = plain.up; end = plain.end; closed = plain.closed })

define_plain : (p : Part) (ddl : Ddl) (o : Option Refusal) → IsPlain p → IsPlain (define Works p ddl o).part
define_plain p ddl None plain = append_plain p (Defined ddl ∷ []) (answer.Replied reply.Done) p plain plain
define_plain p ddl (Some r) plain = plain

alter_plain : (p : Part) (queue : Bytes) (on : Bool) (o : Option Refusal) (def : Option QueueDef) → IsPlain p → IsPlain (alter_queue Works p queue on o def).part
alter_plain p queue on (Some r) def plain = plain
alter_plain p queue on None None plain = plain
alter_plain p queue on None (Some d) plain = append_plain p (if beq (is_on p.log d) on then [] else QueueSet queue on ∷ []) (answer.Replied reply.Done) p plain plain

if_plain : (b : Bool) (x y : Done) → IsPlain x.part → IsPlain y.part → IsPlain (if b then x else y).part
if_plain true x y p q = p
if_plain false x y p q = q

step_plain : (p : Part) (now : ℕ) (req : Request) → IsTrue (is_built req) → IsPlain p → IsPlain (session_step Works p 1 now req).part
step_plain p now (request.Send handle type body) built plain = if_plain p.up _ (refused p (refusal.Down p.who)) (planned_plain p now (request.Send handle type body) (session_open p 1) (none_open p plain) plain) plain
step_plain p now (request.Receive queue top filter_by) built plain = if_plain p.up _ (refused p (refusal.Down p.who)) (planned_plain p now (request.Receive queue top filter_by) (session_open p 1) (none_open p plain) plain) plain
step_plain p now (request.Define ddl) built plain =
    if_plain p.up _ (refused p (refusal.Down p.who)) (define_plain p ddl (or_else (in_transaction (session_open p 1)) (define_refusal p.log ddl)) plain) plain
step_plain p now (request.AlterQueue queue on) built plain =
    if_plain p.up _ (refused p (refusal.Down p.who)) (alter_plain p queue on (in_transaction (session_open p 1)) (find_queue p.log queue) plain) plain
step_plain p now _ built plain = cc

-- ---- a statement as a step

low_asked : (req : Request) → IsTrue (is_built req) → IsTrue (spells_low (2 ^ 61) (event.Asked req))
low_asked (request.Send handle type body) built = refl
low_asked (request.Receive queue top filter_by) built = refl
low_asked (request.Define ddl) built = refl
low_asked (request.AlterQueue queue on) built = refl
low_asked _ built = cc

done_step : (p : Part) (req : Request) (told : Answer) (new : Part) → IsTrue (is_built req) → IsPlain p
    → IsDone (session_step Works p 1 0 req) told new → IsStep p (asked req told) new
done_step p req told new built plain done = record {
  gives = ap (λ d. d.answer) (step_same (luck_of told) p 0 req built plain.end) ∙ done.answered;
  state = ap world_of (sym done.left) ∙ sym (ap (λ d. world_of d.part) (step_same (luck_of told) p 0 req built plain.end));
  plain = subst IsPlain done.left (step_plain p 0 req built plain);
  low = low_asked req built;
}

pub replied_step : (p : Part) (req : Request) (given : Reply) (new : Part) → IsTrue (is_built req) → IsPlain p
    → Answers p 1 0 req (Ok given) new → IsStep p (asked req (answer.Replied given)) new
replied_step p req given new built plain h = done_step p req (answer.Replied given) new built plain h

pub refused_step : (p : Part) (req : Request) (r : Refusal) (new : Part) → (r ≡ refusal.OutOfMemory → ⊥) → IsTrue (is_built req) → IsPlain p
    → Answers p 1 0 req (Err r) new → IsStep p (asked req (answer.Refused r None)) new
refused_step p req r new other built plain (inl h) = absurd (other h.0)
refused_step p req r new other built plain (inr h) = done_step p req (answer.Refused r None) new built plain h

-- where the answer tells of want of memory, nothing happened
pub memory_still : (p : Part) (req : Request) (r : Refusal) (new : Part) → r ≡ refusal.OutOfMemory → IsTrue (is_built req) → IsPlain p
    → Answers p 1 0 req (Err r) new → new ≡ p
memory_still p req r new is built plain (inl h) = h.1
memory_still p req r new is built plain (inr h) =
    absurd (never_memory p req built plain (h.answered ∙ ap (λ x. answer.Refused x None) is))
