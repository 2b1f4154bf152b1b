-- Both instances, the wire, and one step of the world.
use Rattle.sb_model.specs.Sorting.{in_order}
use Rattle.std.specs.Prelude.{IsTrue, ℕ, zero, suc, Bool, true, false, not, ◌&&◌, ◌+◌, ◌^◌, ◌%◌, nat_le, nat_lt, if◌then◌else◌, List, [], ◌∷◌, ◌++◌, Option, Some, None, Result, Ok, Err, map, filter, filter_map, length, take, drop, option_map, option_and_then, slice_get}
use Rattle.sb_log.specs.declared.messages.Content.{Content}
use Rattle.sb_model.specs.Sides.{Making, Bytes, same_side, same_who, id, made, side_of}
use Rattle.sb_model.specs.Statements.{runnable, session_step, reader_step, start_step, draws, refused_reader}
use Rattle.sb_model.specs.Frames.{sent_header, destination, Owed, Sent, frames_due}
use Rattle.sb_model.specs.Messages.{numbered}
use Rattle.std.specs.Option.{option_eq}
use Rattle.sb_log.specs.declared.identifiers.Handle.{Handle}
use Rattle.sb_log.specs.declared.identifiers.SideId.{SideId}
use Rattle.sb_log.specs.declared.identifiers.Who.{Who}
use Rattle.sb_log.specs.declared.identifiers.Who.TheVariants.{A, B}
use Rattle.sb_log.specs.declared.entries.Entry.{Entry}
use Rattle.sb_log.specs.declared.refusals.Refusal.{Refusal}
use Rattle.sb_log.specs.declared.requests.Request.{Request}
use Rattle.sb_log.specs.declared.steps.Answer.{Answer}
use Rattle.sb_log.specs.declared.identifiers.Session.{Session}
use Rattle.sb_log.specs.declared.identifiers.Actor.{Actor}
use Rattle.sb_log.specs.declared.entries.Entry.TheVariants.{Acked, Fired, Expired}
use Rattle.sb_log.specs.declared.messages.Frame.{Frame}
use Rattle.sb_log.specs.declared.messages.Data.{Data}
use Rattle.sb_log.specs.declared.messages.Ack.{Ack}
use Rattle.sb_log.specs.declared.steps.Event.{Event}
use Rattle.sb_log.specs.declared.steps.Verdict.{Verdict}
use Rattle.sb_log.specs.declared.steps.Verdict.TheVariants.{New, Next, Repeat, Gone, AckNew}
use Rattle.sb_log.specs.declared.steps.DueKind.{DueKind}
use Rattle.sb_model.specs.Deadlines.{Due, due}
use Rattle.sb_model.specs.Transactions.{Owner}
use Rattle.sb_model.specs.Acceptance.{instance_id, verdict, ack_verdict, accepted_entry, receiver}
use Rattle.sb_model.specs.FrameReading.{decode_frame}
use Rattle.sb_model.specs.Instance.{Luck, Works, Fails, Part, Done, append, opened, end_of, down_with, refused}
use Rattle.sb_model.specs.Dump.{dump}
use Rattle.sb_model.specs.Settled.{is_part_settled}
use Rattle.sb_model.specs.Wire.{wire_size, wired, spelled_on, put, Wired, sent_size, no_longer_waits, lines_from}
use Rattle.sb_log.specs.declared.refusals.Refusal.TheVariants as refusal
use Rattle.sb_log.specs.declared.steps.Answer.TheVariants as answer
use Rattle.sb_log.specs.declared.identifiers.Actor.TheVariants as actor
use Rattle.sb_log.specs.declared.messages.Frame.TheVariants as frame
use Rattle.sb_log.specs.declared.steps.Event.TheVariants as event
use Rattle.sb_log.specs.declared.steps.Barred.TheVariants as barred
use Rattle.sb_log.specs.declared.steps.Arrived.TheVariants as arrived
use Rattle.sb_log.specs.declared.steps.DueKind.TheVariants as due_kind
use Rattle.sb_model.specs.Transactions as open_as

pub record World : Type 0 where
  pub a : Part
  pub b : Part
  pub wire : List Wired
  pub moment : ℕ

abbrev pub part : World → Who → Part
part w A = w.a
part w B = w.b

abbrev pub with_part : World → Who → Part → World
with_part w A p = record w { a = p }
with_part w B p = record w { b = p }

-- what a step made of the world: its answer, the entries it added to an instance's log, and the world after it
pub record Stepped : Type 0 where
  pub answer : Answer
  pub on : Who
  pub added : List Entry
  pub world : World

abbrev pub on_part : World → Who → Done → Stepped
on_part w x d = record { answer = d.answer; on = x; added = d.added; world = with_part w x d.part }

abbrev pub told : World → Answer → Stepped
told w answer = record { answer = answer; on = A; added = []; world = w }

abbrev pub owes : Verdict → Bool
owes New = true
owes Next = true
owes Repeat = true
owes Gone = true
owes _ = false

abbrev pub set_owed : List Owed → SideId → Handle → List Owed
set_owed owed s to = record { side = s; to = to } ∷ filter (λ o. not (same_side o.side s)) owed

abbrev pub owing : Part → Data → Verdict → Part
owing p d v = if owes v then record p { owed = set_owed p.owed (receiver d) d.header.from } else p

abbrev pub verdict_told : Verdict → Answer
verdict_told v = answer.Arrived (arrived.Verdict v)

abbrev pub new_handle : Part → ℕ → Handle
new_handle p n = id ((instance_id p.who).0 + (p.next_handle + n) % 2 ^ 64)

abbrev pub data_entry : Part → Data → Entry
data_entry p d = accepted_entry p.log (new_handle p 0) (new_handle p 1) d

-- a message by its verdict: New and Next add their entry, and a side that is made draws two handles
abbrev pub accept_data : Luck → Part → Part → Data → Verdict → Done
accept_data luck p after d New = append luck p (data_entry p d ∷ []) (verdict_told New) (draws after 2)
accept_data luck p after d Next = append luck p (data_entry p d ∷ []) (verdict_told Next) after
accept_data luck p after d v = record { answer = verdict_told v; added = []; part = after }

abbrev pub deliver_data : Luck → Part → Data → Verdict → Done
deliver_data luck p d v = accept_data luck p (owing p d v) d v

abbrev pub deliver_ack : Luck → Part → Ack → Verdict → Done
deliver_ack luck p k AckNew = append luck p (Acked k.side k.upto k.closed ∷ []) (verdict_told AckNew) p
deliver_ack luck p k v = record { answer = verdict_told v; added = []; part = p }

abbrev pub deliver_frame : Luck → Part → Frame → Done
deliver_frame luck p (frame.Data d) = deliver_data luck p d (verdict p.who p.log d)
deliver_frame luck p (frame.Ack k) = deliver_ack luck p k (ack_verdict p.who p.log k)

abbrev pub arrive : Luck → Part → Frame → Done
arrive luck p f = if p.up then deliver_frame luck p f else refused p (refusal.Down p.who)

abbrev pub deliver_wired : Luck → World → ℕ → Option Wired → Stepped
deliver_wired luck w k None = told w (answer.Barred (barred.NoFrame k))
deliver_wired luck w k (Some f) =
    on_part (record w { wire = no_longer_waits k w.wire }) f.to (arrive luck (part w f.to) f.frame)

abbrev pub lose_wired : World → ℕ → Option Wired → Stepped
lose_wired w k None = told w (answer.Barred (barred.NoFrame k))
lose_wired w k (Some f) = told (record w { wire = no_longer_waits k w.wire }) answer.Done

abbrev pub inject_other : World → Who → Result Frame ℕ → Stepped
inject_other w x (Err at) =
    if (part w x).up then told w (answer.Arrived (arrived.BadFrame at)) else on_part w x (refused (part w x) (refusal.Down x))
inject_other w x (Ok f) = told w (answer.Barred barred.Forged)

-- bytes that spell no frame, or one that is on the wire, which arrives again
abbrev pub inject : Luck → World → Who → Bytes → Option Wired → Stepped
inject luck w x bytes None = inject_other w x (decode_frame bytes)
inject luck w x bytes (Some g) = on_part w x (arrive luck (part w x) g.frame)

abbrev pub pumped : World → Who → List Sent → Stepped
pumped w x sent =
    if nat_lt 268435456 (wire_size w.wire + sent_size sent)
    then told w (answer.Barred (barred.WireFull (wire_size w.wire + sent_size sent)))
    else record {
      answer = answer.Pumped (lines_from (length w.wire + 1) sent);
      on = x;
      added = [];
      world = record (with_part w x (record (part w x) { owed = [] })) { wire = w.wire ++ map (put x) sent };
    }

abbrev pub pump : World → Who → Stepped
pump w x =
    if (part w x).up then pumped w x (frames_due x (part w x).log (part w x).owed) else on_part w x (refused (part w x) (refusal.Down x))

abbrev pub fired_entry : SideId → DueKind → Entry
fired_entry s due_kind.Timer = Fired s
fired_entry s due_kind.Lifetime = Expired s

abbrev pub same_kind : DueKind → DueKind → Bool
same_kind due_kind.Timer due_kind.Timer = true
same_kind due_kind.Lifetime due_kind.Lifetime = true
same_kind _ _ = false

abbrev pub first_due : List Due → Option Due
first_due [] = None
first_due (d ∷ ds) = Some d

-- what fires is the first that is due
abbrev pub fire : Luck → Part → ℕ → Handle → DueKind → Option Done
fire luck p moment handle kind =
    option_and_then (λ d. if same_kind d.kind kind && option_eq same_side (side_of p.log handle) (Some d.side)
    then Some (append luck p (fired_entry d.side d.kind ∷ []) answer.Fired p) else None) (if p.up then first_due (due p.log moment) else None)

-- an opening gives a log between K and K followed by the doubt, told by its length
abbrev pub open_with : World → Who → ℕ → Option Stepped
open_with w x n =
    if nat_le (length (part w x).log) n && nat_le n (length ((part w x).log ++ (part w x).doubt))
    then Some (record {
      answer = answer.Entries n;
      on = x;
      added = drop (length (part w x).log) (take n ((part w x).log ++ (part w x).doubt));
      world = with_part w x (opened x (take n ((part w x).log ++ (part w x).doubt)) (Some (end_of (take n ((part w x).log ++ (part w x).doubt)))));
    })
    else None

-- where the disk failed, or the journal was refused, the instance stays down
abbrev pub open_step : World → Who → Answer → Option Stepped
open_step w x (answer.Entries n) = if (part w x).up then None else open_with w x n
open_step w x answer.OpenFailed = if (part w x).up then None else Some (told w answer.OpenFailed)
open_step w x (answer.OpenRefused at) = if (part w x).up then None else Some (told w (answer.OpenRefused at))
open_step w x given = if (part w x).up then Some (told w (answer.Barred (barred.Up x))) else None

-- a step whose write failed says so
abbrev pub failed : Refusal → Luck
failed (refusal.DiskFailed x) = Fails
failed _ = Works

abbrev pub luck_of : Answer → Luck
luck_of (answer.Refused r after) = failed r
luck_of _ = Works

abbrev pub owner_session : Owner → Option ℕ
owner_session (open_as.Session n) = Some n
owner_session (open_as.Reader n q) = None

abbrev pub session : Who → ℕ → Session
session x n = record { instance = x; number = n }

-- the sessions with an open transaction, by number
abbrev pub sessions_open : Who → Part → List Session
sessions_open x p = map (session x) (in_order nat_lt (filter_map (λ o. owner_session o.owner) p.open_txns))

-- no reader is open and none has work
abbrev pub is_settled : World → Bool
is_settled w = is_part_settled w.a && is_part_settled w.b

-- a serve ends where the state is settled
abbrev pub serve : World → List Session → Option Stepped
serve w [] = if is_settled w then Some (told w answer.Settled) else None
serve w (s ∷ ss) = Some (told w (answer.Barred (barred.OpenSessions s)))

-- a refusal that comes before a statement is asked: its expressions meet it, or it isn't built yet
abbrev pub is_of_words : Refusal → Bool
is_of_words (refusal.NoVariable name) = true
is_of_words (refusal.WrongKind kind) = true
is_of_words (refusal.Overflow left) = true
is_of_words refusal.NotYet = true
is_of_words _ = false

abbrev pub is_not_yet : Refusal → Bool
is_not_yet refusal.NotYet = true
is_not_yet _ = false

-- a reader's refused statement rolls back; where the disk fails in that, DiskFailed stands in the refusal's place
abbrev pub is_of_reader_words : Refusal → Bool
is_of_reader_words (refusal.DiskFailed x) = true
is_of_reader_words r = is_of_words r

-- a statement whose expressions were refused; a reader is rolled back by it
abbrev pub session_words : World → Who → Refusal → Option Stepped
session_words w x r = if is_of_words r then Some (on_part w x (refused (part w x) r)) else None

-- DiskFailed is told only where the write of the rollback failed, so the instance is down
abbrev pub words_told : Refusal → Done → Option Done
words_told (refusal.DiskFailed x) d = if d.part.up then None else Some d
words_told r d = Some d

abbrev pub reader_words : Luck → World → Who → ℕ → Refusal → Option Stepped
reader_words luck w x n r =
    if is_of_reader_words r
    then option_map (on_part w x) (option_and_then (λ o. words_told r (refused_reader luck (part w x) o r)) (runnable (part w x) n))
    else None

-- a command of the world that isn't built yet has no effect
abbrev pub world_words : World → Refusal → Option Stepped
world_words w r = if is_not_yet r then Some (told w (answer.Refused r None)) else None

-- ---- the first form of the link, without frames

-- a side's message with this number, as its frame would carry it
abbrev pub handed : Part → Making → ℕ → Content → Data
handed p m n c = record { side = m.side; number = n; header = sent_header p.who m; content = c }

-- the message of a side that is there, where its partner is on the same instance by the route
abbrev pub to_hand_over : Part → SideId → ℕ → Option Data
to_hand_over p s zero = None
to_hand_over p s (suc k) =
    option_and_then (λ m. if same_who (destination p.who p.log m) p.who then option_map (handed p m (suc k)) (slice_get (numbered p.log s) k) else None)
    (made p.log s)

-- the message is answered by the table of acceptance, and nothing is owed for it
abbrev pub hand_over : Luck → World → SideId → ℕ → Option Stepped
hand_over luck w s n =
    if w.a.up then option_map (λ d. on_part w A (accept_data luck w.a w.a d (verdict A w.a.log d))) (to_hand_over w.a s n) else None

-- the step of an event, or none where the event can't come; the given answer tells what only the outside decides
abbrev pub step : World → Actor → Event → Answer → Option Stepped
step w (actor.Session s) (event.Asked req) given =
    Some (on_part w s.instance (session_step (luck_of given) (part w s.instance) s.number w.moment req))
step w (actor.Reader x n) (event.Asked req) given =
    option_map (on_part w x) (reader_step (luck_of given) (part w x) n w.moment req)
step w (actor.Session s) (event.Words words) (answer.Refused r back) = session_words w s.instance r
step w (actor.Reader x n) (event.Words words) (answer.Refused r back) = reader_words (failed r) w x n r
step w (actor.Reader x n) (event.Start q g) given = option_map (on_part w x) (start_step (part w x) q g)
step w actor.World (event.Words words) (answer.Refused r back) = world_words w r
step w actor.World (event.Pump x) given = Some (pump w x)
step w actor.World (event.Deliver k to) given =
    if option_eq same_who to (option_map (λ f. f.to) (wired w.wire k)) then Some (deliver_wired (luck_of given) w k (wired w.wire k)) else None
step w actor.World (event.HandOver s n) given = hand_over (luck_of given) w s n
step w actor.World (event.Lose k) given = Some (lose_wired w k (wired w.wire k))
step w actor.World (event.Tick n) given = Some (told (record w { moment = w.moment + n }) (answer.Moment (w.moment + n)))
step w actor.World (event.Clock m) given =
    if nat_lt m w.moment then Some (told w (answer.Barred (barred.ClockBack w.moment))) else Some (told (record w { moment = m }) (answer.Moment m))
step w actor.World (event.Timer x handle) given = option_map (on_part w x) (fire (luck_of given) (part w x) w.moment handle due_kind.Timer)
step w actor.World (event.Lifetime x handle) given = option_map (on_part w x) (fire (luck_of given) (part w x) w.moment handle due_kind.Lifetime)
step w actor.World (event.Fuse x calls) given = Some (told w answer.Done)
step w actor.World (event.Crash x pick) given = Some (told (with_part w x (down_with (part w x) (part w x).doubt)) answer.Done)
step w actor.World (event.Open x) given = open_step w x given
step w actor.World event.Serve given = serve w (sessions_open A w.a ++ sessions_open B w.b)
step w actor.World (event.Inject x bytes) given = Some (inject (luck_of given) w x bytes (spelled_on w.wire bytes))
step w actor.World (event.Dump x) given =
    Some (if (part w x).up then told w (answer.Dumped (dump (part w x).log)) else on_part w x (refused (part w x) (refusal.Down x)))
step w _ _ given = None

-- the reply to a request where no disk fails: the first refusal in the order of the numbers' table, else the request's row
abbrev pub reply : World → Actor → Request → Option Answer
reply w who req = option_map (λ r. r.answer) (step w who (event.Asked req) answer.Done)

abbrev pub IsSettled : World → Type 0
IsSettled w = IsTrue (is_settled w)
