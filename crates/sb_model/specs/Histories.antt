-- Histories of steps: which are legal, that groups are held alone, and that transactions are whole.
use Rattle.std.specs.Prelude.{ℕ, Bool, true, false, not, ◌&&◌, ◌||◌, ◌==◌, ◌≡◌, ⊤, if◌then◌else◌, List, [], ◌∷◌, ◌++◌, Option, Some, None, Ok, Err, flat_map, fold, IsTrue, MatchBool}
use Rattle.std.specs.List.{list_any, AllByRecursion}
use Rattle.sb_log.specs.declared.identifiers.Who.{Who}
use Rattle.sb_log.specs.declared.identifiers.Who.TheVariants.{A, B}
use Rattle.sb_log.specs.declared.entries.Entry.{Entry}
use Rattle.sb_log.specs.declared.entries.Op.{Op}
use Rattle.sb_log.specs.declared.requests.Request.{Request}
use Rattle.sb_log.specs.declared.steps.Answer.{Answer}
use Rattle.sb_model.specs.Sides.{same_who, same_id}
use Rattle.sb_log.specs.declared.steps.Step.{Step}
use Rattle.sb_model.specs.Instance.{Part, opened}
use Rattle.sb_model.specs.Steps.{World, Stepped, part, step}
use Rattle.sb_log.specs.declared.identifiers.Handle.{Handle}
use Rattle.sb_log.specs.declared.identifiers.Actor.{Actor}
use Rattle.sb_log.specs.declared.entries.Entry.TheVariants.{Txn}
use Rattle.sb_log.specs.declared.steps.Event.{Event}
use Rattle.sb_model.specs.Transactions.{OpenTransaction}
use Rattle.sb_model.specs.Replies.{Planned, plan}
use Rattle.sb_model.specs.Statements.{ask, session_open, reader_open}
use Rattle.sb_log.specs.declared.refusals.Refusal.TheVariants as refusal
use Rattle.sb_log.specs.declared.requests.Request.TheVariants as request
use Rattle.sb_log.specs.declared.requests.Reply.TheVariants as reply
use Rattle.sb_log.specs.declared.steps.Answer.TheVariants as answer
use Rattle.sb_log.specs.declared.identifiers.Actor.TheVariants as actor
use Rattle.sb_log.specs.declared.steps.Event.TheVariants as event

-- what the model makes of a step
abbrev pub outcome : World → Step → Option Stepped
outcome w s = step w s.who s.event s.answer

abbrev pub world_of : World → Option Stepped → World
world_of w None = w
world_of w (Some r) = r.world

abbrev pub next : World → Step → World
next w s = world_of w (outcome w s)

-- the model gives the step's answer
abbrev pub Gives : Option Stepped → Step → Type 0
Gives None s = ⊥
Gives (Some r) s = r.answer ≡ s.answer

-- each step's answer is that of `step` in the state that the steps before it leave
abbrev pub Legal : World → List Step → Type 0
Legal w [] = ⊤
Legal w (s ∷ steps) = Gives (outcome w s) s × Legal (next w s) steps

-- the state after a history
abbrev pub after : World → List Step → World
after w [] = w
after w (s ∷ steps) = after (next w s) steps

-- the first state
abbrev pub first_world : List Entry → Option ℕ → List Entry → Option ℕ → World
first_world log_a end_a log_b end_b = record { a = opened A log_a end_a; b = opened B log_b end_b; wire = []; moment = 0 }

-- the log that is certain, and the same followed by the doubt
abbrev pub kept : World → Who → List Entry
kept w x = (part w x).log

abbrev pub at_most : World → Who → List Entry
at_most w x = (part w x).log ++ (part w x).doubt

-- an act of a transaction: the groups that it touches, the operations that it adds, whether it asks to commit, and whether the transaction ends
pub record Act : Type 0 where
  pub on : Who
  pub tx : ℕ
  pub groups : List Handle
  pub ops : List Op
  pub commits : Bool
  pub ends : Bool

abbrev pub is_refused : Answer → Bool
is_refused (answer.Refused r back) = true
is_refused _ = false

abbrev pub is_disk_failed : Answer → Bool
is_disk_failed (answer.Refused (refusal.DiskFailed x) back) = true
is_disk_failed _ = false

abbrev pub is_waiting : Answer → Bool
is_waiting (answer.Replied (reply.Waiting tx)) = true
is_waiting _ = false

-- an act that only ends its transaction, or only asks to commit it
abbrev pub mark : Who → ℕ → Bool → Bool → List Act
mark x tx commits ends = record { on = x; tx = tx; groups = []; ops = []; commits = commits; ends = ends } ∷ []

-- what a plan touches and adds, by itself or as a commit of its own
abbrev pub act_of : Who → ℕ → Bool → Planned → List Act
act_of x tx alone (Err r) = []
act_of x tx alone (Ok p) = record { on = x; tx = tx; groups = p.groups; ops = p.ops; commits = alone; ends = alone } ∷ []

abbrev pub asks_commit : Request → Bool
asks_commit request.Commit = true
asks_commit _ = false

-- dialog and row requests have a plan; definitions and transaction statements have none
abbrev pub has_plan : Request → Bool
has_plan (request.Define def) = false
has_plan (request.AlterQueue queue on) = false
has_plan request.Begin = false
has_plan request.Commit = false
has_plan request.Rollback = false
has_plan _ = true

-- what a request does in an open transaction, where it isn't refused
abbrev pub open_acts : World → Part → Request → OpenTransaction → List Act
open_acts w p request.Commit o = mark p.who o.tx true true
open_acts w p request.Rollback o = mark p.who o.tx false true
open_acts w p req o = if has_plan req then act_of p.who o.tx false (plan (ask p o.tx w.moment) req) else []

-- a commit whose disk failed counts as one: an opening may find its entry. That the transaction ends stands in `all_end`
abbrev pub failed_acts : Part → Request → OpenTransaction → List Act
failed_acts p req o = if asks_commit req then mark p.who o.tx true false else []

abbrev pub session_acts : World → Part → Request → Answer → Option OpenTransaction → List Act
session_acts w p req given (Some o) =
    if is_disk_failed given then failed_acts p req o else (if is_refused given then [] else open_acts w p req o)
session_acts w p req given None =
    if has_plan req && (is_disk_failed given || not (is_refused given)) then act_of p.who p.next_tx true (plan (ask p p.next_tx w.moment) req) else []

-- a reader's refused statement ends its transaction
abbrev pub reader_acts : World → Part → Request → Answer → Option OpenTransaction → List Act
reader_acts w p req given None = []
reader_acts w p req given (Some o) =
    if is_disk_failed given then failed_acts p req o
    else (if is_refused given then mark p.who o.tx false true
    else (if is_waiting given then [] else open_acts w p req o))

abbrev pub start_acts : Part → Answer → Handle → List Act
start_acts p (answer.Started tx) g = record { on = p.who; tx = tx; groups = g ∷ []; ops = []; commits = false; ends = false } ∷ []
start_acts p _ g = []

-- each open transaction of an instance ends where it goes down
abbrev pub all_end : Part → List Act
all_end p = flat_map (λ o. mark p.who o.tx false true) p.open_txns

abbrev pub acts : World → Actor → Event → Answer → List Act
acts w (actor.Session s) (event.Asked req) given =
    session_acts w (part w s.instance) req given (session_open (part w s.instance) s.number)
acts w (actor.Reader x n) (event.Asked req) given = reader_acts w (part w x) req given (reader_open (part w x) n)
acts w (actor.Reader x n) (event.Words words) given = reader_acts w (part w x) request.Rollback given (reader_open (part w x) n)
acts w (actor.Reader x n) (event.Start q g) given = start_acts (part w x) given g
acts w actor.World (event.Crash x pick) given = all_end (part w x)
acts w _ _ _ = []

abbrev pub disk_failed_at : Answer → Option Who
disk_failed_at (answer.Refused (refusal.DiskFailed x) back) = Some x
disk_failed_at _ = None

abbrev pub failure_ends : World → Option Who → List Act
failure_ends w None = []
failure_ends w (Some x) = all_end (part w x)

-- the acts of a step; where a disk failed, each open transaction of the instance ends
abbrev pub step_acts : World → Step → List Act
step_acts w s = acts w s.who s.event s.answer ++ failure_ends w (disk_failed_at s.answer)

-- the acts of a history, in order
abbrev pub history_acts : World → List Step → List Act
history_acts w [] = []
history_acts w (s ∷ steps) = step_acts w s ++ history_acts (next w s) steps

abbrev pub is_of_txn : Who → ℕ → Act → Bool
is_of_txn x tx act = same_who act.on x && (act.tx == tx)

abbrev pub shares : List Handle → Act → Bool
shares groups act = list_any (λ g. list_any (same_id g) groups) act.groups

-- until the transaction ends, no other one touches these groups
abbrev pub HoldsAlone : Who → ℕ → List Handle → List Act → Type 0
HoldsAlone x tx groups [] = ⊤
HoldsAlone x tx groups (act ∷ later) =
    MatchBool (is_of_txn x tx act && act.ends) ⊤
    (IsTrue (is_of_txn x tx act || not (same_who act.on x) || not (shares groups act)) × HoldsAlone x tx groups later)

abbrev pub AllHoldAlone : List Act → Type 0
AllHoldAlone [] = ⊤
AllHoldAlone (act ∷ later) = MatchBool act.ends ⊤ (HoldsAlone act.on act.tx act.groups later) × AllHoldAlone later

-- from a transaction's first touch of a group to its end no other transaction of the instance touches it (conversation group locks)
abbrev pub HoldsGroupsAlone : World → List Step → Type 0
HoldsGroupsAlone w steps = AllHoldAlone (history_acts w steps)

-- what is known of the latest transaction that has the number: its operations so far, whether it asked to commit, and whether it is over.
-- A number comes again where an earlier transaction was lost in a crash
pub record Given : Type 0 where
  pub ops : List Op
  pub committed : Bool
  pub over : Bool

abbrev pub nothing_given : Given
nothing_given = record { ops = []; committed = false; over = false }

abbrev pub with_act : Given → Act → Given
with_act given act = record { ops = given.ops ++ act.ops; committed = given.committed || act.commits; over = act.ends }

abbrev pub given_after : Who → ℕ → Given → Act → Given
given_after x tx given act =
    if is_of_txn x tx act then with_act (if given.over then nothing_given else given) act else given

abbrev pub given_by : Who → ℕ → List Act → Given
given_by x tx acts = fold (given_after x tx) nothing_given acts

-- an entry that a step added is a transaction that asked to commit and is over, with all its operations in their order
pub record IsWholeTransaction (given : Given) (ops : List Op) : Type 0 where
  pub all : ops ≡ given.ops
  pub committed : IsTrue given.committed
  pub over : IsTrue given.over

abbrev pub IsWholeEntry : Who → List Act → Entry → Type 0
IsWholeEntry x before (Txn tx ops) = IsWholeTransaction (given_by x tx before) ops
IsWholeEntry x before _ = ⊤

abbrev pub AddedWhole : List Act → Option Stepped → Type 0
AddedWhole before None = ⊤
AddedWhole before (Some r) = AllByRecursion (IsWholeEntry r.on before) r.added

-- `before` are the acts so far
abbrev pub CommitsWholeAfter : World → List Act → List Step → Type 0
CommitsWholeAfter w before [] = ⊤
CommitsWholeAfter w before (s ∷ steps) =
    AddedWhole (before ++ step_acts w s) (outcome w s) × CommitsWholeAfter (next w s) (before ++ step_acts w s) steps

-- each transaction in a log asked to commit, and its one entry has all its operations in their order
abbrev pub CommitsWhole : World → List Step → Type 0
CommitsWhole w steps = CommitsWholeAfter w [] steps
