-- The requests that an instance answers, and how it answers them.
use Rattle.std.specs.Prelude.{◌≡◌, ◌⊎◌, ⊤, ℕ, Bool, true, false, List, [], ◌∷◌, Option, None, Result, Ok, Err}
use Rattle.sb_log.specs.declared.identifiers.SideId.{SideId}
use Rattle.sb_log.specs.declared.identifiers.Who.TheVariants.{A}
use Rattle.sb_log.specs.declared.entries.Entry.{Entry}
use Rattle.sb_log.specs.declared.entries.Op.{Op}
use Rattle.sb_log.specs.declared.entries.Op.TheVariants.{Send}
use Rattle.sb_log.specs.declared.refusals.Refusal.{Refusal}
use Rattle.sb_log.specs.declared.refusals.Refusal.TheVariants as refusal
use Rattle.sb_log.specs.declared.requests.Request.{Request}
use Rattle.sb_log.specs.declared.requests.Request.TheVariants as request
use Rattle.sb_log.specs.declared.requests.Reply.{Reply}
use Rattle.sb_log.specs.declared.requests.Reply.TheVariants as reply
use Rattle.sb_log.specs.declared.steps.Answer.TheVariants as answer
use Rattle.sb_model.specs.Sides.{Bytes}
use Rattle.sb_model.specs.Instance.{Part, Works}
use Rattle.sb_model.specs.Replies.{Ask, Planned}
use Rattle.sb_model.specs.Statements.{session_step}
use Rattle.sb_instance.specs.Running.{IsDone}
use Rattle.sb_instance.specs.declared.stopped.Stopped.{Stopped}
use Rattle.sb_instance.specs.declared.stopped.Stopped.TheVariants as stopped

-- SEND, RECEIVE, a definition or ALTER QUEUE
abbrev pub is_built : Request → Bool
is_built (request.Define ddl) = true
is_built (request.AlterQueue queue on) = true
is_built (request.Send handle kind body) = true
is_built (request.Receive queue top filter) = true
is_built _ = false

-- the defined reply and instance; want of memory leaves the instance as it was
abbrev pub Answers : Part → ℕ → ℕ → Request → Result Reply Refusal → Part → Type 0
Answers before session now req (Ok given) after = IsDone (session_step Works before session now req) (answer.Replied given) after
Answers before session now req (Err r) after =
    ((r ≡ refusal.OutOfMemory) × (after ≡ before)) ⊎ IsDone (session_step Works before session now req) (answer.Refused r None) after

-- what is asked of a log with no open transaction
abbrev pub ask_of : List Entry → Ask
ask_of log = record { who = A; log = log; open_txns = []; tx = 0; now = 0; next = 0 }

-- what a plan writes and tells
pub record Wanted : Type 0 where
  pub ops : List Op
  pub drawn : ℕ
  pub reply : Reply

abbrev pub wanted : Planned → Result Wanted Refusal
wanted (Ok plan) = Ok (record { ops = plan.ops; drawn = plan.drawn; reply = plan.reply })
wanted (Err r) = Err r

-- the checks of a SEND from the side that was found, or the refusal
abbrev pub IsSent : Planned → Bytes → Option Bytes → Result SideId Stopped → Type 0
IsSent planned kind body (Ok side) = wanted planned ≡ Ok (record { ops = Send side kind body ∷ []; drawn = 0; reply = reply.Done })
IsSent planned kind body (Err (stopped.Refused r)) = wanted planned ≡ Err r
IsSent planned kind body (Err stopped.OutOfMemory) = ⊤

-- a check goes on with the rest, or refuses
abbrev pub Passes : Planned → Planned → Result (Unit {0}) Stopped → Type 0
Passes planned rest (Ok done) = planned ≡ rest
Passes planned rest (Err (stopped.Refused r)) = planned ≡ Err r
Passes planned rest (Err stopped.OutOfMemory) = ⊤
