-- How a history goes on.
use Rattle.std.specs.Prelude.{◌≡◌, ◌⊎◌, ⊤, IsTrue, ℕ, ◌^◌, length, Bool, true, false, List, [], ◌∷◌, ◌++◌, None, Some, Result, Ok, Err}
use Rattle.sb_log.specs.declared.identifiers.Actor.{Actor}
use Rattle.sb_log.specs.declared.identifiers.Actor.TheVariants as actor
use Rattle.sb_log.specs.declared.requests.Reply.{Reply}
use Rattle.sb_log.specs.declared.requests.Request.{Request}
use Rattle.sb_log.specs.declared.steps.Answer.TheVariants as answer
use Rattle.sb_log.specs.declared.identifiers.SideId.{SideId}
use Rattle.sb_log.specs.declared.steps.Verdict.{Verdict}
use Rattle.sb_instance.specs.declared.handing.Pending.{Pending}
use Rattle.sb_laws.specs.Fresh.{spells_low}
use Rattle.sb_model.specs.Catalog.{definitions}
use Rattle.sb_model.specs.Messages.{numbered}
use Rattle.sb_model.specs.Frames.{destination}
use Rattle.sb_model.specs.Sides.{Making, made, same_who}
use Rattle.sb_top.specs.Following.{DoesFrom, asked, first, first_session, handed_over}
use Rattle.sb_top.specs.Room.{HasRoomThroughout}
use Rattle.sb_show.specs.Transcript.{transcript}
use Rattle.sb_show.specs.Values.{capped}
use Rattle.sb_top.specs.declared.ending.Why.{Why}
use Rattle.sb_top.specs.declared.ending.Why.TheVariants as why
use Rattle.sb_top.specs.declared.history.Stopped.{Stopped}
use Rattle.sb_top.specs.declared.history.Stopped.TheVariants as stopped
use Rattle.sb_log.specs.declared.identifiers.Who.TheVariants.{A, B}
use Rattle.sb_log.specs.declared.steps.Step.{Step}
use Rattle.sb_model.specs.Histories.{Gives, Legal, after, next, outcome}
use Rattle.sb_model.specs.Instance.{Part, opened}
use Rattle.sb_model.specs.Steps.{World, is_of_words, verdict_told}
use Rattle.sb_proc.specs.Machines.{Standing}
use Rattle.sb_proc.specs.Scopes.{Scope}
use Rattle.sb_log.specs.declared.refusals.Refusal.{Refusal}
use Rattle.sb_log.specs.declared.refusals.Refusal.TheVariants as refusal

-- the world where A is so, and nothing happened to B, the wire and the moment
abbrev pub world_of : Part → World
world_of p = record { a = p; b = opened B [] None; wire = []; moment = 0 }

-- A is up, and has no journal and no open transaction
pub record IsPlain (p : Part) : Type 0 where
  pub who : p.who ≡ A
  pub up : p.up ≡ true
  pub end : p.end ≡ None
  pub closed : p.open_txns ≡ []

-- each step spells no great handle, leaves B as it was, and leaves A plain
abbrev pub IsQuiet : World → List Step → Type 0
IsQuiet w [] = ⊤
IsQuiet w (s ∷ steps) = IsTrue (spells_low (2 ^ 61) s.event) × ((next w s).b ≡ w.b) × IsPlain (next w s).a × IsQuiet (next w s) steps

-- a step whose answer is right, and the instance that it leaves
pub record IsStep (p : Part) (step : Step) (new : Part) : Type 0 where
  pub gives : Gives (outcome (world_of p) step) step
  pub state : world_of new ≡ next (world_of p) step
  pub plain : IsPlain new
  pub low : IsTrue (spells_low (2 ^ 61) step.event)

-- a history went on by steps that are so, each with its right answer, and the instance A with it
pub record GoesOn (before : Part) (history : List Step) (now : Part) (longer : List Step) (are_so : List Step → Type 0) : Type 0 where
  pub more : List Step
  pub longer_is : longer ≡ history ++ more
  pub roomy : HasRoomThroughout history → HasRoomThroughout longer
  pub legal : Legal (world_of before) more
  pub state : world_of now ≡ after (world_of before) more
  pub plain : IsPlain now
  pub quiet : IsQuiet (world_of before) more
  pub so : are_so more

-- what stopped left out: a step was to come where the history was full
abbrev pub WasToCome : Stopped → List Step → Type 0
WasToCome stopped.HistoryFull more = more ≡ [] → ⊥
WasToCome stopped.OutOfMemory more = ⊤

-- a beginning of such steps
abbrev pub Begins : Stopped → (List Step → Type 0) → List Step → Type 0
Begins why P steps = (more : List Step) × WasToCome why more × P (steps ++ more)

-- all steps were made, or a beginning of them
abbrev pub Made : {T : Type 0} → Result T Stopped → (List Step → Type 0) → List Step → Type 0
Made (Ok x) P steps = P steps
Made (Err why) P steps = Begins why P steps

-- whatever does the rest completes the whole
abbrev pub GoesBefore : (List Step → Type 0) → (List Step → Type 0) → List Step → Type 0
GoesBefore rest whole steps = (more : List Step) → rest more → whole (steps ++ more)

-- the one step of a hand-over, or none
abbrev pub HandedOne : SideId → ℕ → Result Verdict Stopped → List Step → Type 0
HandedOne s number (Ok v) steps = steps ≡ handed_over s number (verdict_told v) ∷ []
HandedOne s number (Err why) steps = steps ≡ []

-- the one step of a request, by whether it was refused, or none
abbrev pub AskMade : Request → Result Bool Stopped → List Step → Type 0
AskMade r (Ok true) steps = (why : Refusal) × (steps ≡ asked r (answer.Refused why None) ∷ [])
AskMade r (Ok false) steps = (given : Reply) × (steps ≡ asked r (answer.Replied given) ∷ [])
AskMade r (Err why) steps = steps ≡ []

-- all steps were made, by what came of them, or a beginning
abbrev pub MadeWith : {T : Type 0} → Result T Stopped → (T → List Step → Type 0) → List Step → Type 0
MadeWith (Ok x) P steps = P x steps
MadeWith (Err why) P steps = Begins why (λ all. (x : _) × P x all) steps

-- this, where all was done
abbrev pub where_done : {T : Type 0} → Result (Unit {0}) Stopped → T → Result T Stopped
where_done (Ok x) t = Ok t
where_done (Err why) t = Err why

-- what is done by the one machine, behind these steps, is done by the other
abbrev pub LeadsThrough : Standing → List Step → Standing → Type 0
LeadsThrough m steps n = (more : List Step) (t : Scope) → DoesFrom n more t → DoesFrom m (steps ++ more) t

-- a batch went on, or ended, or stopped
abbrev pub TurnMade : Standing → Standing → Result Bool Stopped → List Step → Type 0
TurnMade m n (Ok true) steps = LeadsThrough m steps n
TurnMade m n (Ok false) steps = DoesFrom m steps n.scope
TurnMade m n (Err why) steps = Begins why (λ all. (t : Scope) × DoesFrom m all t) steps

-- one step, or none
abbrev pub OneMade : {T : Type 0} → Step → Result T Stopped → List Step → Type 0
OneMade step (Ok done) steps = steps ≡ step ∷ []
OneMade step (Err why) steps = steps ≡ []

-- session 1 of A by a refusal that comes before it asks, or the world by NotYet
abbrev pub MayRefuse : Actor → Refusal → Type 0
MayRefuse who r = ((who ≡ first_session) × IsTrue (is_of_words r)) ⊎ ((who ≡ actor.World) × (r ≡ refusal.NotYet))

-- what sides have to hand over stays
pub record Keeps (p q : Part) : Type 0 where
  pub who : q.who ≡ p.who
  pub contents : (s : SideId) → numbered q.log s ≡ numbered p.log s
  pub defined : definitions q.log ≡ definitions p.log
  pub made_is : (s : SideId) (m : Making) → made p.log s ≡ Some m → made q.log s ≡ Some m

-- the side was made, its partner is here, and it numbered so many messages
pub record IsPending (p : Part) (x : Pending) : Type 0 where
  pub making : Making
  pub from : made p.log x.side ≡ Some making
  pub here : same_who (destination p.who p.log making) p.who ≡ true
  pub numbered_is : x.numbered ≡ length (numbered p.log x.side)

-- a history from the first state that is legal and quiet, and never had too many steps
pub record IsSound (history : List Step) : Type 0 where
  pub legal : Legal first history
  pub quiet : IsQuiet first history
  pub roomy : HasRoomThroughout history

-- why a run that stopped so ends, with its bytes and steps where the history was full
abbrev pub IsStopping : Stopped → List Step → Why → Type 0
IsStopping stopped.OutOfMemory history w = w ≡ why.OutOfMemory
IsStopping stopped.HistoryFull history w = w ≡ why.HistoryFull (capped (length (transcript history))) (length history)
