-- Which histories follow a script.
use Rattle.std.specs.Prelude.{◌≡◌, ℕ, zero, suc, ◌+◌, ◌-◌, ◌==◌, pos, Bool, true, false, ◌&&◌, ◌||◌, if◌then◌else◌, List, [], ◌∷◌, ◌++◌, flat_map, Option, None, Some, codes, IsTrue, MatchBool}
use Rattle.sb_log.specs.declared.identifiers.Actor.{Actor}
use Rattle.sb_log.specs.declared.identifiers.Actor.TheVariants as actor
use Rattle.sb_log.specs.declared.identifiers.Session.{Session}
use Rattle.sb_log.specs.declared.identifiers.SideId.{SideId}
use Rattle.sb_log.specs.declared.identifiers.Who.TheVariants.{A}
use Rattle.sb_log.specs.declared.refusals.Refusal.TheVariants as refusal
use Rattle.sb_log.specs.declared.requests.Request.{Request}
use Rattle.sb_log.specs.declared.refusals.Refusal.{Refusal}
use Rattle.sb_log.specs.declared.steps.Answer.{Answer}
use Rattle.sb_log.specs.declared.steps.Answer.TheVariants as answer
use Rattle.sb_log.specs.declared.steps.Arrived.TheVariants as arrived
use Rattle.sb_log.specs.declared.steps.Event.TheVariants as event
use Rattle.sb_log.specs.declared.steps.Step.{Step}
use Rattle.sb_log.specs.declared.steps.Verdict.{Verdict}
use Rattle.sb_log.specs.declared.steps.Verdict.TheVariants as verdict
use Rattle.sb_grammar.specs.declared.tree.Statement.{Statement}
use Rattle.sb_instance.specs.Handing.{pending_by}
use Rattle.sb_instance.specs.declared.handing.Pending.{Pending}
use Rattle.sb_laws.specs.Ready.{ready_log}
use Rattle.sb_model.specs.Histories.{after, first_world, next}
use Rattle.sb_model.specs.Instance.{Part}
use Rattle.sb_model.specs.Sides.{sides, same_name, same_who}
use Rattle.sb_model.specs.Steps.{World}
use Rattle.sb_instance.specs.Asked.{is_built}
use Rattle.sb_proc.specs.Does.{Deed, Does as DoesDeeds, Replied, Denied, Failed}
use Rattle.sb_proc.specs.Machines.{Standing, standing, refusal_of}
use Rattle.sb_proc.specs.Requests.{place_with}
use Rattle.sb_proc.specs.Scopes.{Scope}
use Rattle.sb_show.specs.Events.{request_words}
use Rattle.sb_script.specs.declared.commands.Command.{Command}
use Rattle.sb_script.specs.declared.commands.Command.TheVariants as command

-- the instance A with its ready-made dialog, and B with nothing, both without a journal
abbrev pub first : World
first = first_world ready_log None [] None

-- ---- the steps of a batch

-- session 1 of A
abbrev pub first_session : Actor
first_session = actor.Session (record { instance = A; number = 1 })

abbrev pub asked : Request → Answer → Step
asked req given = record { who = first_session; event = event.Asked req; answer = given }

-- a statement or a command that is refused by its words
abbrev pub refused_words : Actor → List ℕ → Refusal → Step
refused_words who words r = record { who = who; event = event.Words words; answer = answer.Refused r None }

-- one that isn't built
abbrev pub not_yet : Actor → List ℕ → Step
not_yet who words = refused_words who words refusal.NotYet

-- statements that are built: SEND, RECEIVE and those that need no instance
abbrev pub is_built_word : List ℕ → Bool
is_built_word words =
    same_name words (codes "SEND") || same_name words (codes "RECEIVE") || same_name words (codes "DECLARE")
    || same_name words (codes "SET") || same_name words (codes "IF")

-- the step of a deed; what isn't built is refused by its words
abbrev pub IsStepOf : Deed → Step → Type 0
IsStepOf (Replied r given) step = IsTrue (is_built r) × (step ≡ asked r (answer.Replied given))
IsStepOf (Denied r refused) step =
    MatchBool (is_built r) (step ≡ asked r (answer.Refused refused None)) (step ≡ not_yet first_session (request_words r))
IsStepOf (Failed words fault) step =
    step ≡ refused_words first_session words (if is_built_word words then refusal_of fault else refusal.NotYet)

-- of each deed its step, in order
abbrev pub AreStepsOf : List Deed → List Step → Type 0
AreStepsOf [] steps = steps ≡ []
AreStepsOf (d ∷ deeds) [] = ⊥
AreStepsOf (d ∷ deeds) (step ∷ steps) = IsStepOf d step × AreStepsOf deeds steps

-- the steps of what is done from where a batch stands, and the variables that it leaves
pub record DoesFrom (m : Standing) (steps : List Step) (after : Scope) : Type 0 where
  pub deeds : List Deed
  pub does : DoesDeeds m.place false m.rest m.scope deeds after
  pub are_steps : AreStepsOf deeds steps

-- a batch of session 1, with its text
abbrev pub begun : Scope → List ℕ → List Statement → Standing
begun s text block = standing (place_with A text) block s

-- ---- the steps of `:clean`

abbrev pub handed_over : SideId → ℕ → Answer → Step
handed_over s number given = record { who = actor.World; event = event.HandOver s number; answer = given }

abbrev pub is_taken_in : Verdict → Bool
is_taken_in verdict.New = true
is_taken_in verdict.Next = true
is_taken_in _ = false

-- New and Next
abbrev pub goes_on : Answer → Bool
goes_on (answer.Arrived (arrived.Verdict v)) = is_taken_in v
goes_on _ = false

-- so many messages of a side are handed over, numbered from here on, up to the first answer that is neither New nor Next
abbrev pub HandsOver : SideId → ℕ → ℕ → List Step → Type 0
HandsOver s number zero steps = steps ≡ []
HandsOver s number (suc more) [] = ⊥
HandsOver s number (suc more) (step ∷ steps) =
    (step ≡ handed_over s number step.answer) × MatchBool (goes_on step.answer) (HandsOver s (number + 1) more steps) (steps ≡ [])

-- the messages of a side past those that its partner accepted
abbrev pub CleansSide : World → Pending → List Step → Type 0
CleansSide w p steps = HandsOver p.side (p.accepted + 1) (p.numbered - p.accepted) steps

-- ---- one after the other

-- the steps of each in order, each in the state that those before it leave
abbrev pub InTurn : {X : Type 0} → (World → X → List Step → Type 0) → World → List X → List Step → Type 0
InTurn does w [] steps = steps ≡ []
InTurn does w (x ∷ xs) steps =
    (mine : List Step) × (rest : List Step) × (steps ≡ mine ++ rest) × does w x mine × InTurn does (after w mine) xs rest

-- for each side in the order of the log whose partner is on A by its route: how many messages it numbered, and how many its partner accepted
abbrev pub pending : World → List Pending
pending w = flat_map (pending_by w.a) (sides w.a.log)

abbrev pub Cleans : World → List Step → Type 0
Cleans w steps = InTurn CleansSide w (pending w) steps

-- ---- the steps of commands that aren't built

-- a connection to the first session is none that isn't built
abbrev pub unless_first : Session → Option (List ℕ)
unless_first s = if same_who s.instance A && (s.number == 1) then None else Some (codes "connect")

-- the word of a command that isn't built
abbrev pub unbuilt : Command → Option (List ℕ)
unbuilt (command.Connect s) = unless_first s
unbuilt command.Pump = Some (codes "pump")
unbuilt (command.Deliver frame) = Some (codes "deliver")
unbuilt (command.Lose frame) = Some (codes "lose")
unbuilt (command.Tick seconds) = Some (codes "tick")
unbuilt (command.Clock moment) = Some (codes "clock")
unbuilt (command.Fuse calls) = Some (codes "fuse")
unbuilt (command.Crash pick) = Some (codes "crash")
unbuilt command.Open = Some (codes "open")
unbuilt command.Serve = Some (codes "serve")
unbuilt command.Dump = Some (codes "dump")
unbuilt (command.Inject bytes) = Some (codes "inject")
unbuilt _ = None

-- a command that isn't built is refused in one step
abbrev pub PassesBy : Option (List ℕ) → List Step → Type 0
PassesBy None steps = steps ≡ []
PassesBy (Some word) steps = steps ≡ not_yet actor.World word ∷ []

abbrev pub Passes : Command → List Step → Type 0
Passes c steps = PassesBy (unbuilt c) steps

-- ---- commands

-- the steps of a command in a state and with these variables, and the variables that it leaves
abbrev pub Does : World → Scope → Command → List Step → Scope → Type 0
Does w s (command.Batch text block) steps t = DoesFrom (begun s text block) steps t
Does w s command.Clean steps t = Cleans w steps × (t ≡ s)
Does w s c steps t = Passes c steps × (t ≡ s)

-- the steps of commands in order, each in the state and with the variables that those before it leave
abbrev pub DoesAll : World → Scope → List Command → List Step → Type 0
DoesAll w s [] steps = steps ≡ []
DoesAll w s (c ∷ cs) steps =
    (mine : List Step) × (rest : List Step) × (t : Scope) × (steps ≡ mine ++ rest) × Does w s c mine t × DoesAll (after w mine) t cs rest

-- no variable is declared, and no rows were counted
abbrev pub no_variables : Scope
no_variables = record { variables = []; rows = pos 0 }

-- every command once, in order
abbrev pub Follows : List Command → List Step → Type 0
Follows commands history = DoesAll first no_variables commands history

-- a beginning of such a history
abbrev pub FollowsSoFar : List Command → List Step → Type 0
FollowsSoFar commands history = (more : List Step) × Follows commands (history ++ more)

-- a beginning of such a history, to which a step was to come
abbrev pub FollowsUpToMore : List Command → List Step → Type 0
FollowsUpToMore commands history = (more : List Step) × (more ≡ [] → ⊥) × Follows commands (history ++ more)
