-- Where a machine stands, and what it gives there.
use Rattle.std.specs.Prelude.{◌≡◌, ◌⊎◌, IsTrue, List, [], ◌∷◌, ◌++◌, Option, Some, None, if◌then◌else◌}
use Rattle.sb_log.specs.declared.refusals.Refusal.{Refusal}
use Rattle.sb_log.specs.declared.refusals.Refusal.TheVariants as refusal
use Rattle.sb_log.specs.declared.requests.Reply.{Reply}
use Rattle.sb_model.specs.Sides.{Bytes}
use Rattle.sb_model.specs.Steps.{is_of_words}
use Rattle.sb_grammar.specs.declared.tree.Statement.{Statement}
use Rattle.sb_value.specs.declared.fault.Fault.{Fault}
use Rattle.sb_value.specs.declared.fault.Fault.TheVariants as fault
use Rattle.sb_proc.specs.declared.act.Act.{Act}
use Rattle.sb_proc.specs.declared.act.Act.TheVariants as act
use Rattle.sb_proc.specs.declared.act.MachineFault.{MachineFault}
use Rattle.sb_proc.specs.declared.act.MachineFault.TheVariants as machine_fault
use Rattle.sb_proc.specs.Requests.{Place}
use Rattle.sb_proc.specs.Replies.{scope_after, is_waiting}
use Rattle.sb_proc.specs.Scopes.{Scope}
use Rattle.sb_proc.specs.Turns.{Turn, Goes, Returns, Asks, Refuses, turn}
use Rattle.sb_proc.specs.Words.{words_of}

-- what is left of a block, its variables, and where it runs
pub record Standing : Type 0 where
  pub place : Place
  pub rest : List Statement
  pub scope : Scope

abbrev pub standing : Place → List Statement → Scope → Standing
standing p rest s = record { place = p; rest = rest; scope = s }

-- by statements that are done without their instance, and RETURN
pub data Reaches : Standing → Standing → Type 0 where
  stays : {m : Standing} → Reaches m m
  goes : {p : Place} {x : Statement} {xs rest : List Statement} {s t : Scope} {m : Standing} →
      turn p s x ≡ Goes xs t → Reaches (standing p (xs ++ rest) t) m → Reaches (standing p (x ∷ rest) s) m
  returns : {p : Place} {x : Statement} {rest : List Statement} {s : Scope} {m : Standing} →
      turn p s x ≡ Returns → Reaches (standing p [] s) m → Reaches (standing p (x ∷ rest) s) m

-- the end, or a request
abbrev pub act_by : Turn → Option Act
act_by (Asks r) = Some (act.Run r)
act_by _ = None

abbrev pub act_of : Place → Scope → List Statement → Option Act
act_of p s [] = Some act.End
act_of p s (x ∷ rest) = act_by (turn p s x)

abbrev pub gives : Standing → Option Act
gives m = act_of m.place m.scope m.rest

-- a fault as it is shown
abbrev pub refusal_of : Fault → Refusal
refusal_of (fault.NoVariable name) = refusal.NoVariable name
refusal_of (fault.WrongKind kind) = refusal.WrongKind kind
refusal_of (fault.Overflow left) = refusal.Overflow left
refusal_of fault.OutOfMemory = refusal.OutOfMemory

-- a fault is shown with its statement's words, unless memory is wanting
abbrev pub IsShownAs : Bytes → Fault → MachineFault → Type 0
IsShownAs words fault.OutOfMemory why = why ≡ machine_fault.OutOfMemory
IsShownAs words f why = (why ≡ machine_fault.OutOfMemory) ⊎ (why ≡ machine_fault.Refused words (refusal_of f))

-- what is refused is so before it asks
abbrev pub IsOfWords : MachineFault → Type 0
IsOfWords (machine_fault.Refused words r) = IsTrue (is_of_words r)
IsOfWords machine_fault.OutOfMemory = Unit {0}

abbrev pub fault_by : Bytes → Turn → Option MachineFault
fault_by words (Refuses f) = Some (machine_fault.Refused words (refusal_of f))
fault_by words _ = None

abbrev pub fault_of : Place → Scope → List Statement → Option MachineFault
fault_of p s [] = None
fault_of p s (x ∷ rest) = fault_by (words_of x) (turn p s x)

-- the refusal of the statement that comes next
abbrev pub refused : Standing → Option MachineFault
refused m = fault_of m.place m.scope m.rest

-- behind the statement that asked, unless it waits
abbrev pub past : Place → Scope → List Statement → Reply → Standing
past p s [] answer = standing p [] s
past p s (x ∷ rest) answer = if is_waiting answer then standing p (x ∷ rest) s else standing p rest (scope_after s x answer)

abbrev pub told : Standing → Reply → Standing
told m answer = past m.place m.scope m.rest answer
