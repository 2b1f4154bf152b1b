-- Answers that may be faults.
use Rattle.std.specs.Prelude.{◌≡◌, List, Option, Some, None, Result, Ok, Err}
use Rattle.std.specs.Global.{Vec}
use Rattle.sb_log.specs.declared.refusals.ValueKind.{ValueKind}
use Rattle.sb_value.specs.declared.fault.Fault.{Fault}
use Rattle.sb_value.specs.declared.fault.Fault.TheVariants.{WrongKind, OutOfMemory}

-- go on with what was computed
abbrev pub and_then : {A B : Type 0} → Result A Fault → (A → Result B Fault) → Result B Fault
and_then (Ok x) rest = rest x
and_then (Err fault) rest = Err fault

-- go on with what converted to a kind
abbrev pub want : {A B : Type 0} → Option A → ValueKind → (A → Result B Fault) → Result B Fault
want (Some x) kind rest = rest x
want None kind rest = Err (WrongKind kind)

-- the answer is what the definition says, unless memory is wanting
abbrev pub Gives : {A : Type 0} → Result A Fault → Result A Fault → Type 0
Gives said (Ok x) = said ≡ Ok x
Gives said (Err OutOfMemory) = Unit {0}
Gives said (Err fault) = said ≡ Err fault

-- the same of a list, by its elements
abbrev pub GivesItems : {A : Type 0} → Result (List A) Fault → Result (Vec A) Fault → Type 0
GivesItems said (Ok v) = said ≡ Ok v.items
GivesItems said (Err OutOfMemory) = Unit {0}
GivesItems said (Err fault) = said ≡ Err fault

-- what is changed is as the definition says; a fault leaves it as it was, unless memory is wanting
abbrev pub Leaves : {A : Type 0} → Result A Fault → Result (Unit {0}) Fault → A → A → Type 0
Leaves said (Ok done) old new = said ≡ Ok new
Leaves said (Err OutOfMemory) old new = Unit {0}
Leaves said (Err fault) old new = (said ≡ Err fault) × (new ≡ old)

-- the same of an answer that comes beside the change
abbrev pub GivesAfter : {A B : Type 0} → Result (A × B) Fault → Result B Fault → A → A → Type 0
GivesAfter said (Ok x) old new = said ≡ Ok (new, x)
GivesAfter said (Err OutOfMemory) old new = Unit {0}
GivesAfter said (Err fault) old new = (said ≡ Err fault) × (new ≡ old)
