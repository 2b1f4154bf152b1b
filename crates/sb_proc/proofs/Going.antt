-- A turn of a machine, from the calls that make it.
use Rattle.std.proofs.Common.{◌≡◌, ◌≢◌, ◌⊎◌, inl, inr, IsTrue, Bool, false, List, [], Some, Result, Ok, Err, refl, sym, ap, ◌∙◌}
use Rattle.sb_grammar.specs.declared.tree.Statement.{Statement}
use Rattle.sb_value.specs.declared.fault.Fault.{Fault}
use Rattle.sb_value.specs.declared.fault.Fault.TheVariants as fault
use Rattle.sb_value.specs.Faults.{and_then, Gives, GivesAfter, Leaves}
use Rattle.sb_proc.specs.declared.act.MachineFault.{MachineFault}
use Rattle.sb_proc.specs.declared.act.MachineFault.TheVariants as machine_fault
use Rattle.sb_proc.specs.Machines.{Standing, standing, Reaches, refused, refusal_of, IsShownAs}
use Rattle.sb_proc.specs.Requests.{Place}
use Rattle.sb_proc.specs.Scopes.{Scope}
use Rattle.sb_proc.specs.Steps.{Stored, next_asked, next_computed, next_words, aside, passing, past_step, stepped, refused_by, step_refused}
use Rattle.sb_proc.proofs.Turning.{asked_refused, step_refuses}

-- ---- what is stored

-- a fault that leaves what it came from, beside an answer
pub leaves_beside : {A B : Type 0} (said : Result A Fault) (more : Result (A × B) Fault) (e : Fault) (old new : A) → ((f : Fault) → said ≡ Err f → more ≡ Err f) →
    Leaves said (Err e) old new → GivesAfter {A = A} {B = B} more (Err e) old new
leaves_beside said more (fault.NoVariable name) old new same h = (same _ h.0, h.1)
leaves_beside said more (fault.WrongKind kind) old new same h = (same _ h.0, h.1)
leaves_beside said more (fault.Overflow left) old new same h = (same _ h.0, h.1)
leaves_beside said more fault.OutOfMemory old new same h = tt

-- a fault of what changes nothing, beside an answer
pub gives_beside : {A B C : Type 0} (said : Result C Fault) (more : Result (A × B) Fault) (e : Fault) (old : A) → ((f : Fault) → said ≡ Err f → more ≡ Err f) →
    Gives said (Err e) → GivesAfter {A = A} {B = B} more (Err e) old old
gives_beside said more (fault.NoVariable name) old same h = (same _ h, refl)
gives_beside said more (fault.WrongKind kind) old same h = (same _ h, refl)
gives_beside said more (fault.Overflow left) old same h = (same _ h, refl)
gives_beside said more fault.OutOfMemory old same h = tt

-- what the variables are, as what the machine is
pub aside_gives : (p : Place) (rest : List Statement) (said : Stored) (r : Result Bool Fault) (s t : Scope) → GivesAfter {A = Scope} {B = Bool} said r s t →
    GivesAfter {A = Standing} {B = Bool} (and_then said (aside p rest)) r (standing p rest s) (standing p rest t)
aside_gives p rest said (Ok b) s t h = ap (λ q. and_then q (aside p rest)) h
aside_gives p rest said (Err (fault.NoVariable name)) s t h = (ap (λ q. and_then q (aside p rest)) h.0, ap (standing p rest) h.1)
aside_gives p rest said (Err (fault.WrongKind kind)) s t h = (ap (λ q. and_then q (aside p rest)) h.0, ap (standing p rest) h.1)
aside_gives p rest said (Err (fault.Overflow left)) s t h = (ap (λ q. and_then q (aside p rest)) h.0, ap (standing p rest) h.1)
aside_gives p rest said (Err fault.OutOfMemory) s t h = tt

-- ---- a turn

pub turn_done : (old mid new : Standing) (b : Bool) → next_computed old ≡ Ok (mid, b) → new ≡ past_step b mid → stepped old ≡ Ok new
turn_done old mid new b computed is = ap (λ r. and_then r passing) computed ∙ ap (λ (n : Standing). Ok n) (sym is)

shown_turn : (old new : Standing) (f : Fault) (why : MachineFault) → next_computed old ≡ Err f → new ≡ old →
    (why ≡ machine_fault.OutOfMemory) ⊎ (why ≡ machine_fault.Refused (next_words new) (refusal_of f)) →
    (why ≡ machine_fault.OutOfMemory) ⊎ ((new ≡ old) × (step_refused old ≡ Some why))
shown_turn old new f why computed same (inl memory) = inl memory
shown_turn old new f why computed same (inr is) =
    inr (
      same,
      ap (λ r. refused_by (next_words old) (and_then r passing)) computed
          ∙ ap Some (sym (is ∙ ap (λ (m : Standing). machine_fault.Refused (next_words m) (refusal_of f)) same)),
    )

-- a fault of what is stored is the refusal of the turn, unless memory is wanting
pub turn_refused : (old new : Standing) (f : Fault) (why : MachineFault) → GivesAfter {A = Standing} {B = Bool} (next_computed old) (Err f) old new → IsShownAs (next_words new) f why →
    (why ≡ machine_fault.OutOfMemory) ⊎ ((new ≡ old) × (step_refused old ≡ Some why))
turn_refused old new (fault.NoVariable name) why h shown = shown_turn old new (fault.NoVariable name) why h.0 h.1 shown
turn_refused old new (fault.WrongKind kind) why h shown = shown_turn old new (fault.WrongKind kind) why h.0 h.1 shown
turn_refused old new (fault.Overflow left) why h shown = shown_turn old new (fault.Overflow left) why h.0 h.1 shown
turn_refused old new fault.OutOfMemory why h shown = inl shown

-- ---- the turns together

reached : (m n : Standing) (why : MachineFault) → Reaches m n → (why ≡ machine_fault.OutOfMemory) ⊎ (refused n ≡ Some why) →
    (why ≡ machine_fault.OutOfMemory) ⊎ (Reaches m n × (refused n ≡ Some why))
reached m n why way (inl memory) = inl memory
reached m n why way (inr is) = inr (way, is)

-- the request of a statement that is reached is refused
pub refused_at : (m n : Standing) (f : Fault) (why : MachineFault) → Reaches m n → Gives (next_asked n) (Err f) → IsShownAs (next_words n) f why →
    (why ≡ machine_fault.OutOfMemory) ⊎ (Reaches m n × (refused n ≡ Some why))
refused_at m n f why way fails shown = reached m n why way (asked_refused n f why fails shown)

-- what a statement that is reached stores is refused
pub refused_on : (m n k : Standing) (why : MachineFault) → Reaches m n → (why ≡ machine_fault.OutOfMemory) ⊎ ((k ≡ n) × (step_refused n ≡ Some why)) →
    (why ≡ machine_fault.OutOfMemory) ⊎ (Reaches m k × (refused k ≡ Some why))
refused_on m n k why way (inl memory) = inl memory
refused_on m n k why way (inr is) = inr (rw is.0 way, rw is.0 (step_refuses n why is.1))

-- where a machine goes on there is a statement
pub some_left : (b : Bool) (xs : List Statement) → b ≡ false → (xs ≡ [] → IsTrue b) → xs ≢ []
some_left b xs is ends e = let t : IsTrue b = ends e in cc
