-- What the calls of a machine say together: its acts with their replies are what the block does.
use Rattle.std.specs.Prelude.{◌≡◌, Bool, true, false, List, [], ◌∷◌, Some}
use Rattle.std.specs.List.{list_any}
use Rattle.sb_log.specs.declared.refusals.Refusal.{Refusal}
use Rattle.sb_log.specs.declared.requests.Reply.{Reply}
use Rattle.sb_log.specs.declared.requests.Request.{Request}
use Rattle.sb_model.specs.Sides.{Bytes}
use Rattle.sb_grammar.specs.declared.tree.Statement.{Statement}
use Rattle.sb_value.specs.declared.fault.Fault.{Fault}
use Rattle.sb_proc.specs.declared.act.Act.TheVariants.{Run, End}
use Rattle.sb_proc.specs.declared.act.MachineFault.TheVariants.{Refused}
use Rattle.sb_proc.specs.Does.{Deed, Does, Replied, Denied, Failed}
use Rattle.sb_proc.specs.Machines.{Standing, Reaches, gives, refused, refusal_of, told}
use Rattle.sb_proc.specs.Requests.{Place}
use Rattle.sb_proc.specs.Scopes.{Scope}

-- from where a machine stands its block does these deeds, and leaves these variables
abbrev pub DoesFrom : Bool → Standing → List Deed → Scope → Type 0
DoesFrom is_reader m deeds after = Does m.place is_reader m.rest m.scope deeds after

-- what is done from a place that is reached is done from before it
abbrev pub ReachedDoes : Type 0
ReachedDoes = (is_reader : Bool) (m n : Standing) (deeds : List Deed) (after : Scope) →
    Reaches m n → DoesFrom is_reader n deeds after → DoesFrom is_reader m deeds after

-- the end does nothing more
abbrev pub EndDoesNothing : Type 0
EndDoesNothing = (is_reader : Bool) (m : Standing) → gives m ≡ Some End → DoesFrom is_reader m [] m.scope

-- a request with its reply, and then what is done by the machine that was told of it
abbrev pub ToldDoes : Type 0
ToldDoes = (m : Standing) (r : Request) (answer : Reply) (deeds : List Deed) (after : Scope) →
    gives m ≡ Some (Run r) → DoesFrom false (told m answer) deeds after → DoesFrom false m (Replied r answer ∷ deeds) after

-- a request that is refused ends the block
abbrev pub DeniedEnds : Type 0
DeniedEnds = (is_reader : Bool) (m : Standing) (r : Request) (refusal : Refusal) →
    gives m ≡ Some (Run r) → DoesFrom is_reader m (Denied r refusal ∷ []) m.scope

-- and so does a statement that is refused before it asks
abbrev pub FailedEnds : Type 0
FailedEnds = (is_reader : Bool) (m : Standing) (words : Bytes) (refusal : Refusal) →
    refused m ≡ Some (Refused words refusal) →
    (fault : Fault) × (refusal ≡ refusal_of fault) × DoesFrom is_reader m (Failed words fault ∷ []) m.scope

abbrev pub is_reply : Deed → Bool
is_reply (Replied r answer) = true
is_reply _ = false

-- whatever a block is, it can be done, if by being refused
abbrev pub BlocksCanBeDone : Type 0
BlocksCanBeDone = (p : Place) (is_reader : Bool) (xs : List Statement) (s : Scope) →
    (deeds : List Deed) × (after : Scope) × Does p is_reader xs s deeds after × (list_any is_reply deeds ≡ false)
