-- What a statement stores and tests, from the calls that do it.
use Rattle.std.proofs.Common.{◌≡◌, Bool, false, List, Option, Result, Ok, Err, sym, ap, ◌∙◌}
use Rattle.sb_model.specs.Sides.{Bytes}
use Rattle.sb_grammar.specs.declared.tree.Condition.{Condition}
use Rattle.sb_grammar.specs.declared.tree.Declaration.{Declaration}
use Rattle.sb_grammar.specs.declared.tree.Expr.{Expr}
use Rattle.sb_grammar.specs.declared.tree.Statement.{Statement, out-Statement, roll-Statement, out-roll-Statement}
use Rattle.sb_grammar.specs.declared.tree.Statement.TheOpen.{Statement-F}
use Rattle.sb_grammar.specs.declared.tree.Statement.TheVariants as statement
use Rattle.sb_value.specs.declared.fault.Fault.{Fault}
use Rattle.sb_value.specs.Faults.{and_then, Gives, GivesAfter, Leaves}
use Rattle.sb_proc.specs.Expressions.{holds}
use Rattle.sb_proc.specs.Scopes.{Scope}
use Rattle.sb_proc.specs.Steps.{Stored, computed, computed_at}
use Rattle.sb_proc.specs.Turns.{after_declare, after_set}
use Rattle.sb_proc.proofs.Going.{leaves_beside, gives_beside}

abbrev untested : Scope → Stored
untested t = Ok (t, false)

abbrev tested : Scope → Bool → Stored
tested s b = Ok (s, b)

-- the layer of a statement
layer : (x : Statement) (y : Statement-F Statement) → x ≡ roll-Statement y → out-Statement x ≡ y
layer x y is = ap out-Statement is ∙ out-roll-Statement y

declares : (s : Scope) (x : Statement) (all given : List Declaration) → x ≡ statement.Declare all → given ≡ all →
    computed s x ≡ and_then (after_declare s given) untested
declares s x all given is same =
    ap (computed_at s) (layer x (Statement-F.Declare all) (is ∙ sym (statement.rolls-Declare all)))
    ∙ ap (λ ds. and_then (after_declare s ds) untested) (sym same)

pub declare_fails : (s t : Scope) (x : Statement) (all given : List Declaration) (e : Fault) → x ≡ statement.Declare all → given ≡ all →
    Leaves (after_declare s given) (Err e) s t → GivesAfter {A = Scope} {B = Bool} (computed s x) (Err e) s t
declare_fails s t x all given e is same fails =
    leaves_beside (after_declare s given) (computed s x) e s t (λ f h. declares s x all given is same ∙ ap (λ r. and_then r untested) h) fails

pub declare_goes : (s t : Scope) (x : Statement) (all given : List Declaration) → x ≡ statement.Declare all → given ≡ all →
    after_declare s given ≡ Ok t → computed s x ≡ Ok (t, false)
declare_goes s t x all given is same goes = declares s x all given is same ∙ ap (λ r. and_then r untested) goes

sets : (s : Scope) (x : Statement) (name : Bytes) (value : Expr) → x ≡ statement.Set name value → computed s x ≡ and_then (after_set s name value) untested
sets s x name value is = ap (computed_at s) (layer x (Statement-F.Set name value) (is ∙ sym (statement.rolls-Set name value)))

pub set_fails : (s t : Scope) (x : Statement) (name : Bytes) (value : Expr) (e : Fault) → x ≡ statement.Set name value →
    Leaves (after_set s name value) (Err e) s t → GivesAfter {A = Scope} {B = Bool} (computed s x) (Err e) s t
set_fails s t x name value e is fails =
    leaves_beside (after_set s name value) (computed s x) e s t (λ f h. sets s x name value is ∙ ap (λ r. and_then r untested) h) fails

pub set_goes : (s t : Scope) (x : Statement) (name : Bytes) (value : Expr) → x ≡ statement.Set name value →
    after_set s name value ≡ Ok t → computed s x ≡ Ok (t, false)
set_goes s t x name value is goes = sets s x name value is ∙ ap (λ r. and_then r untested) goes

tests : (s seen : Scope) (x : Statement) (condition : Condition) (taken : Statement) (passed : Option Statement) → x ≡ statement.If condition taken passed → seen ≡ s →
    computed s x ≡ and_then (holds seen condition) (tested s)
tests s seen x condition taken passed is same =
    ap (computed_at s) (layer x (Statement-F.If condition taken passed) (is ∙ sym (statement.rolls-If condition taken passed)))
    ∙ ap (λ (u : Scope). and_then (holds u condition) (tested s)) (sym same)

pub test_gives : (s seen : Scope) (x : Statement) (condition : Condition) (taken : Statement) (passed : Option Statement) (r : Result Bool Fault) →
    x ≡ statement.If condition taken passed → seen ≡ s → Gives (holds seen condition) r → GivesAfter {A = Scope} {B = Bool} (computed s x) r s s
test_gives s seen x condition taken passed (Ok b) is same h = tests s seen x condition taken passed is same ∙ ap (λ r. and_then r (tested s)) h
test_gives s seen x condition taken passed (Err e) is same h =
    gives_beside (holds seen condition) (computed s x) e s (λ f fails. tests s seen x condition taken passed is same ∙ ap (λ r. and_then r (tested s)) fails) h
