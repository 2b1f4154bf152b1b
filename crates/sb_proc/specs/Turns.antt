-- What a statement does: one turn of a block.
use Rattle.std.specs.Prelude.{Bool, if◌then◌else◌, List, [], ◌∷◌, ◌++◌, filter, is_none, Option, Some, None, Result, Ok, Err}
use Rattle.sb_log.specs.declared.requests.Request.{Request}
use Rattle.sb_model.specs.Sides.{Bytes}
use Rattle.sb_grammar.specs.declared.tree.Declaration.{Declaration}
use Rattle.sb_grammar.specs.declared.tree.Expr.{Expr}
use Rattle.sb_grammar.specs.declared.tree.Statement.{Statement, out-Statement}
use Rattle.sb_grammar.specs.declared.tree.Statement.TheOpen.{Statement-F}
use Rattle.sb_value.specs.declared.fault.Fault.{Fault}
use Rattle.sb_value.specs.declared.value.Value.{Value}
use Rattle.sb_value.specs.declared.value.Value.TheVariants as values
use Rattle.sb_value.specs.Faults.{and_then, want}
use Rattle.sb_value.specs.Values.{converted}
use Rattle.sb_proc.specs.declared.variables.Variable.{Variable}
use Rattle.sb_proc.specs.Scopes.{Scope, scope_with, variable_with, find_variable, declared_anew, declared_first, with_value}
use Rattle.sb_proc.specs.Expressions.{value_of, holds}
use Rattle.sb_proc.specs.Folds.{try_fold}
use Rattle.sb_proc.specs.Requests.{Place, Asked, asked_at}

-- a statement becomes others, which come in its place, with these variables; or ends its block; or asks its instance; or is refused
pub data Turn : Type 0 where
  Goes : List Statement → Scope → Turn
  Returns : Turn
  Asks : Request → Turn
  Refuses : Fault → Turn

-- ---- DECLARE

-- a variable without a value starts as NULL
abbrev pub first_value : Scope → Option Expr → Result Value Fault
first_value s None = Ok values.Null
first_value s (Some e) = value_of s e

abbrev pub declared_variable : Scope → Declaration → Result Variable Fault
declared_variable s d =
    and_then (first_value s d.value) (λ v. want (converted d.kind v) d.kind (λ x. Ok (variable_with d.variable d.kind x)))

-- the variables as a declaration sees them: those declared before it in its statement, then the others
abbrev pub seen_with : List Variable → Scope → Scope
seen_with new s = scope_with s (new ++ s.variables)

-- with one more declaration, which sees those before it
abbrev pub and_declared : Scope → List Variable → Declaration → Result (List Variable) Fault
and_declared s new d = and_then (declared_variable (seen_with new s) d) (λ x. Ok (declared_anew x new))

-- what declarations declare, from left to right
abbrev pub all_new : Scope → List Declaration → Result (List Variable) Fault
all_new s all = try_fold (and_declared s) [] all

-- the new variables in the place of those with their names
abbrev pub with_new : Scope → List Variable → Scope
with_new s new = scope_with s (filter (λ x. is_none (find_variable x.name new)) s.variables ++ new)

-- a refused DECLARE declares nothing
abbrev pub after_declare : Scope → List Declaration → Result Scope Fault
after_declare s all = and_then (all_new s all) (λ new. Ok (with_new s new))

-- ---- SET

-- the value, as one of the variable's kind
abbrev pub value_to_set : Scope → Bytes → Expr → Result Value Fault
value_to_set s name e =
    declared_first s name (λ x. and_then (value_of s e) (λ v. want (converted x.kind v) x.kind Ok))

abbrev pub after_set : Scope → Bytes → Expr → Result Scope Fault
after_set s name e = and_then (value_to_set s name e) (λ v. Ok (scope_with s (with_value name v s.variables)))

-- ---- IF

-- the branch that is taken; without an ELSE there may be none
abbrev pub branch : Statement → Option Statement → Bool → List Statement
branch taken None b = if b then taken ∷ [] else []
branch taken (Some passed) b = if b then taken ∷ [] else passed ∷ []

-- ---- every statement

abbrev pub turned : {A : Type 0} → Result A Fault → (A → Turn) → Turn
turned (Ok x) rest = rest x
turned (Err fault) rest = Refuses fault

abbrev pub asking : Scope → Asked → Turn
asking s (Ok (Some r)) = Asks r
asking s (Ok None) = Goes [] s
asking s (Err fault) = Refuses fault

abbrev pub turn_at : Place → Scope → Statement-F Statement → Turn
turn_at p s (Statement-F.Declare all) = turned (after_declare s all) (Goes [])
turn_at p s (Statement-F.Set name e) = turned (after_set s name e) (Goes [])
turn_at p s (Statement-F.SetNoCount on) = Goes [] s
turn_at p s (Statement-F.If condition taken passed) = turned (holds s condition) (λ b. Goes (branch taken passed b) s)
turn_at p s (Statement-F.Block all) = Goes all s
turn_at p s Statement-F.Return = Returns
turn_at p s statement = asking s (asked_at p s statement)

abbrev pub turn : Place → Scope → Statement → Turn
turn p s statement = turn_at p s (out-Statement statement)
