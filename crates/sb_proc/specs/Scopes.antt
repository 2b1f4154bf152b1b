-- The variables of a session or a reader.
use Rattle.std.specs.Prelude.{ℤ, Bool, not, if◌then◌else◌, List, [], ◌∷◌, ◌++◌, Option, filter, find, unwrap_or, Result, Ok, Err}
use Rattle.std.specs.Option.{option_map_or}
use Rattle.sb_log.specs.declared.refusals.ValueKind.{ValueKind}
use Rattle.sb_model.specs.Sides.{Bytes, same_name}
use Rattle.sb_value.specs.declared.fault.Fault.{Fault}
use Rattle.sb_value.specs.declared.fault.Fault.TheVariants.{NoVariable}
use Rattle.sb_value.specs.declared.value.Value.{Value}
use Rattle.sb_value.specs.declared.value.Value.TheVariants.{Null}
use Rattle.sb_value.specs.Values.{converted}
use Rattle.sb_proc.specs.Folds.{try_fold}
use Rattle.sb_proc.specs.declared.variables.Variable.{Variable}

-- the variables that are declared, and the number of rows of the last statement on rows or messages
pub record Scope : Type 0 where
  pub variables : List Variable
  pub rows : ℤ

abbrev pub variable_with : Bytes → ValueKind → Value → Variable
variable_with name kind value = record { name = name; kind = kind; value = value }

abbrev pub scope_with : Scope → List Variable → Scope
scope_with s variables = record s { variables = variables }

abbrev pub is_named : Bytes → Variable → Bool
is_named name x = same_name x.name name

abbrev pub find_variable : Bytes → List Variable → Option Variable
find_variable name variables = find (is_named name) variables

-- the variable in the place of any other with its name
abbrev pub declared_anew : Variable → List Variable → List Variable
declared_anew x variables = filter (λ y. not (is_named x.name y)) variables ++ x ∷ []

-- a variable with another value
abbrev pub given : Value → Variable → Variable
given value x = variable_with x.name x.kind value

-- the variable with this name has this value
abbrev pub with_value : Bytes → Value → List Variable → List Variable
with_value name value [] = []
with_value name value (x ∷ xs) =
    if is_named name x then given value x ∷ xs else x ∷ with_value name value xs

-- a value that comes to a variable: of the variable's kind, or NULL where it doesn't convert
abbrev pub fitted : Variable → Value → Value
fitted x value = unwrap_or (converted x.kind value) Null

abbrev pub assigned : Bytes → Value → List Variable → List Variable
assigned name value variables =
    option_map_or (λ x. with_value name (fitted x value) variables) (find_variable name variables) variables

-- go on if the variable is declared
abbrev pub declared_first : {A : Type 0} → Scope → Bytes → (Variable → Result A Fault) → Result A Fault
declared_first s name rest = option_map_or rest (find_variable name s.variables) (Err (NoVariable name))

abbrev pub is_declared : Scope → Bytes → Result (Unit {0}) Fault
is_declared s name = declared_first s name (λ x. Ok tt)

-- each names a variable that is declared, or the first that isn't is named
abbrev pub all_declared : {A : Type 0} → Scope → (A → Bytes) → List A → Result (Unit {0}) Fault
all_declared s name_of xs = try_fold (λ _ x. is_declared s (name_of x)) tt xs
