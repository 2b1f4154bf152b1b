-- Values of a wanted kind.
use Rattle.std.proofs.Common.{◌≡◌, Option, Some, None, Result, Ok, Err, sym, ap, ◌∙◌}
use Rattle.std.specs.Option.{option_map_or}
use Rattle.sb_log.specs.declared.refusals.ValueKind.{ValueKind}
use Rattle.sb_model.specs.Sides.{Bytes}
use Rattle.sb_grammar.specs.declared.tree.Declaration.{Declaration}
use Rattle.sb_grammar.specs.declared.tree.Expr.{Expr}
use Rattle.sb_value.specs.declared.fault.Fault.{Fault}
use Rattle.sb_value.specs.declared.fault.Fault.TheVariants.{NoVariable}
use Rattle.sb_value.specs.declared.value.Value.{Value}
use Rattle.sb_value.specs.Faults.{and_then, want, Gives}
use Rattle.sb_value.specs.Values.{converted}
use Rattle.sb_proc.specs.declared.variables.Variable.{Variable}
use Rattle.sb_proc.specs.Expressions.{value_of}
use Rattle.sb_proc.specs.Scopes.{Scope, variable_with, find_variable}
use Rattle.sb_proc.specs.Turns.{first_value, declared_variable, value_to_set}
use Rattle.sb_proc.proofs.Folds.{gives_fault}

-- what doesn't convert is refused whatever would come next
want_fails : {A B : Type 0} (o : Option A) (kind : ValueKind) (k : A → Result B Fault) (f : Fault) → want o kind (λ (x : A). Ok x) ≡ Err f → want o kind k ≡ Err f
want_fails (Some x) kind k f e = absurd cc
want_fails None kind k f e = cc

want_goes : {A B : Type 0} (o : Option A) (kind : ValueKind) (k : A → Result B Fault) (v : A) → want o kind (λ (x : A). Ok x) ≡ Ok v → want o kind k ≡ k v
want_goes (Some x) kind k v e = let is : x ≡ v = cc in ap k is
want_goes None kind k v e = absurd cc

-- a declaration, where its first value is computed
abbrev stored : Declaration → Value → Result Variable Fault
stored d v = want (converted d.kind v) d.kind (λ x. Ok (variable_with d.variable d.kind x))

declared_from : (seen s : Scope) (d : Declaration) (first : Value) → seen ≡ s → first_value seen d.value ≡ Ok first → declared_variable s d ≡ stored d first
declared_from seen s d first is came = ap (λ r. and_then r (stored d)) (ap (λ t. first_value t d.value) (sym is) ∙ came)

pub first_fails : (seen s : Scope) (d : Declaration) (e : Fault) → seen ≡ s → Gives (first_value seen d.value) (Err e) → Gives (declared_variable s d) (Err e)
first_fails seen s d e is fails =
    gives_fault (first_value seen d.value) (declared_variable s d) e
    (λ f h. ap (λ r. and_then r (stored d)) (ap (λ t. first_value t d.value) (sym is) ∙ h)) fails

pub value_fails : (seen s : Scope) (d : Declaration) (first : Value) (e : Fault) → seen ≡ s → first_value seen d.value ≡ Ok first →
    Gives (want (converted d.kind first) d.kind (λ (x : Value). Ok x)) (Err e) → Gives (declared_variable s d) (Err e)
value_fails seen s d first e is came fails =
    gives_fault (want (converted d.kind first) d.kind (λ (x : Value). Ok x)) (declared_variable s d) e
    (λ f h. declared_from seen s d first is came ∙ want_fails (converted d.kind first) d.kind (λ x. Ok (variable_with d.variable d.kind x)) f h) fails

pub value_stored : (seen s : Scope) (d : Declaration) (first v : Value) (name : Bytes) → seen ≡ s → first_value seen d.value ≡ Ok first →
    want (converted d.kind first) d.kind (λ (x : Value). Ok x) ≡ Ok v → name ≡ d.variable → declared_variable s d ≡ Ok (variable_with name d.kind v)
value_stored seen s d first v name is came goes named =
    declared_from seen s d first is came ∙ want_goes (converted d.kind first) d.kind (λ x. Ok (variable_with d.variable d.kind x)) v goes
    ∙ ap (λ n. Ok (variable_with n d.kind v)) (sym named)

-- a value that is set, as one of the variable's kind
abbrev fit : Variable → Value → Result Value Fault
fit x v = want (converted x.kind v) x.kind (λ (y : Value). Ok y)

pub set_as : (seen s : Scope) (name : Bytes) (e : Expr) (x : Variable) (v : Value) → seen ≡ s → find_variable name seen.variables ≡ Some x →
    value_of seen e ≡ Ok v → fit x v ≡ value_to_set s name e
set_as seen s name e x v is found came =
    sym (ap (λ o. option_map_or (λ y. and_then (value_of s e) (fit y)) o (Err (NoVariable name))) (ap (λ (t : Scope). find_variable name t.variables) (sym is) ∙ found)
    ∙ ap (λ r. and_then r (fit x)) (ap (λ t. value_of t e) (sym is) ∙ came))
