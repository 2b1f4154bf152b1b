use Rattle.std.proofs.Common.{◌≡◌, ℕ, ℤ, zero, suc, ◌<◌, length, List, [], ◌∷◌, get_or, set, Some, None, refl, sym, ap, ◌∙◌, arith}
use Rattle.std.specs.List.{slice_get, position}
use Rattle.std.proofs.lemmas.List.Quantifiers.{position-Some}
use Rattle.sb_model.specs.Sides.{Bytes}
use Rattle.sb_value.specs.declared.value.Value.{Value}
use Rattle.sb_proc.specs.declared.variables.Variable.{Variable}
use Rattle.sb_proc.specs.Scopes.{Scope, scope_with, is_named, given, with_value}
use Rattle.sb_proc.proofs.Given.{found, missing}
use Rattle.sb_proc.proofs.variables.Variables.set.Goals as goal

abbrev scope_of_parts : List Variable → ℤ → Scope
scope_of_parts vs rows = record { variables = vs; rows = rows }

there : {A : Type 0} (xs : List A) (i : ℕ) (d : A) → i < length xs → slice_get xs i ≡ Some (get_or xs i d)
there [] i d lt = absurd (omega arith)
there (x ∷ xs) zero d lt = refl
there (x ∷ xs) (suc i) d lt = there xs i d (omega arith)

-- any variable, where there is one
some_variable : (xs : List Variable) → (i : ℕ) → i < length xs → Variable
some_variable [] i lt = absurd (omega arith)
some_variable (x ∷ xs) i lt = x

given_where_found : (name : Bytes) (value : Value) (xs ys zs : List Variable) (i : ℕ) → ys ≡ xs → position (is_named name) ys ≡ Some i →
    ((x : Variable) → slice_get xs i ≡ Some x → zs ≡ set xs i (given value x)) → zs ≡ with_value name value xs
given_where_found name value [] ys zs i same is gives =
    let at : position (is_named name) [] ≡ Some i = ap (position (is_named name)) (sym same) ∙ is in absurd cc
given_where_found name value (x ∷ xs) ys zs i same is gives =
    let at : position (is_named name) (x ∷ xs) ≡ Some i = ap (position (is_named name)) (sym same) ∙ is in
    let p = position-Some (is_named name) (x ∷ xs) i x at in
    gives (get_or (x ∷ xs) i x) (there (x ∷ xs) i x p.0) ∙ sym (found name value (x ∷ xs) i x at)

pub returns-in-Some : goal.returns-in-Some
returns-in-Some c =
    let known = given_where_found c.args.name.now c.args.value c.self.inside.known.items c.as_slice.result.now c.give.new.known.items c.in-Some.at c.as_slice.ensures.value (sym c.in-Some.ensures) c.give.ensures in
    ap (λ vs. scope_of_parts vs c.self.inside.rows) known ∙ ap (λ (s : Scope). scope_with s (with_value c.args.name.now c.args.value s.variables)) c.self.view_is

pub returns-in-None : goal.returns-in-None
returns-in-None c =
    let none : position (is_named c.args.name.now) c.self.inside.known.items ≡ None = ap (position (is_named c.args.name.now)) (sym c.as_slice.ensures.value) ∙ sym c.in-None.ensures in
    let kept = missing c.args.name.now c.args.value c.self.inside.known.items none in
    sym c.self.view_is ∙ ap (λ vs. scope_of_parts vs c.self.inside.rows) (sym kept)
    ∙ ap (λ (s : Scope). scope_with s (with_value c.args.name.now c.args.value s.variables)) c.self.view_is
