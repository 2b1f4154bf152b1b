-- Loops that give values to variables.
use Rattle.std.proofs.Common.{◌≡◌, ℕ, ◌+◌, ◌<◌, ◌≤◌, List, length, get_or, drop, fold, sym, ap, ◌∙◌}
use Rattle.std.proofs.lemmas.List.{at_drop_more, at_drop_all}
use Rattle.sb_proc.specs.declared.variables.Variable.{Variable}
use Rattle.sb_proc.specs.Scopes.{Scope, scope_with}

-- one more is assigned
pub assign_turn : {A : Type 0} (f : List Variable → A → List Variable) (start now next : Scope) (xs : List A) (i : ℕ) (x : A) →
    scope_with now (fold f now.variables (drop i xs)) ≡ scope_with start (fold f start.variables xs) →
    i < length xs → x ≡ get_or xs i x → next ≡ scope_with now (f now.variables x) →
    scope_with next (fold f next.variables (drop (i + 1) xs)) ≡ scope_with start (fold f start.variables xs)
assign_turn f start now next xs i x so_far h is assigns =
    ap (λ (s : Scope). scope_with s (fold f s.variables (drop (i + 1) xs))) assigns
    ∙ ap (λ y. scope_with now (fold f (f now.variables y) (drop (i + 1) xs))) is
    ∙ ap (scope_with now) (sym (at_drop_more (fold f now.variables) xs i x h)) ∙ so_far

-- all are assigned
pub assign_end : {A : Type 0} (f : List Variable → A → List Variable) (start now : Scope) (xs : List A) (i : ℕ) →
    scope_with now (fold f now.variables (drop i xs)) ≡ scope_with start (fold f start.variables xs) → length xs ≤ i →
    now ≡ scope_with start (fold f start.variables xs)
assign_end f start now xs i so_far h = ap (scope_with now) (sym (at_drop_all (fold f now.variables) xs i h)) ∙ so_far
