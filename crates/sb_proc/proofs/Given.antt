-- A variable is given its value where it stands.
use Rattle.std.proofs.Common.{◌≡◌, ℕ, zero, suc, ◌+◌, ◌<◌, ◌≤◌, Bool, true, false, cond, not, List, [], ◌∷◌, length, get_or, set, Some, None, refl, ap, ◌∙◌, arith}
use Rattle.std.specs.List.{position, position_or_len}
use Rattle.std.specs.Prelude.{nat_lt}
use Rattle.std.proofs.lemmas.List.Quantifiers.{position-Some}
use Rattle.std.proofs.lemmas.Bool.Decides.{nat_tests}
use Rattle.sb_model.specs.Sides.{Bytes}
use Rattle.sb_value.specs.declared.value.Value.{Value}
use Rattle.sb_proc.specs.declared.variables.Variable.{Variable}
use Rattle.sb_proc.specs.Scopes.{is_named, given, with_value}

found_at : (name : Bytes) (value : Value) (vs : List Variable) (i : ℕ) (d : Variable) → i < length vs → is_named name (get_or vs i d) ≡ true →
    ((k : ℕ) → k < i → is_named name (get_or vs k d) ≡ false) → with_value name value vs ≡ set vs i (given value (get_or vs i d))
found_at name value [] i d lt is before = absurd (omega arith)
found_at name value (x ∷ xs) zero d lt is before = ap (λ t. cond t (given value x ∷ xs) (x ∷ with_value name value xs)) is
found_at name value (x ∷ xs) (suc i) d lt is before =
    ap (λ t. cond t (given value x ∷ xs) (x ∷ with_value name value xs)) (before 0 (omega arith))
    ∙ ap (λ ys. x ∷ ys) (found_at name value xs i d (omega arith) is (λ k below. before (suc k) (omega arith)))

-- where its place is found
pub found : (name : Bytes) (value : Value) (vs : List Variable) (i : ℕ) (d : Variable) → position (is_named name) vs ≡ Some i →
    with_value name value vs ≡ set vs i (given value (get_or vs i d))
found name value vs i d is = let p = position-Some (is_named name) vs i d is in found_at name value vs i d p.0 p.1 p.2

missing_by : (name : Bytes) (value : Value) (x : Variable) (xs : List Variable) (b : Bool) → is_named name x ≡ b →
    length (x ∷ xs) ≤ cond (not b) (1 + position_or_len (is_named name) xs) 0 →
    (length xs ≤ position_or_len (is_named name) xs → with_value name value xs ≡ xs) → with_value name value (x ∷ xs) ≡ x ∷ xs
missing_by name value x xs true is h rest = absurd (omega arith)
missing_by name value x xs false is h rest =
    ap (λ t. cond t (given value x ∷ xs) (x ∷ with_value name value xs)) is ∙ ap (λ ys. x ∷ ys) (rest (omega arith))

missing_in : (name : Bytes) (value : Value) (vs : List Variable) → length vs ≤ position_or_len (is_named name) vs → with_value name value vs ≡ vs
missing_in name value [] h = refl
missing_in name value (x ∷ xs) h = missing_by name value x xs (is_named name x) refl h (missing_in name value xs)

past_end : (p n : ℕ) → cond (nat_lt p n) (Some p) None ≡ None → n ≤ p
past_end p n is = grind (arith, nat_tests)

-- where it has no place
pub missing : (name : Bytes) (value : Value) (vs : List Variable) → position (is_named name) vs ≡ None → with_value name value vs ≡ vs
missing name value vs is = missing_in name value vs (past_end (position_or_len (is_named name) vs) (length vs) is)
