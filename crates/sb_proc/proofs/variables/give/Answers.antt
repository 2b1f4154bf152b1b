use Rattle.std.proofs.Common.{◌≡◌, ℕ, zero, suc, List, [], ◌∷◌, get_or, set, Some, ap, ◌∙◌}
use Rattle.std.specs.List.{slice_get}
use Rattle.sb_value.specs.declared.value.Value.{Value}
use Rattle.sb_proc.specs.declared.variables.Variable.{Variable}
use Rattle.sb_proc.specs.Scopes.{given}
use Rattle.sb_proc.proofs.variables.give.Goals as goal

-- the element at an index that is there
got : {A : Type 0} (xs : List A) (i : ℕ) (x d : A) → slice_get xs i ≡ Some x → get_or xs i d ≡ x
got [] i x d e = absurd cc
got (y ∷ xs) zero x d e = cc
got (y ∷ xs) (suc i) x d e = got xs i x d e

-- an element with another value in its place
given_at : (xs : List Variable) (i : ℕ) (value stored : Value) (y : Variable) → y ≡ get_or xs i y → stored ≡ value →
    (x : Variable) → slice_get xs i ≡ Some x → set xs i (given stored y) ≡ set xs i (given value x)
given_at xs i value stored y is same x e =
    ap (λ v. set xs i (given v y)) same ∙ ap (λ z. set xs i (given value z)) (is ∙ got xs i x y e)

pub returns : goal.returns
returns c = given_at c.args.known.now.items c.args.at c.args.value c.replace-old.new.dest c.index_mut.result.now c.index_mut.ensures.value c.replace-old.ensures.after
