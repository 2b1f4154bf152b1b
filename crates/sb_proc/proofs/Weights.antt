-- How many statements are left, those within others counted.
use Rattle.std.proofs.Common.{◌≡◌, ℕ, ◌+◌, ◌<◌, Bool, true, false, List, [], ◌∷◌, ◌++◌, map, Option, Some, None, refl, sym, ap, ◌∙◌, arith}
use Rattle.sb_grammar.specs.declared.tree.Statement.{Statement, out-Statement, roll-Statement, roll-out-Statement}
use Rattle.sb_grammar.specs.declared.tree.Statement.TheOpen.{Statement-F}
use Rattle.sb_grammar.specs.declared.tree.Statement.TheFolds.{fold-Statement, fold-roll-Statement}
use Rattle.sb_proc.specs.Steps.{left_at}

abbrev pub all_of : List ℕ → ℕ
all_of [] = 0
all_of (n ∷ ns) = n + all_of ns

abbrev perhaps_of : Option ℕ → ℕ
perhaps_of None = 0
perhaps_of (Some n) = n

-- a statement, by how many its parts are
abbrev pub weight_by : Statement-F ℕ → ℕ
weight_by (Statement-F.If condition taken passed) = 1 + (taken + perhaps_of passed)
weight_by (Statement-F.Block all) = 1 + all_of all
weight_by _ = 1

unfoldable pub weight : Statement → ℕ
weight = fold-Statement ℕ weight_by

unfoldable pub weights : List Statement → ℕ
weights [] = 0
weights (x ∷ xs) = weight x + weights xs

abbrev pub maybe_weight : Option Statement → ℕ
maybe_weight None = 0
maybe_weight (Some x) = weight x

-- a statement, by its parts
abbrev pub layer_weight : Statement-F Statement → ℕ
layer_weight (Statement-F.If condition taken passed) = 1 + (weight taken + maybe_weight passed)
layer_weight (Statement-F.Block all) = 1 + weights all
layer_weight _ = 1

all_weigh : (xs : List Statement) → all_of (map weight xs) ≡ weights xs
unfolding weights
all_weigh [] = refl
all_weigh (x ∷ xs) = ap (λ n. weight x + n) (all_weigh xs)

pub weights_append : (xs ys : List Statement) → weights (xs ++ ys) ≡ weights xs + weights ys
unfolding weights
weights_append [] ys = omega arith
weights_append (x ∷ xs) ys = omega (arith, weights_append xs ys)

weights_none : weights [] ≡ 0
unfolding weights
weights_none = refl

pub weights_cons : (x : Statement) (xs : List Statement) → weights (x ∷ xs) ≡ weight x + weights xs
unfolding weights
weights_cons x xs = refl

-- what a layer's parts weigh
layer_is : (y : Statement-F Statement) → weight (roll-Statement y) ≡ layer_weight y
unfolding weight
layer_is (Statement-F.If condition taken None) = fold-roll-Statement ℕ weight_by (Statement-F.If condition taken None)
layer_is (Statement-F.If condition taken (Some passed)) = fold-roll-Statement ℕ weight_by (Statement-F.If condition taken (Some passed))
layer_is (Statement-F.Block all) = fold-roll-Statement ℕ weight_by (Statement-F.Block all) ∙ ap (λ n. 1 + n) (all_weigh all)
layer_is y = fold-roll-Statement ℕ weight_by y

pub out_weighs : (x : Statement) → weight x ≡ layer_weight (out-Statement x)
out_weighs x = ap weight (sym (roll-out-Statement x)) ∙ layer_is (out-Statement x)

-- what stands in the place of a statement weighs less
pub left_weighs : (b : Bool) (y : Statement-F Statement) (rest : List Statement) → weights (left_at b y rest) < layer_weight y + weights rest
left_weighs true (Statement-F.If condition taken None) rest = omega (arith, weights_append (taken ∷ []) rest, weights_cons taken [], weights_none)
left_weighs true (Statement-F.If condition taken (Some passed)) rest = omega (arith, weights_append (taken ∷ []) rest, weights_cons taken [], weights_none)
left_weighs false (Statement-F.If condition taken None) rest = omega (arith, weights_append [] rest, weights_none)
left_weighs false (Statement-F.If condition taken (Some passed)) rest = omega (arith, weights_append (passed ∷ []) rest, weights_cons passed [], weights_none)
left_weighs b (Statement-F.Block all) rest = omega (arith, weights_append all rest)
left_weighs b Statement-F.Return rest = omega (arith, weights_none)
left_weighs b _ rest = omega arith
