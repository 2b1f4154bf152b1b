-- What sums and joined conditions come to, by their parts.
use Rattle.std.proofs.Common.{◌≡◌, true, false, List, map, Bool, Result, Ok, sym, ap, ◌∙◌}
use Rattle.sb_grammar.specs.declared.tree.Condition.{Condition}
use Rattle.sb_grammar.specs.declared.tree.Condition.TheOpen.{Condition-F}
use Rattle.sb_grammar.specs.declared.tree.Condition.TheFolds.{fold-roll-Condition}
use Rattle.sb_grammar.specs.declared.tree.Condition.TheVariants as condition
use Rattle.sb_grammar.specs.declared.tree.Expr.{Expr}
use Rattle.sb_grammar.specs.declared.tree.Expr.TheOpen.{Expr-F}
use Rattle.sb_grammar.specs.declared.tree.Expr.TheFolds.{fold-roll-Expr}
use Rattle.sb_grammar.specs.declared.tree.Expr.TheVariants as expr
use Rattle.sb_grammar.specs.declared.tree.Sign.{Sign}
use Rattle.sb_grammar.specs.declared.tree.Term.{Term, fold-Term, fold_out-Term}
use Rattle.sb_value.specs.declared.fault.Fault.{Fault}
use Rattle.sb_value.specs.declared.value.Value.{Value}
use Rattle.sb_value.specs.Faults.{and_then}
use Rattle.sb_proc.specs.Expressions.{Came, value_by, value_of, with_term, with_operand, holds, holds_by, and_also, or_else, all_hold, any_holds}
use Rattle.sb_proc.specs.Folds.{try_fold}
use Rattle.sb_proc.specs.Scopes.{Scope}
use Rattle.sb_proc.proofs.Folds.{then_same, fold_map, fold_same}

-- a term with what its operand came to
abbrev term_came : Scope → Term → Sign × Came
term_came s = fold-Term Came (Sign × Came) (value_by s) (λ t. (t.sign, t.operand))

term_is : (s : Scope) (t : Term) → term_came s t ≡ (t.sign, value_of s t.operand)
term_is s = fold_out-Term Came (Sign × Came) (value_by s) (λ t. (t.sign, t.operand))

terms_are : (s : Scope) (v : Value) (terms : List Term) → try_fold with_operand v (map (term_came s) terms) ≡ try_fold (with_term s) v terms
terms_are s v terms =
    fold_map with_operand (term_came s) v terms
    ∙ fold_same (λ x t. with_operand x (term_came s t)) (with_term s) (λ x t. ap (with_operand x) (term_is s t)) v terms

pub value_sum : (s : Scope) (first : Expr) (terms : List Term) →
    value_of s (expr.Sum first terms) ≡ and_then (value_of s first) (λ x. try_fold (with_term s) x terms)
value_sum s first terms =
    ap (value_of s) (sym (expr.rolls-Sum first terms))
    ∙ fold-roll-Expr Came (Sign × Came) (value_by s) (λ t. (t.sign, t.operand)) (Expr-F.Sum first terms)
    ∙ then_same (value_of s first) (λ x. try_fold with_operand x (map (term_came s) terms)) (λ x. try_fold (with_term s) x terms) (λ x. terms_are s x terms)

-- a sum, where its first operand is computed
pub sum_is : (s : Scope) (whole first got : Expr) (terms taken : List Term) (v : Value) →
    whole ≡ expr.Sum first terms → got ≡ first → taken ≡ terms → value_of s got ≡ Ok v → try_fold (with_term s) v taken ≡ value_of s whole
sum_is s whole first got terms taken v is g t came =
    ap (try_fold (with_term s) v) t
    ∙ ap (λ r. and_then r (λ x. try_fold (with_term s) x terms)) (sym came ∙ ap (value_of s) g)
    ∙ sym (value_sum s first terms) ∙ ap (value_of s) (sym is)

pub holds_all : (s : Scope) (whole : Condition) (tests taken : List Condition) → whole ≡ condition.All tests → taken ≡ tests →
    all_hold s taken ≡ holds s whole
holds_all s whole tests taken is t =
    ap (all_hold s) t ∙ sym (fold_map and_also (holds s) true tests)
    ∙ sym (fold-roll-Condition (Result Bool Fault) (holds_by s) (Condition-F.All tests))
    ∙ ap (holds s) (condition.rolls-All tests ∙ sym is)

pub holds_any : (s : Scope) (whole : Condition) (tests taken : List Condition) → whole ≡ condition.Any tests → taken ≡ tests →
    any_holds s taken ≡ holds s whole
holds_any s whole tests taken is t =
    ap (any_holds s) t ∙ sym (fold_map or_else (holds s) false tests)
    ∙ sym (fold-roll-Condition (Result Bool Fault) (holds_by s) (Condition-F.Any tests))
    ∙ ap (holds s) (condition.rolls-Any tests ∙ sym is)
