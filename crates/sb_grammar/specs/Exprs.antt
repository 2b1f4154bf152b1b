-- Expressions and conditions.
use Rattle.std.specs.Prelude.{◌≡◌, ℕ, zero, suc, List, [], ◌∷◌, ◌++◌, codes, Option, Some, None, if◌then◌else◌}
use Rattle.std.specs.Str.{str_eq_ignore_ascii_case}
use Rattle.std.specs.Option.{option_map}
use Rattle.sb_lex.specs.declared.token.TokenKind.{TokenKind}
use Rattle.sb_lex.specs.declared.token.TokenKind.TheVariants as tokens
use Rattle.sb_grammar.specs.declared.lexeme.Lexeme.{Lexeme}
use Rattle.sb_grammar.specs.declared.tree.Sign.{Sign}
use Rattle.sb_grammar.specs.declared.tree.Sign.TheVariants as signs
use Rattle.sb_grammar.specs.declared.tree.Comparison.{Comparison}
use Rattle.sb_grammar.specs.declared.tree.Comparison.TheVariants as comparisons
use Rattle.sb_grammar.specs.declared.tree.Expr.{Expr, out-Expr}
use Rattle.sb_grammar.specs.declared.tree.Expr.TheOpen.{Expr-F}
use Rattle.sb_grammar.specs.declared.tree.Expr.TheVariants as e
use Rattle.sb_grammar.specs.declared.tree.Term.{Term, roll-Term}
use Rattle.sb_grammar.specs.declared.tree.Condition.{Condition, out-Condition}
use Rattle.sb_grammar.specs.declared.tree.Condition.TheOpen.{Condition-F}
use Rattle.sb_grammar.specs.declared.tree.Condition.TheVariants as conditions
use Rattle.sb_grammar.specs.declared.tree.Bracketed.{Bracketed}
use Rattle.sb_grammar.specs.declared.tree.Bracketed.TheVariants.{Value, Test}
use Rattle.sb_grammar.specs.declared.word.Fixed.TheVariants as fixed
use Rattle.sb_grammar.specs.Words.{is_fixed, fixed_at, example}
use Rattle.sb_grammar.specs.Rules.{Rule, Toks, token, ended, alt, bind, map_rule, pure, loop, Rests, head, most, Any}
use Rattle.sb_grammar.specs.Values.{sign, word, text_by, number_of, kind}

abbrev pub variable_expr : List ℕ → Option Expr
variable_expr value = if str_eq_ignore_ascii_case value (codes "@@ROWCOUNT") then Some e.RowCount else option_map e.Variable (text_by value)

abbrev pub text_expr : List ℕ → Option Expr
text_expr value = option_map e.Text (text_by value)

abbrev pub number_expr : Lexeme → Option Expr
number_expr t = option_map e.Number (number_of t)

abbrev pub literal_by : TokenKind → Lexeme → Option Expr
literal_by tokens.Number t = number_expr t
literal_by tokens.Text t = text_expr t.value
literal_by tokens.Binary t = Some (e.Bytes t.value)
literal_by tokens.Variable t = variable_expr t.value
literal_by _ t = None

-- NULL, a literal, a variable or `@@ROWCOUNT`
unfoldable pub literal_of : Lexeme → Option Expr
literal_of t = if is_fixed fixed.Null t then Some e.Null else literal_by t.kind t

abbrev pub literal : Rule Expr
literal = token literal_of (example fixed.Null) e.Null

unfoldable pub sign_of : Lexeme → Option Sign
sign_of t = if is_fixed fixed.Plus t then Some signs.Plus else (if is_fixed fixed.Minus t then Some signs.Minus else None)

abbrev pub joined_at : Expr → Term → Expr-F Expr Term → Expr
joined_at l t (Expr-F.Sum first terms) = e.Sum first (terms ++ t ∷ [])
joined_at l t _ = e.Sum l (t ∷ [])

-- a sum gets one more term; what else stands before the sign begins one
abbrev pub joined : Sign → Expr → Expr → Expr
joined s l r = joined_at l (roll-Term (record { sign = s; operand = r })) (out-Expr l)

abbrev pub join_step : Rule Expr → Sign → Expr → Rule Expr
join_step operand s l = map_rule (joined s l) operand

-- an expression that begins with this operand, from left to right
abbrev pub more_sum : Rule Expr → Expr → Rule Expr
more_sum operand l = loop most sign_of (join_step operand) l

-- operands with signs between, from left to right
unfoldable pub sum_of : Rule Expr → Rule Expr
sum_of operand = bind operand (more_sum operand) (Rests sign_of (join_step operand))

-- behind CAST
unfoldable pub cast_of : Rule Expr → Rule Expr
cast_of sum = word fixed.Open (bind sum (λ x. word fixed.As (ended (map_rule (e.Cast x) kind) (sign fixed.Close))) Any)

-- an operand that isn't in brackets
abbrev pub unbracketed : Rule Expr → Rule Expr
unbracketed sum = alt (fixed_at fixed.Cast) (λ _. cast_of sum) literal Any

-- With so many levels of brackets and CASTs left.
unfoldable pub operand : ℕ → Rule Expr
operand zero = literal
operand (suc n) =
    alt (fixed_at fixed.Open) (λ _. ended (sum_of (operand n)) (sign fixed.Close)) (unbracketed (sum_of (operand n))) Any

abbrev pub sum : ℕ → Rule Expr
sum n = sum_of (operand n)

-- ---- conditions

unfoldable pub comparison_of : Lexeme → Option Comparison
comparison_of t =
    if is_fixed fixed.Equals t then Some comparisons.Equal
    else (if is_fixed fixed.NotEqual t then Some comparisons.NotEqual
    else (if is_fixed fixed.Less t then Some comparisons.Less
    else (if is_fixed fixed.Greater t then Some comparisons.Greater else None)))

abbrev pub NoSign : Toks → Type 0
NoSign follow = head sign_of follow ≡ None

abbrev pub drop_unit : Condition → Unit {0} → Condition
drop_unit c _ = c

abbrev pub is_null : Expr → Rule Condition
is_null l = map_rule (drop_unit (conditions.IsNull l)) (sign fixed.Null)

-- behind IS
unfoldable pub null_test : Expr → Rule Condition
null_test l = alt (fixed_at fixed.Not) (λ _. map_rule (drop_unit (conditions.IsNotNull l)) (sign fixed.Null)) (is_null l) Any

abbrev pub compare_by : Rule Expr → Expr → Comparison → Rule Condition
compare_by sum l c = map_rule (conditions.Compare c l) sum

-- a comparison with another expression
abbrev pub compared : Rule Expr → Expr → Rule Condition
compared sum l = bind (token comparison_of (example fixed.Equals) comparisons.Equal) (compare_by sum l) NoSign

-- behind an expression, as a test of it
unfoldable pub relation : Rule Expr → Expr → Rule Condition
relation sum l = alt (fixed_at fixed.Is) (λ _. null_test l) (compared sum l) NoSign

-- nothing that tests an expression
pub record Plain (follow : Toks) : Type 0 where
  pub sign : NoSign follow
  pub is : head (fixed_at fixed.Is) follow ≡ None
  pub comparison : head comparison_of follow ≡ None
  pub also : head (fixed_at fixed.And) follow ≡ None
  pub other : head (fixed_at fixed.Or) follow ≡ None

-- behind an expression in brackets: a test of it, or nothing
unfoldable pub relation_maybe : Rule Expr → Expr → Rule Bracketed
relation_maybe sum l =
    alt (fixed_at fixed.Is) (λ _. map_rule Test (null_test l))
    (alt comparison_of (λ c. map_rule Test (compare_by sum l c)) (pure (Value l)) Plain) Plain

-- a test that begins so, outside brackets
abbrev pub test_by : Rule Expr → Rule Expr → Bracketed → Rule Condition
test_by operand sum (Test c) = pure c
test_by operand sum (Value v) = bind (more_sum operand v) (relation sum) NoSign

-- the same within brackets, where it may be an expression
abbrev pub inner_by : Rule Expr → Rule Expr → Bracketed → Rule Bracketed
inner_by operand sum (Test c) = pure (Test c)
inner_by operand sum (Value v) = bind (more_sum operand v) (relation_maybe sum) Plain

-- one test, where the first rule reads its beginning
unfoldable pub test_of : Rule Bracketed → Rule Expr → Rule Expr → Rule Condition
test_of item operand sum = bind item (test_by operand sum) NoSign

abbrev pub and_at : Condition → Condition → Condition-F Condition → Condition
and_at l r (Condition-F.All tests) = conditions.All (tests ++ r ∷ [])
and_at l r _ = conditions.All (l ∷ r ∷ [])

-- one more condition joined by AND
abbrev pub and : Condition → Condition → Condition
and l r = and_at l r (out-Condition l)

abbrev pub and_step : Rule Condition → Unit {0} → Condition → Rule Condition
and_step test _ l = map_rule (and l) test

abbrev pub or_at : Condition → Condition → Condition-F Condition → Condition
or_at l r (Condition-F.Any tests) = conditions.Any (tests ++ r ∷ [])
or_at l r _ = conditions.Any (l ∷ r ∷ [])

-- one more condition joined by OR
abbrev pub or : Condition → Condition → Condition
or l r = or_at l r (out-Condition l)

abbrev pub or_step : Rule Condition → Unit {0} → Condition → Rule Condition
or_step conjunction _ l = map_rule (or l) conjunction

-- nothing that a condition goes on with
pub record Ended (follow : Toks) : Type 0 where
  pub sign : NoSign follow
  pub also : head (fixed_at fixed.And) follow ≡ None
  pub other : head (fixed_at fixed.Or) follow ≡ None

abbrev pub more_tests : Rule Condition → Condition → Rule Condition
more_tests test c = loop most (fixed_at fixed.And) (and_step test) c

-- tests joined by AND
unfoldable pub conjunction_of : Rule Condition → Rule Condition
conjunction_of test = bind test (more_tests test) Ended

abbrev pub more_conjunctions : Rule Condition → Condition → Rule Condition
more_conjunctions conjunction c = loop most (fixed_at fixed.Or) (or_step conjunction) c

-- these joined by OR
unfoldable pub condition_of : Rule Condition → Rule Condition
condition_of conjunction = bind conjunction (more_conjunctions conjunction) Ended

-- the rest of what stands in brackets, once its first test or its expression is read
abbrev pub bracket_by : Rule Condition → Rule Condition → Bracketed → Rule Bracketed
bracket_by test conjunction (Value v) = pure (Value v)
bracket_by test conjunction (Test c) = map_rule Test (bind (more_tests test c) (more_conjunctions conjunction) Ended)

-- an expression or a condition in brackets, where the first rule reads its beginning
unfoldable pub bracketed_of : Rule Bracketed → Rule Expr → Rule Expr → Rule Condition → Rule Condition → Rule Bracketed
bracketed_of item operand sum test conjunction = bind (bind item (inner_by operand sum) Plain) (bracket_by test conjunction) Plain

abbrev pub literal_item : Rule Bracketed
literal_item = map_rule Value literal

-- the beginning of a test, if it isn't in brackets
abbrev pub unbracketed_item : Rule Expr → Rule Bracketed
unbracketed_item sum = alt (fixed_at fixed.Cast) (λ _. map_rule Value (cast_of sum)) literal_item Any

-- the beginning of a test, with so many levels left
unfoldable pub item : ℕ → Rule Bracketed
item zero = literal_item
item (suc n) =
    alt (fixed_at fixed.Open)
    (λ _. ended (bracketed_of (item n) (operand n) (sum n) (test_of (item n) (operand n) (sum n)) (conjunction_of (test_of (item n) (operand n) (sum n)))) (sign fixed.Close))
    (unbracketed_item (sum n)) Any

abbrev pub test : ℕ → Rule Condition
test n = test_of (item n) (operand n) (sum n)

abbrev pub conjunction : ℕ → Rule Condition
conjunction n = conjunction_of (test n)

abbrev pub condition : ℕ → Rule Condition
condition n = condition_of (conjunction n)

abbrev pub bracketed : ℕ → Rule Bracketed
bracketed n = bracketed_of (item n) (operand n) (sum n) (test n) (conjunction n)
