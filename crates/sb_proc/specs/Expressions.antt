-- What an expression comes to, or its first fault. Every part is computed, in the order written.
use Rattle.std.specs.Prelude.{ℤ, Bool, true, false, not, ◌&&◌, ◌||◌, List, Option, Some, None, Result, Ok}
use Rattle.sb_log.specs.declared.identifiers.Handle.{Handle}
use Rattle.sb_log.specs.declared.refusals.ValueKind.{ValueKind}
use Rattle.sb_log.specs.declared.refusals.ValueKind.TheVariants as kind
use Rattle.sb_model.specs.Sides.{Bytes}
use Rattle.sb_grammar.specs.declared.tree.Comparison.{Comparison}
use Rattle.sb_grammar.specs.declared.tree.Comparison.TheVariants as comparison
use Rattle.sb_grammar.specs.declared.tree.Condition.{Condition}
use Rattle.sb_grammar.specs.declared.tree.Condition.TheOpen.{Condition-F}
use Rattle.sb_grammar.specs.declared.tree.Condition.TheFolds.{fold-Condition}
use Rattle.sb_grammar.specs.declared.tree.Expr.{Expr}
use Rattle.sb_grammar.specs.declared.tree.Expr.TheOpen.{Expr-F}
use Rattle.sb_grammar.specs.declared.tree.Expr.TheFolds.{fold-Expr}
use Rattle.sb_grammar.specs.declared.tree.Sign.{Sign}
use Rattle.sb_grammar.specs.declared.tree.Sign.TheVariants as sign
use Rattle.sb_grammar.specs.declared.tree.Term.{Term}
use Rattle.sb_value.specs.declared.fault.Fault.{Fault}
use Rattle.sb_value.specs.declared.value.Value.{Value}
use Rattle.sb_value.specs.declared.value.Value.TheVariants as values
use Rattle.sb_value.specs.Faults.{and_then, want}
use Rattle.sb_value.specs.Results.{plus, minus, is_equal, is_less}
use Rattle.sb_value.specs.Values.{is_null, as_number, as_text, as_bytes, as_identifier, cast}
use Rattle.sb_proc.specs.Folds.{try_fold}
use Rattle.sb_proc.specs.Scopes.{Scope, declared_first}

-- a value, or why there is none
abbrev pub Came : Type 0
Came = Result Value Fault

abbrev pub by_sign : Sign → Value → Value → Came
by_sign sign.Plus = plus
by_sign sign.Minus = minus

-- a value with what a signed operand came to
abbrev pub with_operand : Value → Sign × Came → Came
with_operand so_far t = and_then t.1 (by_sign t.0 so_far)

abbrev pub variable_value : Scope → Bytes → Came
variable_value s name = declared_first s name (λ x. Ok x.value)

abbrev pub cast_to : ValueKind → Value → Came
cast_to k v = want (cast k v) k Ok

-- an expression, by what its parts come to; a sum goes from left to right
abbrev pub value_by : Scope → Expr-F Came (Sign × Came) → Came
value_by s Expr-F.Null = Ok values.Null
value_by s (Expr-F.Number n) = Ok (values.Number n)
value_by s (Expr-F.Text text) = Ok (values.Text text)
value_by s (Expr-F.Bytes bytes) = Ok (values.Bytes bytes)
value_by s (Expr-F.Variable name) = variable_value s name
value_by s Expr-F.RowCount = Ok (values.Number s.rows)
value_by s (Expr-F.Sum first terms) = and_then first (λ x. try_fold with_operand x terms)
value_by s (Expr-F.Cast e k) = and_then e (cast_to k)

-- the value of an expression
abbrev pub value_of : Scope → Expr → Came
value_of s = fold-Expr Came (Sign × Came) (value_by s) (λ t. (t.sign, t.operand))

-- a value with the term behind it
abbrev pub with_term : Scope → Value → Term → Came
with_term s so_far t = and_then (value_of s t.operand) (by_sign t.sign so_far)

-- ---- conditions

-- nothing differs from NULL
abbrev pub differs : Value → Value → Result Bool Fault
differs a b = and_then (is_equal a b) (λ same. Ok (not (same || is_null a || is_null b)))

-- a comparison with NULL is false
abbrev pub compared : Comparison → Value → Value → Result Bool Fault
compared comparison.Equal a b = is_equal a b
compared comparison.NotEqual a b = differs a b
compared comparison.Less a b = is_less a b
compared comparison.Greater a b = is_less b a

-- both sides are computed, the left one first
abbrev pub related : Scope → Comparison → Expr → Expr → Result Bool Fault
related s c l r = and_then (value_of s l) (λ x. and_then (value_of s r) (compared c x))

abbrev pub comes_to_null : Scope → Expr → Result Bool Fault
comes_to_null s e = and_then (value_of s e) (λ v. Ok (is_null v))

-- AND and OR cut nothing short
abbrev pub and_also : Bool → Result Bool Fault → Result Bool Fault
and_also so_far test = and_then test (λ holds. Ok (so_far && holds))

abbrev pub or_else : Bool → Result Bool Fault → Result Bool Fault
or_else so_far test = and_then test (λ holds. Ok (so_far || holds))

-- a condition, by whether its parts hold
abbrev pub holds_by : Scope → Condition-F (Result Bool Fault) → Result Bool Fault
holds_by s (Condition-F.Compare c l r) = related s c l r
holds_by s (Condition-F.IsNull e) = comes_to_null s e
holds_by s (Condition-F.IsNotNull e) = and_then (comes_to_null s e) (λ null. Ok (not null))
holds_by s (Condition-F.All tests) = try_fold and_also true tests
holds_by s (Condition-F.Any tests) = try_fold or_else false tests

-- whether a condition holds
abbrev pub holds : Scope → Condition → Result Bool Fault
holds s = fold-Condition (Result Bool Fault) (holds_by s)

-- with one more test
abbrev pub and_test : Scope → Bool → Condition → Result Bool Fault
and_test s so_far c = and_also so_far (holds s c)

abbrev pub or_test : Scope → Bool → Condition → Result Bool Fault
or_test s so_far c = or_else so_far (holds s c)

abbrev pub all_hold : Scope → List Condition → Result Bool Fault
all_hold s tests = try_fold (and_test s) true tests

abbrev pub any_holds : Scope → List Condition → Result Bool Fault
any_holds s tests = try_fold (or_test s) false tests

-- ---- an expression where a kind is wanted: NULL is refused

abbrev pub number : Scope → Expr → Result ℤ Fault
number s e = and_then (value_of s e) (λ v. want (as_number v) kind.Bigint Ok)

abbrev pub text : Scope → Expr → Result Bytes Fault
text s e = and_then (value_of s e) (λ v. want (as_text v) kind.Text Ok)

abbrev pub identifier : Scope → Expr → Result Handle Fault
identifier s e = and_then (value_of s e) (λ v. want (as_identifier v) kind.Identifier Ok)

-- ---- and where NULL may stand

abbrev pub or_null : {A : Type 0} → (Value → Option A) → ValueKind → Value → Result (Option A) Fault
or_null convert k values.Null = Ok None
or_null convert k v = want (convert v) k (λ x. Ok (Some x))

abbrev pub number_or_null : Scope → Expr → Result (Option ℤ) Fault
number_or_null s e = and_then (value_of s e) (or_null as_number kind.Bigint)

abbrev pub text_or_null : Scope → Expr → Result (Option Bytes) Fault
text_or_null s e = and_then (value_of s e) (or_null as_text kind.Text)

abbrev pub bytes_or_null : Scope → Expr → Result (Option Bytes) Fault
bytes_or_null s e = and_then (value_of s e) (or_null as_bytes kind.Bytes)

-- an expression that may be left out
abbrev pub if_written : {A : Type 0} → (Expr → Result A Fault) → Option Expr → Result (Option A) Fault
if_written compute None = Ok None
if_written compute (Some e) = and_then (compute e) (λ x. Ok (Some x))
