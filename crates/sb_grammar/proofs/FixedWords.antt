-- What follows a choice of fixed words begins with none of them.
use Rattle.std.proofs.Common.{◌≡◌, ℕ, zero, suc, Bool, true, false, List, [], ◌∷◌, Option, Some, None, refl, sym, ap, ◌∙◌}
use Rattle.std.specs.Prelude.{if◌then◌else◌, codes}
use Rattle.std.specs.List.{list_any}
use Rattle.sb_lex.specs.declared.token.TokenKind.{TokenKind}
use Rattle.sb_lex.specs.declared.token.TokenKind.TheVariants as tokens
use Rattle.sb_grammar.specs.declared.lexeme.Lexeme.{Lexeme}
use Rattle.sb_grammar.specs.declared.tree.Expr.{Expr}
use Rattle.sb_grammar.specs.declared.tree.Expr.TheVariants as e
use Rattle.sb_grammar.specs.declared.tree.Condition.TheVariants as conditions
use Rattle.sb_grammar.specs.declared.tree.Comparison.TheVariants as comparisons
use Rattle.sb_grammar.specs.declared.tree.Bracketed.TheVariants.{Value}
use Rattle.sb_grammar.specs.declared.tree.Columns.TheVariants as columns_are
use Rattle.sb_grammar.specs.declared.tree.Column.TheVariants as column_is
use Rattle.sb_grammar.specs.declared.tree.Change.TheVariants as change_is
use Rattle.sb_grammar.specs.declared.tree.Statement.TheVariants as s
use Rattle.sb_grammar.specs.declared.word.Fixed.{Fixed}
use Rattle.sb_grammar.specs.declared.word.Fixed.TheVariants as fixed
use Rattle.sb_grammar.specs.Words.{is_fixed, fixed_at, example, kind}
use Rattle.sb_grammar.specs.Rules.{token, map_rule, ended, Any, Rests, push_step, singleton, loop, most}
use Rattle.sb_grammar.specs.Values.{sign, word, name_of, name_by, is_reserved, variable, variable_of, variable_by, example_variable, text_of, text_value, number_of, number_value, phrase}
use Rattle.sb_grammar.specs.Exprs.{literal_of, literal_by, literal, literal_item, comparison_of, is_null, compared, compare_by, cast_of, unbracketed, unbracketed_item, operand, sum, sum_of, more_sum, join_step, sign_of, NoSign, drop_unit}
use Rattle.sb_grammar.specs.Definitions.{commas}
use Rattle.sb_grammar.specs.Dialogs.{described, error_ending, body_as, column, column_of, plain_column, named_columns, some_columns, assignments, NoComma}
use Rattle.sb_grammar.specs.RowStatements.{set_variable}
use Rattle.sb_grammar.specs.Stops.{Stops}
use Rattle.sb_grammar.specs.Choices.{BeginsNot}
use Rattle.sb_grammar.proofs.Words.{alike, kind_is, off, AllOff, all_off, was_fixed, fixed_none, not_true}
use Rattle.sb_grammar.proofs.ChoiceForms.{Excludes, token-not, bind-not, map-not, also-not, alt-not}

pub word_apart : (w v : Fixed) → alike w v ≡ false → Excludes (fixed_at w) (fixed_at v)
word_apart w v apart t b h = fixed_none v t (off w v t (was_fixed w t b h) apart)

-- ---- expressions

-- a word or sign other than NULL is no literal
pub no_literal : (w : Fixed) → alike w fixed.Null ≡ false → ((t : Lexeme) → literal_by (kind w) t ≡ None) → Excludes (fixed_at w) literal_of
unfolding literal_of
no_literal w apart none t b h =
    let is = was_fixed w t b h in
    ap (λ (c : Bool). if c then Some e.Null else literal_by t.kind t) (off w fixed.Null t is apart) ∙ ap (λ (k : TokenKind). literal_by k t) (kind_is w t is) ∙ none t

open_literal : BeginsNot (fixed_at fixed.Open) literal
open_literal = token-not (fixed_at fixed.Open) literal_of (example fixed.Null) e.Null (no_literal fixed.Open refl (λ t. refl))

pub cast_literal : BeginsNot (fixed_at fixed.Cast) literal
cast_literal = token-not (fixed_at fixed.Cast) literal_of (example fixed.Null) e.Null (no_literal fixed.Cast refl (λ t. refl))

pub open_unbracketed : (n : ℕ) → BeginsNot (fixed_at fixed.Open) (unbracketed (sum n))
open_unbracketed n = alt-not (fixed_at fixed.Open) (fixed_at fixed.Cast) (λ _. cast_of (sum n)) literal Any (word_apart fixed.Open fixed.Cast refl) open_literal

pub cast_item : BeginsNot (fixed_at fixed.Cast) literal_item
cast_item = map-not (fixed_at fixed.Cast) Value literal cast_literal

pub open_item : (n : ℕ) → BeginsNot (fixed_at fixed.Open) (unbracketed_item (sum n))
open_item n = alt-not (fixed_at fixed.Open) (fixed_at fixed.Cast) (λ _. map_rule Value (cast_of (sum n))) literal_item Any (word_apart fixed.Open fixed.Cast refl) (map-not (fixed_at fixed.Open) Value literal open_literal)

pub not_null : (l : Expr) → BeginsNot (fixed_at fixed.Not) (is_null l)
not_null l = map-not (fixed_at fixed.Not) (drop_unit (conditions.IsNull l)) (sign fixed.Null) (token-not (fixed_at fixed.Not) (fixed_at fixed.Null) (example fixed.Null) tt (word_apart fixed.Not fixed.Null refl))

is_comparison : Excludes (fixed_at fixed.Is) comparison_of
unfolding comparison_of
is_comparison t b h =
    let o : AllOff (fixed.Equals ∷ fixed.NotEqual ∷ fixed.Less ∷ fixed.Greater ∷ []) t = all_off fixed.Is t (was_fixed fixed.Is t b h) (fixed.Equals ∷ fixed.NotEqual ∷ fixed.Less ∷ fixed.Greater ∷ []) refl in
    rw (o.0, o.1.0, o.1.1.0, o.1.1.1.0)

pub is_compared : (n : ℕ) (l : Expr) → BeginsNot (fixed_at fixed.Is) (compared (sum n) l)
is_compared n l = bind-not (fixed_at fixed.Is) (token comparison_of (example fixed.Equals) comparisons.Equal) (compare_by (sum n) l) NoSign (token-not (fixed_at fixed.Is) comparison_of (example fixed.Equals) comparisons.Equal is_comparison)

n_literal : BeginsNot (fixed_at fixed.N) literal
n_literal = token-not (fixed_at fixed.N) literal_of (example fixed.Null) e.Null (no_literal fixed.N refl (λ t. refl))

n_operand : (n : ℕ) → BeginsNot (fixed_at fixed.N) (operand n)
unfolding operand
n_operand zero = n_literal
n_operand (suc n) =
    alt-not (fixed_at fixed.N) (fixed_at fixed.Open) (λ _. ended (sum_of (operand n)) (sign fixed.Close)) (unbracketed (sum_of (operand n))) Any (word_apart fixed.N fixed.Open refl)
    (alt-not (fixed_at fixed.N) (fixed_at fixed.Cast) (λ _. cast_of (sum_of (operand n))) literal Any (word_apart fixed.N fixed.Cast refl) n_literal)

-- no expression begins with the word N
pub n_sum : (n : ℕ) → BeginsNot (fixed_at fixed.N) (sum n)
unfolding sum_of
n_sum n = bind-not (fixed_at fixed.N) (operand n) (more_sum (operand n)) (Rests sign_of (join_step (operand n))) (n_operand n)

pub n_change : (n : ℕ) → BeginsNot (fixed_at fixed.N) (map_rule change_is.Number (sum n))
n_change n = map-not (fixed_at fixed.N) change_is.Number (sum n) (n_sum n)

-- ---- parts of statements

pub cleanup_error : (n : ℕ) → BeginsNot (fixed_at fixed.Cleanup) (error_ending (sum n))
unfolding phrase
cleanup_error n = also-not (fixed_at fixed.Cleanup) (phrase (fixed.Error ∷ fixed.Equals ∷ [])) (described (sum n))
    (also-not (fixed_at fixed.Cleanup) (sign fixed.Error) (phrase (fixed.Equals ∷ [])) (token-not (fixed_at fixed.Cleanup) (fixed_at fixed.Error) (example fixed.Error) tt (word_apart fixed.Cleanup fixed.Error refl)))

-- a word or sign is no variable
word_variable : (w : Fixed) → ((value : List ℕ) → variable_by (kind w) value ≡ None) → Excludes (fixed_at w) variable_of
unfolding variable_of
word_variable w none t b h = ap (λ (k : TokenKind). variable_by k t.value) (kind_is w t (was_fixed w t b h)) ∙ none t.value

pub no_count_variable : (n : ℕ) → BeginsNot (fixed_at fixed.NoCount) (set_variable (sum n))
no_count_variable n = bind-not (fixed_at fixed.NoCount) variable (λ v. word fixed.Equals (map_rule (s.Set v) (sum n))) Stops (token-not (fixed_at fixed.NoCount) variable_of example_variable (codes "@") (word_variable fixed.NoCount (λ value. refl)))

abbrev column_words : List Fixed
column_words = fixed.ConversationHandle ∷ fixed.ConversationGroupId ∷ fixed.MessageTypeName ∷ fixed.MessageSequenceNumber ∷ fixed.MessageBody ∷ []

no_column : (t : Lexeme) → AllOff column_words t → column_of t ≡ None
unfolding column_of
no_column t (a, (b, (c, (d, (e, _))))) = rw (a, b, c, d, e)

word_column : (w : Fixed) → list_any (alike w) column_words ≡ false → Excludes (fixed_at w) column_of
word_column w apart t b h = no_column t (all_off w t (was_fixed w t b h) column_words apart)

pub cast_column : BeginsNot (fixed_at fixed.Cast) plain_column
cast_column = token-not (fixed_at fixed.Cast) column_of (example fixed.MessageBody) column_is.Body (word_column fixed.Cast refl)

-- nothing else than CAST and the columns begins a column
begins_column : {B : Type 0} (f : Lexeme → Option B) → Excludes f (fixed_at fixed.Cast) → Excludes f column_of → BeginsNot f named_columns
unfolding commas column
begins_column f casts plain = map-not f columns_are.Named (commas column)
    (bind-not f (map_rule singleton column) (λ all. loop most (fixed_at fixed.Comma) (push_step column) all) (Rests (fixed_at fixed.Comma) (push_step column))
    (map-not f singleton column (alt-not f (fixed_at fixed.Cast) (λ _. body_as) plain_column Any casts (token-not f column_of (example fixed.MessageBody) column_is.Body plain))))

variable_kind : (k : TokenKind) (value v : List ℕ) → variable_by k value ≡ Some v → k ≡ tokens.Variable
variable_kind tokens.Variable value v h = refl
variable_kind _ value v h = absurd cc

-- a variable is no word
variable_off : (w : Fixed) → (tokens.Variable ≡ kind w → ⊥) → (t : Lexeme) (v : List ℕ) → variable_of t ≡ Some v → is_fixed w t ≡ false
unfolding variable_of
variable_off w other t v h = not_true (is_fixed w t) (λ k. other (sym (variable_kind t.kind t.value v h) ∙ kind_is w t k))

no_word : tokens.Variable ≡ tokens.Word → ⊥
no_word e = cc

variable_column : Excludes variable_of column_of
variable_column t v h = no_column t
    (variable_off fixed.ConversationHandle no_word t v h, (variable_off fixed.ConversationGroupId no_word t v h, (variable_off fixed.MessageTypeName no_word t v h, (variable_off fixed.MessageSequenceNumber no_word t v h, (variable_off fixed.MessageBody no_word t v h, tt)))))

pub variable_columns : BeginsNot variable_of named_columns
variable_columns = begins_column variable_of (λ t v h. fixed_none fixed.Cast t (variable_off fixed.Cast no_word t v h)) variable_column

pub star_columns : BeginsNot (fixed_at fixed.Star) some_columns
star_columns = alt-not (fixed_at fixed.Star) variable_of (λ v. map_rule columns_are.Assigned (assignments v)) named_columns NoComma (word_variable fixed.Star (λ value. refl))
    (begins_column (fixed_at fixed.Star) (word_apart fixed.Star fixed.Cast refl) (word_column fixed.Star refl))

any_reserved : (t : Lexeme) → is_fixed fixed.Any t ≡ true → is_reserved t ≡ true
unfolding is_reserved
any_reserved t h = rw h

pub any_name : (t : Lexeme) → is_fixed fixed.Any t ≡ true → name_of t ≡ None
unfolding name_of
any_name t h = ap (λ (k : TokenKind). name_by k (is_reserved t) t.value) (kind_is fixed.Any t h) ∙ ap (λ (b : Bool). name_by tokens.Word b t.value) (any_reserved t h)

-- a word is neither a text nor a number
pub word_text : (w : Fixed) → ((value : List ℕ) → text_value (kind w) value ≡ None) → (t : Lexeme) → is_fixed w t ≡ true → text_of t ≡ None
unfolding text_of
word_text w none t h = ap (λ (k : TokenKind). text_value k t.value) (kind_is w t h) ∙ none t.value

pub any_text : (t : Lexeme) → is_fixed fixed.Any t ≡ true → text_of t ≡ None
any_text = word_text fixed.Any (λ value. refl)

word_number : (w : Fixed) → ((value : List ℕ) → number_value (kind w) value ≡ None) → (t : Lexeme) → is_fixed w t ≡ true → number_of t ≡ None
unfolding number_of
word_number w none t h = ap (λ (k : TokenKind). number_value k t.value) (kind_is w t h) ∙ none t.value

pub default_number : (t : Lexeme) → is_fixed fixed.Default t ≡ true → number_of t ≡ None
default_number = word_number fixed.Default (λ value. refl)

pub max_number : (t : Lexeme) → is_fixed fixed.Max t ≡ true → number_of t ≡ None
max_number = word_number fixed.Max (λ value. refl)

pub null_literal : (t : Lexeme) → is_fixed fixed.Null t ≡ true → literal_by t.kind t ≡ None
null_literal t h = ap (λ (k : TokenKind). literal_by k t) (kind_is fixed.Null t h)
