-- Statements on rows and variables, behind their first words. The argument is the rule for expressions.
use Rattle.std.specs.Prelude.{◌≡◌, ℕ, Bool, true, false, not, ◌&&◌, List, [], ◌∷◌, Option, Some, None, if◌then◌else◌}
use Rattle.sb_log.specs.declared.refusals.ValueKind.{ValueKind}
use Rattle.sb_grammar.specs.declared.lexeme.Lexeme.{Lexeme}
use Rattle.sb_grammar.specs.declared.tree.Sign.{Sign}
use Rattle.sb_grammar.specs.declared.tree.Sign.TheVariants as signs
use Rattle.sb_grammar.specs.declared.tree.Expr.{Expr}
use Rattle.sb_grammar.specs.declared.tree.Change.{Change}
use Rattle.sb_grammar.specs.declared.tree.Change.TheVariants as change_is
use Rattle.sb_grammar.specs.declared.tree.RowColumn.{RowColumn}
use Rattle.sb_grammar.specs.declared.tree.RowColumn.TheVariants as row_column_is
use Rattle.sb_grammar.specs.declared.tree.Selected.{Selected}
use Rattle.sb_grammar.specs.declared.tree.Declaration.{Declaration}
use Rattle.sb_grammar.specs.declared.tree.Statement.{Statement}
use Rattle.sb_grammar.specs.declared.tree.Statement.TheVariants as s
use Rattle.sb_grammar.specs.declared.choice.ChangeWord.{ChangeWord}
use Rattle.sb_grammar.specs.declared.choice.ChangeWord.TheVariants as change_word
use Rattle.sb_grammar.specs.declared.choice.Changes.{Changes}
use Rattle.sb_grammar.specs.declared.word.Fixed.{Fixed}
use Rattle.sb_grammar.specs.declared.word.Fixed.TheVariants as fixed
use Rattle.sb_grammar.specs.Words.{is_fixed, fixed_at, example}
use Rattle.sb_grammar.specs.Rules.{Rule, Toks, token, also, ended, alt, bind, map_rule, optional, pushed, Any, head, skipped}
use Rattle.sb_grammar.specs.Values.{sign, word, phrase, qname, variable, kind, on_off}
use Rattle.sb_grammar.specs.Exprs.{NoSign, sign_of}
use Rattle.sb_grammar.specs.Options.{Choices, options}
use Rattle.sb_grammar.specs.Definitions.{commas, unbarred, never}
use Rattle.sb_grammar.specs.Stops.{Stops}

-- a word that may stand there, and says nothing
abbrev pub past : Fixed → Rule (Unit {0})
past w = skipped (fixed_at w)

abbrev pub row_key : List Fixed
row_key = fixed.Where ∷ fixed.Id ∷ fixed.Equals ∷ []

abbrev pub insert_columns : List Fixed
insert_columns = fixed.Open ∷ fixed.Id ∷ fixed.Comma ∷ fixed.N ∷ fixed.Comma ∷ fixed.Body ∷ fixed.Close ∷ fixed.Values ∷ fixed.Open ∷ []

-- the three values
unfoldable pub insert_values : Rule Expr → List ℕ → Rule Statement
insert_values x t = bind x (λ i. word fixed.Comma (bind x (λ n. word fixed.Comma (ended (map_rule (s.Insert t i n) x) (sign fixed.Close))) Any)) Any

-- behind INSERT
unfoldable pub insert_rest : Rule Expr → Rule Statement
insert_rest x = also (past fixed.Into) (bind qname (λ t. also (phrase insert_columns) (insert_values x t)) Any)

unfoldable pub change_take : Bool → Bool → Lexeme → Option ChangeWord
change_take number body t =
    if is_fixed fixed.N t && number then Some change_word.Number
    else (if is_fixed fixed.Body t && body then Some change_word.Body else None)

abbrev pub change_next : Bool → Bool → Option ChangeWord
change_next number body = if number then Some change_word.Number else (if body then Some change_word.Body else None)

abbrev pub change_example : ChangeWord → Lexeme
change_example change_word.Number = example fixed.N
change_example change_word.Body = example fixed.Body

abbrev pub signed_change : Sign → Expr → Change
signed_change signs.Plus x = change_is.Add x
signed_change signs.Minus x = change_is.Subtract x

abbrev pub with_number : Changes → Change → Changes
with_number q c = record q { changes = pushed q.changes c; has_number = true }

abbrev pub with_body : Changes → Expr → Changes
with_body q x = record q { changes = pushed q.changes (change_is.Body x); has_body = true }

abbrev pub signed_by : Rule Expr → Sign → Rule Change
signed_by x sign = map_rule (signed_change sign) x

abbrev pub signed : Rule Expr → Rule Change
signed x = bind (token sign_of (example fixed.Plus) signs.Plus) (signed_by x) NoSign

-- `e`, `n + e` or `n - e`
unfoldable pub number_change : Rule Expr → Rule Change
number_change x = alt (fixed_at fixed.N) (λ _. signed x) (map_rule change_is.Number x) NoSign

unfoldable pub change_value : Rule Expr → Changes → ChangeWord → Rule Changes
change_value x q change_word.Number = word fixed.Equals (map_rule (with_number q) (number_change x))
change_value x q change_word.Body = word fixed.Equals (map_rule (with_body q) x)

abbrev pub change_choices : Rule Expr → Choices Changes ChangeWord
change_choices x = record {
  bars = unbarred;
  take = λ q. change_take (not q.has_number) (not q.has_body);
  value = change_value x;
  next = λ q. change_next (not q.has_number) (not q.has_body);
  needs = never;
  example = change_example;
  Ends = NoSign;
}

abbrev pub no_changes : Changes
no_changes = record { changes = []; has_number = false; has_body = false }

abbrev pub changes : Rule Expr → Rule Changes
changes x = options (change_choices x) 1 no_changes

-- the key of a row
abbrev pub key : Rule Expr → Rule Expr
key x = also (phrase row_key) x

abbrev pub update : List ℕ → Changes → Expr → Statement
update t q id = s.Update t q.changes id

-- behind UPDATE
unfoldable pub update_rest : Rule Expr → Rule Statement
update_rest x = bind qname (λ t. word fixed.Set (bind (changes x) (λ q. map_rule (update t q) (key x)) Stops)) Stops

-- behind DELETE
unfoldable pub delete_rest : Rule Expr → Rule Statement
delete_rest x = also (past fixed.From) (bind qname (λ t. map_rule (s.Delete t) (key x)) Stops)

unfoldable pub row_column_of : Lexeme → Option RowColumn
row_column_of t = if is_fixed fixed.N t then Some row_column_is.Number else (if is_fixed fixed.Body t then Some row_column_is.Body else None)

abbrev pub row_column : Rule RowColumn
row_column = token row_column_of (example fixed.N) row_column_is.Number

abbrev pub selected_as : List ℕ → RowColumn → Selected
selected_as v c = record { variable = v; column = c }

unfoldable pub selected : Rule Selected
selected = bind variable (λ v. word fixed.Equals (map_rule (selected_as v) row_column)) Any

-- behind SELECT
unfoldable pub select_rest : Rule Expr → Rule Statement
select_rest x = bind (commas selected) (λ all. word fixed.From (bind qname (λ t. map_rule (s.Select all t) (key x)) Stops)) Stops

abbrev pub declared_as : List ℕ → ValueKind → Option Expr → Declaration
declared_as v k value = record { variable = v; kind = k; value = value }

-- where a declaration may end
pub record DeclarationEnds (follow : Toks) : Type 0 where
  pub equals : head (fixed_at fixed.Equals) follow ≡ None
  pub sign : NoSign follow

unfoldable pub initial_part : Rule Expr → Rule (Option Expr)
initial_part x = optional (fixed_at fixed.Equals) (λ _. x)

unfoldable pub declaration : Rule Expr → Rule Declaration
declaration x = bind variable (λ v. also (past fixed.As) (bind kind (λ k. map_rule (declared_as v k) (initial_part x)) DeclarationEnds)) DeclarationEnds

-- behind DECLARE
unfoldable pub declare_rest : Rule Expr → Rule Statement
declare_rest x = map_rule s.Declare (commas (declaration x))

abbrev pub set_variable : Rule Expr → Rule Statement
set_variable x = bind variable (λ v. word fixed.Equals (map_rule (s.Set v) x)) Stops

-- behind SET
unfoldable pub set_rest : Rule Expr → Rule Statement
set_rest x = alt (fixed_at fixed.NoCount) (λ _. map_rule s.SetNoCount on_off) (set_variable x) Stops
