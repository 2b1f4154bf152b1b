-- The laws of statements on rows and variables.
use Rattle.std.proofs.Common.{◌≡◌, ℕ, Bool, true, false, not, List, [], ◌∷◌, ◌++◌, Some, None, refl}
use Rattle.sb_grammar.specs.declared.tree.Sign.TheVariants as signs
use Rattle.sb_grammar.specs.declared.tree.Expr.{Expr}
use Rattle.sb_grammar.specs.declared.tree.Change.TheVariants as change_is
use Rattle.sb_grammar.specs.declared.tree.RowColumn.TheVariants as row_column_is
use Rattle.sb_grammar.specs.declared.tree.Statement.TheVariants as s
use Rattle.sb_grammar.specs.declared.choice.ChangeWord.{ChangeWord}
use Rattle.sb_grammar.specs.declared.choice.ChangeWord.TheVariants as change_word
use Rattle.sb_grammar.specs.declared.choice.Changes.{Changes}
use Rattle.sb_grammar.specs.declared.word.Fixed.{Fixed}
use Rattle.sb_grammar.specs.declared.word.Fixed.TheVariants as fixed
use Rattle.sb_grammar.specs.Words.{is_fixed, fixed_at, example}
use Rattle.sb_grammar.specs.Rules.{Rule, Toks, token, bind, map_rule, Any, head}
use Rattle.sb_grammar.specs.Values.{phrase, qname, variable, example_variable, kind, on_off}
use Rattle.sb_grammar.specs.Exprs.{NoSign, sign_of}
use Rattle.sb_grammar.specs.Options.{Over, options}
use Rattle.sb_grammar.specs.Definitions.{commas}
use Rattle.sb_grammar.specs.Stops.{Stops}
use Rattle.sb_grammar.specs.RowStatements.{past, key, row_key, insert_columns, insert_values, insert_rest, change_take, change_next, change_example, signed_change, with_number, with_body, signed_by, number_change, change_value, change_choices, no_changes, update, update_rest, delete_rest, row_column_of, selected_as, selected, select_rest, declared_as, DeclarationEnds, initial_part, declaration, declare_rest, set_rest}
use Rattle.sb_grammar.proofs.Sounds.{Sound, under, anywhere, also_open, token-is, map-is, also-is, word-is, phrase-is, ended-is, bind-is, then-is, optional-is, alt-is, commas-is, skipped-is}
use Rattle.sb_grammar.proofs.ValueLaws.{qname-is, variable-is, kind-is, on_off-is}
use Rattle.sb_grammar.proofs.OptionLaws.{Fits, options-is}
use Rattle.sb_grammar.proofs.DefinitionLaws.{fit, none_some}

past-is : (w : Fixed) → Sound (past w) (λ follow. head (fixed_at w) follow ≡ None)
past-is w = skipped-is (fixed_at w) (λ follow. head (fixed_at w) follow ≡ None) (λ follow g. g)

comma_sign : (follow : Toks) → NoSign (example fixed.Comma ∷ follow)
unfolding sign_of is_fixed
comma_sign follow = refl

close_sign : (follow : Toks) → NoSign (example fixed.Close ∷ follow)
unfolding sign_of is_fixed
close_sign follow = refl

insert_values-is : (x : Rule Expr) → Sound x NoSign → (t : List ℕ) → Sound (insert_values x t) Any
unfolding insert_values sign_of is_fixed
insert_values-is x X t =
    bind-is x _ NoSign Any X (λ i. word-is fixed.Comma _ Any (bind-is x _ NoSign Any X (λ n. word-is fixed.Comma _ Any (ended-is (map_rule (s.Insert t i n) x) fixed.Close NoSign (map-is (s.Insert t i n) x NoSign X) close_sign)) (λ n follow g. refl))) (λ i follow g. refl)

pub insert_rest-is : (x : Rule Expr) → Sound x NoSign → Sound (insert_rest x) Any
unfolding insert_rest qname fixed_at is_fixed
insert_rest-is x X = also_open (past fixed.Into) _ (λ follow. head (fixed_at fixed.Into) follow ≡ None) Any (past-is fixed.Into)
    (then-is qname _ Any qname-is (λ t. also-is (phrase insert_columns) (insert_values x t) Any (phrase-is insert_columns) (insert_values-is x X t))) (λ follow. refl)

change_fits : (a b : Bool) (o : ChangeWord) → change_next a b ≡ Some o → change_take a b (change_example o) ≡ Some o
unfolding change_take is_fixed
change_fits true b o e = fit (change_take true b) change_example change_word.Number o refl e
change_fits false true o e = fit (change_take false true) change_example change_word.Body o refl e
change_fits false false o e = none_some o e

plus_example : sign_of (example fixed.Plus) ≡ Some signs.Plus
unfolding sign_of is_fixed
plus_example = refl

number_change-is : (x : Rule Expr) → Sound x NoSign → ((follow : Toks) → head (fixed_at fixed.N) (((x.min) ++ []) ++ follow) ≡ None) → Sound (number_change x) NoSign
unfolding number_change
number_change-is x X apart = alt-is (fixed_at fixed.N) (λ _. bind (token sign_of (example fixed.Plus) signs.Plus) (signed_by x) NoSign) (map_rule change_is.Number x) NoSign
    (λ _. then-is (token sign_of (example fixed.Plus) signs.Plus) (signed_by x) NoSign (token-is sign_of (example fixed.Plus) signs.Plus plus_example) (λ sign. map-is (signed_change sign) x NoSign X))
    (map-is change_is.Number x NoSign X) (λ follow g. apart follow)

change_value-is : (x : Rule Expr) → Sound x NoSign → ((follow : Toks) → head (fixed_at fixed.N) (((x.min) ++ []) ++ follow) ≡ None) → (q : Changes) (o : ChangeWord) → Sound (change_value x q o) NoSign
unfolding change_value
change_value-is x X apart q change_word.Number = word-is fixed.Equals _ NoSign (map-is (with_number q) (number_change x) NoSign (number_change-is x X apart))
change_value-is x X apart q change_word.Body = word-is fixed.Equals _ NoSign (map-is (with_body q) x NoSign X)

change_choices-fit : (x : Rule Expr) → Sound x NoSign → ((follow : Toks) → head (fixed_at fixed.N) (((x.min) ++ []) ++ follow) ≡ None) → Fits (change_choices x)
change_choices-fit x X apart = record {
  fits = λ q o e. change_fits (not q.has_number) (not q.has_body) o e;
  unbarred = λ q o. refl;
  values = change_value-is x X apart;
  comma = comma_sign;
}

key_over : (x : Rule Expr) (follow : Toks) → Over (change_choices x) (example fixed.Where ∷ follow)
unfolding sign_of fixed_at is_fixed
key_over x follow = record { comma = refl; ends = refl }

keyed : {A : Type 0} (f : Expr → A) (x : Rule Expr) → Sound x NoSign → Sound (map_rule f (key x)) Stops
keyed f x X = map-is f (key x) Stops (also-is (phrase row_key) x Stops (phrase-is row_key) (under x NoSign Stops X (λ follow g. g.sign)))

pub update_rest-is : (x : Rule Expr) → Sound x NoSign → ((follow : Toks) → head (fixed_at fixed.N) (((x.min) ++ []) ++ follow) ≡ None) → Sound (update_rest x) Stops
unfolding update_rest phrase
update_rest-is x X apart = then-is qname _ Stops qname-is (λ t. word-is fixed.Set _ Stops
    (bind-is (options (change_choices x) 1 no_changes) _ (Over (change_choices x)) Stops (options-is (change_choices x) (change_choices-fit x X apart) 1 no_changes) (λ q. keyed (update t q) x X) (λ q follow g. key_over x _)))

pub delete_rest-is : (x : Rule Expr) → Sound x NoSign → Sound (delete_rest x) Stops
unfolding delete_rest qname fixed_at is_fixed
delete_rest-is x X = also_open (past fixed.From) _ (λ follow. head (fixed_at fixed.From) follow ≡ None) Stops (past-is fixed.From) (then-is qname _ Stops qname-is (λ t. keyed (s.Delete t) x X)) (λ follow. refl)

column_example : row_column_of (example fixed.N) ≡ Some row_column_is.Number
unfolding row_column_of is_fixed
column_example = refl

selected-is : Sound selected Any
unfolding selected
selected-is = then-is variable _ Any variable-is (λ v. word-is fixed.Equals _ Any (map-is (selected_as v) (token row_column_of (example fixed.N) row_column_is.Number) Any (token-is row_column_of (example fixed.N) row_column_is.Number column_example)))

abbrev NoComma : Toks → Type 0
NoComma follow = head (fixed_at fixed.Comma) follow ≡ None

pub select_rest-is : (x : Rule Expr) → Sound x NoSign → Sound (select_rest x) Stops
unfolding select_rest fixed_at is_fixed
select_rest-is x X = bind-is (commas selected) _ NoComma Stops (commas-is selected Any NoComma selected-is (λ follow g. tt) (λ follow g. g))
    (λ all. word-is fixed.From _ Stops (then-is qname _ Stops qname-is (λ t. keyed (s.Select all t) x X))) (λ all follow g. refl)

initial_part-is : (x : Rule Expr) → Sound x NoSign → Sound (initial_part x) DeclarationEnds
unfolding initial_part
initial_part-is x X = optional-is (fixed_at fixed.Equals) (λ _. x) DeclarationEnds (λ _. under x NoSign DeclarationEnds X (λ follow g. g.sign)) (λ follow g. g.equals)

declaration-is : (x : Rule Expr) → Sound x NoSign → Sound (declaration x) DeclarationEnds
unfolding declaration kind fixed_at is_fixed
declaration-is x X = then-is variable _ DeclarationEnds variable-is (λ v. also_open (past fixed.As) _ (λ follow. head (fixed_at fixed.As) follow ≡ None) DeclarationEnds (past-is fixed.As)
    (then-is kind _ DeclarationEnds kind-is (λ k. map-is (declared_as v k) (initial_part x) DeclarationEnds (initial_part-is x X))) (λ follow. refl))

pub declare_rest-is : (x : Rule Expr) → Sound x NoSign → Sound (declare_rest x) Stops
unfolding declare_rest
declare_rest-is x X = map-is s.Declare (commas (declaration x)) Stops (commas-is (declaration x) DeclarationEnds Stops (declaration-is x X) (λ follow g. record { equals = g.equals; sign = g.sign }) (λ follow g. g.comma))

no_count_apart : fixed_at fixed.NoCount example_variable ≡ None
unfolding fixed_at is_fixed
no_count_apart = refl

pub set_rest-is : (x : Rule Expr) → Sound x NoSign → Sound (set_rest x) Stops
unfolding set_rest
set_rest-is x X = alt-is (fixed_at fixed.NoCount) (λ _. map_rule s.SetNoCount on_off) _ Stops (λ _. map-is s.SetNoCount on_off Stops (anywhere on_off Stops on_off-is))
    (then-is variable _ Stops variable-is (λ v. word-is fixed.Equals _ Stops (map-is (s.Set v) x Stops (under x NoSign Stops X (λ follow g. g.sign))))) (λ follow g. no_count_apart)
