-- The laws of expressions and conditions.
use Rattle.std.proofs.Common.{◌≡◌, ℕ, zero, suc, [], ◌∷◌, ◌++◌, Some, None, refl, sym, subst}
use Rattle.sb_grammar.specs.declared.tree.Sign.{Sign}
use Rattle.sb_grammar.specs.declared.tree.Comparison.{Comparison}
use Rattle.sb_grammar.specs.declared.tree.Comparison.TheVariants as comparisons
use Rattle.sb_grammar.specs.declared.tree.Expr.{Expr}
use Rattle.sb_grammar.specs.declared.tree.Expr.TheVariants as e
use Rattle.sb_grammar.specs.declared.tree.Condition.{Condition}
use Rattle.sb_grammar.specs.declared.tree.Condition.TheVariants as conditions
use Rattle.sb_grammar.specs.declared.tree.Bracketed.{Bracketed}
use Rattle.sb_grammar.specs.declared.tree.Bracketed.TheVariants.{Value, Test}
use Rattle.sb_grammar.specs.declared.word.Fixed.TheVariants as fixed
use Rattle.sb_grammar.specs.Words.{is_fixed, fixed_at, example}
use Rattle.sb_grammar.specs.Rules.{Rule, Toks, token, ended, alt, bind, map_rule, pure, Rests, most, Any}
use Rattle.sb_grammar.specs.Values.{sign, word, kind}
use Rattle.sb_grammar.specs.Exprs.{literal_of, literal, sign_of, joined, join_step, more_sum, sum_of, cast_of, operand, sum, comparison_of, NoSign, drop_unit, null_test, compare_by, relation, Plain, relation_maybe, test_by, inner_by, test_of, and, and_step, or, or_step, Ended, more_tests, conjunction_of, more_conjunctions, condition_of, bracket_by, bracketed_of, item, test, conjunction, condition}
use Rattle.sb_grammar.proofs.Laws.{loop-min}
use Rattle.sb_grammar.proofs.Sounds.{Sound, under, anywhere, pure-is, token-is, sign-is, map-is, word-is, ended-is, bind-is, then-is, alt-is, loop-is, chain-is}
use Rattle.sb_grammar.proofs.ValueLaws.{kind-is}

literal_example : literal_of (example fixed.Null) ≡ Some e.Null
unfolding literal_of is_fixed
literal_example = refl

pub literal-is : Sound literal Any
literal-is = token-is literal_of (example fixed.Null) e.Null literal_example

join-is : (o : Rule Expr) → Sound o Any → (F : Toks → Type 0) (s : Sign) (l : Expr) → Sound (join_step o s l) F
join-is o O F s l = map-is (joined s l) o F (anywhere o F O)

pub more_sum-is : (o : Rule Expr) → Sound o Any → (F : Toks → Type 0) → ((follow : Toks) → F follow → NoSign follow) → (l : Expr) → Sound (more_sum o l) F
more_sum-is o O F less l = loop-is most sign_of (join_step o) l F (join-is o O F) less

more_sum-min : (o : Rule Expr) (l : Expr) → (more_sum o l).min ≡ []
more_sum-min o l = loop-min most sign_of (join_step o) l

pub sum_of-is : (o : Rule Expr) → Sound o Any → Sound (sum_of o) NoSign
unfolding sum_of
sum_of-is o O =
    let F : Toks → Type 0 = Rests sign_of (join_step o) in
    let S = bind-is o (more_sum o) Any F O (λ l. more_sum-is o O F (λ follow g. g.0) l) (λ l follow g. tt) in
    record { lawful = S.lawful; fine = λ follow h. (h, λ b a. O.fine follow tt) }

close_seam : (follow : Toks) → NoSign (example fixed.Close ∷ follow)
unfolding sign_of is_fixed
close_seam follow = refl

pub cast_of-is : (s : Rule Expr) → Sound s NoSign → Sound (cast_of s) Any
unfolding cast_of sign_of is_fixed
cast_of-is s S =
    let rest : Expr → Rule Expr = λ x. word fixed.As (ended (map_rule (e.Cast x) kind) (sign fixed.Close)) in
    word-is fixed.Open (bind s rest Any) Any
    (bind-is s rest NoSign Any S (λ x. word-is fixed.As _ Any (ended-is (map_rule (e.Cast x) kind) fixed.Close Any (map-is (e.Cast x) kind Any kind-is) (λ follow. tt))) (λ x follow g. refl))

open_apart : fixed_at fixed.Open (example fixed.Null) ≡ None
unfolding fixed_at is_fixed
open_apart = refl

cast_apart : fixed_at fixed.Cast (example fixed.Null) ≡ None
unfolding fixed_at is_fixed
cast_apart = refl

pub operand-is : (n : ℕ) → Sound (operand n) Any
unfolding operand
operand-is zero = literal-is
operand-is (suc n) =
    let s = sum_of (operand n) in
    let S : Sound s NoSign = sum_of-is (operand n) (operand-is n) in
    let inner : Rule Expr = alt (fixed_at fixed.Cast) (λ _. cast_of s) literal Any in
    alt-is (fixed_at fixed.Open) (λ _. ended s (sign fixed.Close)) inner Any
    (λ _. ended-is s fixed.Close NoSign S close_seam)
    (alt-is (fixed_at fixed.Cast) (λ _. cast_of s) literal Any (λ _. cast_of-is s S) literal-is (λ follow g. cast_apart))
    (λ follow g. open_apart)

pub sum-is : (n : ℕ) → Sound (sum n) NoSign
sum-is n = sum_of-is (operand n) (operand-is n)

-- ---- conditions

not_apart : fixed_at fixed.Not (example fixed.Null) ≡ None
unfolding fixed_at is_fixed
not_apart = refl

null_test-is : (l : Expr) → Sound (null_test l) Any
unfolding null_test
null_test-is l = alt-is (fixed_at fixed.Not) (λ _. map_rule (drop_unit (conditions.IsNotNull l)) (sign fixed.Null)) (map_rule (drop_unit (conditions.IsNull l)) (sign fixed.Null)) Any
    (λ _. map-is (drop_unit (conditions.IsNotNull l)) (sign fixed.Null) Any (sign-is fixed.Null)) (map-is (drop_unit (conditions.IsNull l)) (sign fixed.Null) Any (sign-is fixed.Null)) (λ follow g. not_apart)

comparison_example : comparison_of (example fixed.Equals) ≡ Some comparisons.Equal
unfolding comparison_of is_fixed
comparison_example = refl

equals_apart : fixed_at fixed.Is (example fixed.Equals) ≡ None
unfolding fixed_at is_fixed
equals_apart = refl

compare_by-is : (s : Rule Expr) → Sound s NoSign → (l : Expr) (c : Comparison) → Sound (compare_by s l c) NoSign
compare_by-is s S l c = map-is (conditions.Compare c l) s NoSign S

relation-is : (s : Rule Expr) → Sound s NoSign → (l : Expr) → Sound (relation s l) NoSign
unfolding relation
relation-is s S l =
    let compare = bind (token comparison_of (example fixed.Equals) comparisons.Equal) (compare_by s l) NoSign in
    alt-is (fixed_at fixed.Is) (λ _. null_test l) compare NoSign (λ _. anywhere (null_test l) NoSign (null_test-is l))
    (then-is (token comparison_of (example fixed.Equals) comparisons.Equal) (compare_by s l) NoSign (token-is comparison_of (example fixed.Equals) comparisons.Equal comparison_example) (compare_by-is s S l))
    (λ follow g. equals_apart)

relation-begins : (s : Rule Expr) (l : Expr) (follow : Toks) → NoSign ((relation s l).min ++ follow)
unfolding relation sign_of is_fixed
relation-begins s l follow = refl

relation_maybe-is : (s : Rule Expr) → Sound s NoSign → (l : Expr) → Sound (relation_maybe s l) Plain
unfolding relation_maybe
relation_maybe-is s S l =
    alt-is (fixed_at fixed.Is) (λ _. map_rule Test (null_test l)) (alt comparison_of (λ c. map_rule Test (compare_by s l c)) (pure (Value l)) Plain) Plain
    (λ _. map-is Test (null_test l) Plain (anywhere (null_test l) Plain (null_test-is l)))
    (alt-is comparison_of (λ c. map_rule Test (compare_by s l c)) (pure (Value l)) Plain (λ c. map-is Test (compare_by s l c) Plain (under (compare_by s l c) NoSign Plain (compare_by-is s S l c) (λ follow g. g.sign))) (pure-is (Value l) Plain) (λ follow g. g.comparison))
    (λ follow g. g.is)

relation_maybe-begins : (s : Rule Expr) (l : Expr) (follow : Toks) → Plain follow → Plain ((relation_maybe s l).min ++ follow)
unfolding relation_maybe
relation_maybe-begins s l follow g = g

sum_seam : (o : Rule Expr) (l : Expr) (follow : Toks) (F : Toks → Type 0) → F follow → F ((more_sum o l).min ++ follow)
sum_seam o l follow F g = subst (λ (m : Toks). F (m ++ follow)) (sym (more_sum-min o l)) g

test_by-is : (o s : Rule Expr) → Sound o Any → Sound s NoSign → (b : Bracketed) → Sound (test_by o s b) NoSign
test_by-is o s O S (Test c) = pure-is c NoSign
test_by-is o s O S (Value v) = bind-is (more_sum o v) (relation s) NoSign NoSign (more_sum-is o O NoSign (λ follow g. g) v) (relation-is s S) (λ l follow g. relation-begins s l follow)

inner_by-is : (o s : Rule Expr) → Sound o Any → Sound s NoSign → (b : Bracketed) → Sound (inner_by o s b) Plain
inner_by-is o s O S (Test c) = pure-is (Test c) Plain
inner_by-is o s O S (Value v) = bind-is (more_sum o v) (relation_maybe s) Plain Plain (more_sum-is o O Plain (λ follow g. g.sign) v) (relation_maybe-is s S) (λ l follow g. relation_maybe-begins s l follow g)

test_of-is : (i : Rule Bracketed) (o s : Rule Expr) → Sound i Any → Sound o Any → Sound s NoSign → Sound (test_of i o s) NoSign
unfolding test_of
test_of-is i o s I O S = then-is i (test_by o s) NoSign I (test_by-is o s O S)

and_step-is : (t : Rule Condition) → Sound t NoSign → (b : Unit {0}) (l : Condition) → Sound (and_step t b l) Ended
and_step-is t T b l = map-is (and l) t Ended (under t NoSign Ended T (λ follow g. g.sign))

conjunction_of-is : (t : Rule Condition) → Sound t NoSign → Sound (conjunction_of t) Ended
unfolding conjunction_of
conjunction_of-is t T = chain-is t most (fixed_at fixed.And) (and_step t) Ended (under t NoSign Ended T (λ follow g. g.sign)) (and_step-is t T) (λ follow g. g.also)

or_step-is : (c : Rule Condition) → Sound c Ended → (b : Unit {0}) (l : Condition) → Sound (or_step c b l) Ended
or_step-is c C b l = map-is (or l) c Ended C

condition_of-is : (c : Rule Condition) → Sound c Ended → Sound (condition_of c) Ended
unfolding condition_of
condition_of-is c C = chain-is c most (fixed_at fixed.Or) (or_step c) Ended C (or_step-is c C) (λ follow g. g.other)

plain_ended : (follow : Toks) → Plain follow → Ended follow
plain_ended follow g = record { sign = g.sign; also = g.also; other = g.other }

bracket_by-is : (t c : Rule Condition) → Sound t NoSign → Sound c Ended → (b : Bracketed) → Sound (bracket_by t c b) Plain
bracket_by-is t c T C (Value v) = pure-is (Value v) Plain
bracket_by-is t c T C (Test x) =
    let more = chain-is (more_tests t x) most (fixed_at fixed.Or) (or_step c) Ended (loop-is most (fixed_at fixed.And) (and_step t) x Ended (and_step-is t T) (λ follow g. g.also)) (or_step-is c C) (λ follow g. g.other) in
    map-is Test (bind (more_tests t x) (more_conjunctions c) Ended) Plain (under (bind (more_tests t x) (more_conjunctions c) Ended) Ended Plain more plain_ended)

and_step-min : (t : Rule Condition) (x : Condition) → (more_tests t x).min ≡ []
and_step-min t x = loop-min most (fixed_at fixed.And) (and_step t) x

or_step-min : (c : Rule Condition) (x : Condition) → (more_conjunctions c x).min ≡ []
or_step-min c x = loop-min most (fixed_at fixed.Or) (or_step c) x

both_nil : (a b : Toks) → a ≡ [] → b ≡ [] → a ++ b ≡ []
both_nil a b h k = subst (λ (z : Toks). z ++ b ≡ []) (sym h) k

bracket_by-begins : (t c : Rule Condition) (b : Bracketed) (follow : Toks) → Plain follow → Plain ((bracket_by t c b).min ++ follow)
bracket_by-begins t c (Value v) follow g = g
bracket_by-begins t c (Test x) follow g =
    let first : (more_tests t x).min ≡ [] = and_step-min t x in
    let second : (more_conjunctions c ((more_tests t x).least)).min ≡ [] = or_step-min c ((more_tests t x).least) in
    subst (λ (m : Toks). Plain ((m ++ []) ++ follow)) (sym (both_nil (more_tests t x).min ((more_conjunctions c ((more_tests t x).least)).min) first second)) g

bracketed_of-is : (i : Rule Bracketed) (o s : Rule Expr) (t c : Rule Condition) → Sound i Any → Sound o Any → Sound s NoSign → Sound t NoSign → Sound c Ended → Sound (bracketed_of i o s t c) Plain
unfolding bracketed_of
bracketed_of-is i o s t c I O S T C = bind-is (bind i (inner_by o s) Plain) (bracket_by t c) Plain Plain (then-is i (inner_by o s) Plain I (inner_by-is o s O S)) (bracket_by-is t c T C) (λ b follow g. bracket_by-begins t c b follow g)

close_plain : (follow : Toks) → Plain (example fixed.Close ∷ follow)
unfolding sign_of comparison_of fixed_at is_fixed
close_plain follow = record { sign = refl; is = refl; comparison = refl; also = refl; other = refl }

pub item-is : (n : ℕ) → Sound (item n) Any
unfolding item
item-is zero = map-is Value literal Any literal-is
item-is (suc n) =
    let t = test_of (item n) (operand n) (sum n) in
    let T : Sound t NoSign = test_of-is (item n) (operand n) (sum n) (item-is n) (operand-is n) (sum-is n) in
    let inner : Rule Bracketed = alt (fixed_at fixed.Cast) (λ _. map_rule Value (cast_of (sum n))) (map_rule Value literal) Any in
    let b = bracketed_of (item n) (operand n) (sum n) t (conjunction_of t) in
    alt-is (fixed_at fixed.Open) (λ _. ended b (sign fixed.Close)) inner Any
    (λ _. ended-is b fixed.Close Plain (bracketed_of-is (item n) (operand n) (sum n) t (conjunction_of t) (item-is n) (operand-is n) (sum-is n) T (conjunction_of-is t T)) close_plain)
    (alt-is (fixed_at fixed.Cast) (λ _. map_rule Value (cast_of (sum n))) (map_rule Value literal) Any (λ _. map-is Value (cast_of (sum n)) Any (cast_of-is (sum n) (sum-is n))) (map-is Value literal Any literal-is) (λ follow g. cast_apart))
    (λ follow g. open_apart)

pub test-is : (n : ℕ) → Sound (test n) NoSign
test-is n = test_of-is (item n) (operand n) (sum n) (item-is n) (operand-is n) (sum-is n)

pub conjunction-is : (n : ℕ) → Sound (conjunction n) Ended
conjunction-is n = conjunction_of-is (test n) (test-is n)

pub condition-is : (n : ℕ) → Sound (condition n) Ended
condition-is n = condition_of-is (conjunction n) (conjunction-is n)
