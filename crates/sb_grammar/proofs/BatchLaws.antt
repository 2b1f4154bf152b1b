-- The laws of batches and procedures.
use Rattle.std.proofs.Common.{◌≡◌, ℕ, zero, suc, true, false, [], ◌++◌, Option, Some, None, refl, sym, subst}
use Rattle.sb_grammar.specs.declared.lexeme.Lexeme.{Lexeme}
use Rattle.sb_grammar.specs.declared.tree.Statement.{Statement}
use Rattle.sb_grammar.specs.declared.choice.First.{First}
use Rattle.sb_grammar.specs.declared.choice.First.TheVariants as first
use Rattle.sb_grammar.specs.declared.choice.Place.{Place}
use Rattle.sb_grammar.specs.declared.choice.Place.TheVariants as place
use Rattle.sb_grammar.specs.declared.choice.Progress.{Progress}
use Rattle.sb_grammar.specs.declared.choice.Barred.{Barred}
use Rattle.sb_grammar.specs.declared.word.Fixed.TheVariants as fixed
use Rattle.sb_grammar.specs.Words.{is_fixed, example}
use Rattle.sb_grammar.specs.Rules.{Rule, Toks, token, bind, map_rule, pure, series, most, head}
use Rattle.sb_grammar.specs.Values.{qname}
use Rattle.sb_grammar.specs.Definitions.{create_rest}
use Rattle.sb_grammar.specs.Statements.{row_first, message_first, past_work, inner_first, plain_first, first_of, rest_of, closed, begin_last, begin_rest, block, statement_of}
use Rattle.sb_grammar.specs.Stops.{Stops, work_of, first_barred}
use Rattle.sb_grammar.specs.Batches.{AtEnd, turn_bars, with_statement, at_start, procedure_take, transaction_of, dropped, kept, begin_or_transaction, last_commit, procedure_rest, place_after, with_maybe, procedure_turn, procedure_bars, procedure_first, statements_of, procedure_body, procedure, as_at, create_procedure, procedure_def, procedure_word, create_turn, batch_by, batch_turn, batch_bars, batch_first, batch}
use Rattle.sb_grammar.specs.Whole.{IsGrammar}
use Rattle.sb_grammar.proofs.Laws.{Calm, series-lawful, series-fine, series-min}
use Rattle.sb_grammar.proofs.WholeLaws.{is_grammar}
use Rattle.sb_grammar.proofs.Sounds.{Sound, under, pure-is, token-is, map-is, word-is, bind-is, then-is, alt-is, barred-is, skipped-is}
use Rattle.sb_grammar.proofs.ValueLaws.{qname-is}
use Rattle.sb_grammar.proofs.DefinitionLaws.{create_rest-is}
use Rattle.sb_grammar.proofs.StatementLaws.{stops_nil, closed-is, rest_of-is}

end_stops : (follow : Toks) → AtEnd follow → Stops follow
end_stops follow e = subst Stops (sym e) stops_nil

end_head : {B : Type 0} (f : Lexeme → Option B) (follow : Toks) → AtEnd follow → head f follow ≡ None
end_head f follow e = subst (λ (z : Toks). head f z ≡ None) (sym e) refl

-- statements up to the end
module _ {B : Type 0} (g : Progress → Lexeme → Option Barred) (f : Progress → Lexeme → Option B) (p : Progress → B → Rule Progress) (P : (q : Progress) (b : B) → Sound (p q b) AtEnd) where
  calm : (follow : Toks) → AtEnd follow → Calm g f p follow
  calm follow e = record { unbarred = λ q. end_head (g q) follow e; over = λ q. end_head (f q) follow e; parts = λ q b. (P q b).fine follow e }

  series-is : (k : ℕ) (q : Progress) → Sound (series k g f p AtEnd q) AtEnd
  series-is k q = record { lawful = series-lawful g f p AtEnd (λ q b. (P q b).lawful) calm k q; fine = series-fine g f p AtEnd (λ q b. (P q b).lawful) calm k q }

-- ---- procedures

begin_or_transaction-is : (b : Rule Statement) → Sound b Stops → ((follow : Toks) → head transaction_of ((b.min ++ []) ++ follow) ≡ None) → Sound (begin_or_transaction b) Stops
unfolding begin_or_transaction
begin_or_transaction-is b B apart = alt-is transaction_of (λ _. pure None) (map_rule kept b) Stops (λ _. pure-is None Stops) (map-is kept b Stops B) (λ follow g. apart follow)

last_commit-is : Sound last_commit Stops
unfolding last_commit
last_commit-is = map-is dropped past_work Stops (skipped-is work_of Stops (λ follow g. g.work))

begin_apart : (n : ℕ) (follow : Toks) → head transaction_of (((rest_of false n first.Begin).min ++ []) ++ follow) ≡ None
unfolding rest_of begin_last begin_rest block statement_of transaction_of is_fixed
begin_apart zero follow = refl
begin_apart (suc n) follow = refl

kept-is : (n : ℕ) (f : First) → Sound (map_rule kept (rest_of false n f)) Stops
kept-is n f = map-is kept (rest_of false n f) Stops (rest_of-is false n f)

procedure_rest-is : (n : ℕ) (at : Place) (f : First) → Sound (procedure_rest n at f) Stops
procedure_rest-is n at first.Commit = last_commit-is
procedure_rest-is n place.Start first.Begin = begin_or_transaction-is (rest_of false n first.Begin) (rest_of-is false n first.Begin) (begin_apart n)
procedure_rest-is n at f = kept-is n f

procedure_turn-is : (n : ℕ) (q : Progress) (f : First) → Sound (procedure_turn n q f) AtEnd
unfolding procedure_turn
procedure_turn-is n q f =
    let r = procedure_rest n q.place f in
    map-is (with_maybe q (place_after q.place f)) (closed r) AtEnd (under (closed r) Stops AtEnd (closed-is r (procedure_rest-is n q.place f)) end_stops)

take_example : (n : ℕ) → procedure_take n place.Start (example fixed.Return) ≡ Some first.Return
unfolding procedure_take first_of inner_first plain_first message_first row_first is_fixed
take_example zero = refl
take_example (suc n) = refl

return_unbarred : turn_bars place.Start (example fixed.Return) ≡ None
unfolding turn_bars first_barred is_fixed
return_unbarred = refl

nil_end : (a follow : Toks) → a ≡ [] → AtEnd follow → AtEnd (a ++ follow)
nil_end a follow e h = subst (λ (z : Toks). AtEnd (z ++ follow)) (sym e) h

rest_end : (n : ℕ) (q : Progress) (follow : Toks) → AtEnd follow → AtEnd ((series most procedure_bars (procedure_first n) (procedure_turn n) AtEnd q).min ++ follow)
rest_end n q follow g = nil_end (series most procedure_bars (procedure_first n) (procedure_turn n) AtEnd q).min follow (series-min procedure_bars (procedure_first n) (procedure_turn n) AtEnd (λ q b. (procedure_turn-is n q b).lawful) (calm procedure_bars (procedure_first n) (procedure_turn n) (procedure_turn-is n)) most q) g

procedure_body-is : (n : ℕ) → Sound (procedure_body n) AtEnd
unfolding procedure_body
procedure_body-is n =
    let rest = series most procedure_bars (procedure_first n) (procedure_turn n) AtEnd in
    let turn : First → Rule Progress = λ f. bind (procedure_turn n at_start f) rest AtEnd in
    let turn-is : (f : First) → Sound (turn f) AtEnd = λ f. bind-is (procedure_turn n at_start f) rest AtEnd AtEnd (procedure_turn-is n at_start f)
    (λ q. series-is procedure_bars (procedure_first n) (procedure_turn n) (procedure_turn-is n) most q) (λ q follow g. rest_end n q follow g) in
    barred-is (turn_bars place.Start) (bind (token (procedure_take n place.Start) (example fixed.Return) first.Return) (λ f. map_rule statements_of (turn f)) AtEnd) AtEnd
    (then-is (token (procedure_take n place.Start) (example fixed.Return) first.Return) (λ f. map_rule statements_of (turn f)) AtEnd (token-is (procedure_take n place.Start) (example fixed.Return) first.Return (take_example n)) (λ f. map-is statements_of (turn f) AtEnd (turn-is f)))
    (λ follow g. return_unbarred)

procedure-is : (n : ℕ) → Sound (procedure n) AtEnd
unfolding procedure
procedure-is n = word-is fixed.As (procedure_body n) AtEnd (procedure_body-is n)

pub procedure_is_grammar : (n : ℕ) → IsGrammar (procedure n)
procedure_is_grammar n = is_grammar (procedure n) (procedure-is n).lawful ((procedure-is n).fine [] refl)

-- ---- batches

as_example : as_at (example fixed.As) ≡ Some 0
unfolding as_at is_fixed
as_example = refl

procedure_def-is : (n : ℕ) → Sound (procedure_def n) AtEnd
unfolding procedure_def
procedure_def-is n = then-is qname _ AtEnd qname-is (λ q. then-is (token as_at (example fixed.As) 0) _ AtEnd (token-is as_at (example fixed.As) 0 as_example) (λ at. map-is (create_procedure q at) (procedure_body n) AtEnd (procedure_body-is n)))

create_apart : (f : Statement → Progress) (follow : Toks) → head procedure_word ((map_rule f (closed create_rest)).min ++ follow) ≡ None
unfolding closed create_rest procedure_word is_fixed
create_apart f follow = refl

create_turn-is : (n : ℕ) (q : Progress) → Sound (create_turn n q) AtEnd
unfolding create_turn
create_turn-is n q = alt-is procedure_word (λ _. map_rule (with_statement q place.Closed) (procedure_def n)) (map_rule (with_statement q place.Inside) (closed create_rest)) AtEnd
    (λ _. map-is (with_statement q place.Closed) (procedure_def n) AtEnd (procedure_def-is n))
    (map-is (with_statement q place.Inside) (closed create_rest) AtEnd (under (closed create_rest) Stops AtEnd (closed-is create_rest create_rest-is) end_stops)) (λ follow g. create_apart (with_statement q place.Inside) follow)

plain_turn-is : (n : ℕ) (q : Progress) (f : First) → Sound (map_rule (with_statement q place.Inside) (closed (rest_of true n f))) AtEnd
plain_turn-is n q f = map-is (with_statement q place.Inside) (closed (rest_of true n f)) AtEnd (under (closed (rest_of true n f)) Stops AtEnd (closed-is (rest_of true n f) (rest_of-is true n f)) end_stops)

batch_by-is : (n : ℕ) (q : Progress) (at : Place) (f : First) → Sound (batch_by n q at f) AtEnd
batch_by-is n q place.Start first.Create = create_turn-is n q
batch_by-is n q at f = plain_turn-is n q f

batch_turn-is : (n : ℕ) (q : Progress) (f : First) → Sound (batch_turn n q f) AtEnd
unfolding batch_turn
batch_turn-is n q f = batch_by-is n q q.place f

batch-is : (n : ℕ) → Sound (batch n) AtEnd
unfolding batch
batch-is n =
    let rest = series most batch_bars (batch_first n) (batch_turn n) AtEnd at_start in
    map-is statements_of rest AtEnd (series-is batch_bars (batch_first n) (batch_turn n) (batch_turn-is n) most at_start)

pub batch_is_grammar : (n : ℕ) → IsGrammar (batch n)
batch_is_grammar n = is_grammar (batch n) (batch-is n).lawful ((batch-is n).fine [] refl)
