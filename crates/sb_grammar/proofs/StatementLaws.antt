-- The laws of statements.
use Rattle.std.proofs.Common.{◌≡◌, ℕ, zero, suc, Bool, List, [], ◌∷◌, ◌++◌, Option, Some, None, refl, sym, subst}
use Rattle.sb_grammar.specs.declared.lexeme.Lexeme.{Lexeme}
use Rattle.sb_grammar.specs.declared.tree.Expr.{Expr}
use Rattle.sb_grammar.specs.declared.tree.Condition.{Condition}
use Rattle.sb_grammar.specs.declared.tree.Statement.{Statement}
use Rattle.sb_grammar.specs.declared.tree.Statement.TheVariants as s
use Rattle.sb_grammar.specs.declared.choice.First.{First}
use Rattle.sb_grammar.specs.declared.choice.First.TheVariants as first
use Rattle.sb_grammar.specs.declared.choice.Begun.{Begun}
use Rattle.sb_grammar.specs.declared.choice.Begun.TheVariants as begun
use Rattle.sb_grammar.specs.declared.word.Fixed.TheVariants as fixed
use Rattle.sb_grammar.specs.Words.{is_fixed, fixed_at, example}
use Rattle.sb_grammar.specs.Rules.{Rule, Toks, token, alt, bind, map_rule, pure, singleton, until, most, head}
use Rattle.sb_grammar.specs.Values.{word}
use Rattle.sb_grammar.specs.Exprs.{sign_of, NoSign, Ended, operand, sum_of, sum, condition}
use Rattle.sb_grammar.specs.Definitions.{alter_rest}
use Rattle.sb_grammar.specs.Dialogs.{end_tail, receive_rest, get_rest}
use Rattle.sb_grammar.specs.RowStatements.{insert_rest}
use Rattle.sb_grammar.specs.Stops.{Stops, work_of, first_barred, into_of}
use Rattle.sb_grammar.specs.Statements.{row_first, message_first, plain_first, inner_first, first_of, semicolon, closed, always, past_work, work_part, begun_of, begun_by, try_of, begin_rest, begin_last, else_part, if_rest, some_statement, block_end, block_turn, statement_of, block, rest_by, rest_of}
use Rattle.sb_grammar.proofs.Laws.{until-lawful, until-fine, until-min}
use Rattle.sb_grammar.proofs.Sounds.{Sound, anywhere, pure-is, token-is, map-is, word-is, bind-is, then-is, optional-is, alt-is, barred-is, skipped-is}
use Rattle.sb_grammar.proofs.ExprLaws.{sum-is, condition-is}
use Rattle.sb_grammar.proofs.DefinitionLaws.{create_rest-is, alter_rest-is}
use Rattle.sb_grammar.proofs.DialogLaws.{dialog_rest-is, timer_rest-is, send_rest-is, move_rest-is, end_tail-is, end_rest-is, receive_rest-is, get_rest-is, waitfor_rest-is}
use Rattle.sb_grammar.proofs.RowLaws.{insert_rest-is, update_rest-is, delete_rest-is, select_rest-is, declare_rest-is, set_rest-is}

pub stops_nil : Stops []
stops_nil = record {
  sign = refl;
  bracket = refl;
  message = refl;
  otherwise = refl;
  semicolon = refl;
  conversation = refl;
  comma = refl;
  with_part = refl;
  authorization = refl;
  validation = refl;
  set_part = refl;
  on_part = refl;
  where_part = refl;
  equals = refl;
  work = refl;
  into_part = refl;
  barred = refl;
}

stops_end : (follow : Toks) → Stops (example fixed.End ∷ follow)
unfolding sign_of fixed_at is_fixed work_of into_of first_barred
stops_end follow = record {
  sign = refl;
  bracket = refl;
  message = refl;
  otherwise = refl;
  semicolon = refl;
  conversation = refl;
  comma = refl;
  with_part = refl;
  authorization = refl;
  validation = refl;
  set_part = refl;
  on_part = refl;
  where_part = refl;
  equals = refl;
  work = refl;
  into_part = refl;
  barred = refl;
}

semicolon-is : Sound semicolon Stops
unfolding semicolon
semicolon-is = skipped-is (fixed_at fixed.Semicolon) Stops (λ follow g. g.semicolon)

pub closed-is : {A : Type 0} (r : Rule A) → Sound r Stops → Sound (closed r) Stops
unfolding closed semicolon
closed-is r R = bind-is r (λ v. map_rule (λ _. v) semicolon) Stops Stops R (λ v. map-is (λ _. v) semicolon Stops semicolon-is) (λ v follow g. g)

pub work_part-is : (st : Statement) → Sound (work_part st) Stops
unfolding work_part
work_part-is st = map-is (always st) past_work Stops (skipped-is work_of Stops (λ follow g. g.work))

begun_by-is : (x : Rule Expr) → Sound x NoSign → (b : Begun) → Sound (begun_by x b) Stops
begun_by-is x X begun.Transaction = pure-is s.BeginTransaction Stops
begun_by-is x X begun.Dialog = dialog_rest-is x X
begun_by-is x X begun.Conversation = timer_rest-is x X

begun_example : (b : Bool) → begun_of b (example fixed.Conversation) ≡ Some begun.Conversation
unfolding begun_of is_fixed
begun_example b = refl

try_apart : try_of (example fixed.Conversation) ≡ None
unfolding try_of is_fixed
try_apart = refl

begin_last-is : (b : Bool) (x : Rule Expr) → Sound x NoSign → Sound (begin_last b x) Stops
unfolding begin_last
begin_last-is b x X = barred-is try_of (bind (token (begun_of b) (example fixed.Conversation) begun.Conversation) (begun_by x) Stops) Stops
    (then-is (token (begun_of b) (example fixed.Conversation) begun.Conversation) (begun_by x) Stops (token-is (begun_of b) (example fixed.Conversation) begun.Conversation (begun_example b)) (begun_by-is x X))
    (λ follow g. try_apart)

begin_rest-is : (b : Bool) (x : Rule Expr) (r : Rule (List Statement)) → Sound x NoSign → Sound r Stops → ((follow : Toks) → head try_of ((r.min ++ []) ++ follow) ≡ None) → ((follow : Toks) → head (begun_of b) ((r.min ++ []) ++ follow) ≡ None) → Sound (begin_rest b x r) Stops
unfolding begin_rest
begin_rest-is b x r X R no_try no_begun =
    barred-is try_of (alt (begun_of b) (begun_by x) (map_rule s.Block r) Stops) Stops
    (alt-is (begun_of b) (begun_by x) (map_rule s.Block r) Stops (begun_by-is x X) (map-is s.Block r Stops R) (λ follow g. no_begun follow)) (λ follow g. no_try follow)

else_part-is : (st : Rule Statement) → Sound st Stops → Sound (else_part st) Stops
unfolding else_part
else_part-is st S = optional-is (fixed_at fixed.Else) (λ _. st) Stops (λ _. S) (λ follow g. g.otherwise)

if_rest-is : (c : Rule Condition) (st : Rule Statement) → Sound c Ended → Sound st Stops → ((z follow : Toks) → Ended ((st.min ++ z) ++ follow)) → Sound (if_rest c st) Stops
unfolding if_rest else_part
if_rest-is c st C S begins = bind-is c _ Ended Stops C
    (λ x. bind-is st (λ t. map_rule (s.If x t) (else_part st)) Stops Stops S (λ t. map-is (s.If x t) (else_part st) Stops (else_part-is st S)) (λ t follow g. g)) (λ x follow g. begins _ follow)

block_end-is : (tail : Rule Statement) → Sound tail Stops → Sound (block_end tail) Stops
unfolding block_end
block_end-is tail T = alt-is (fixed_at fixed.Conversation) (λ _. map_rule some_statement (closed tail)) (pure None) Stops (λ _. map-is some_statement (closed tail) Stops (closed-is tail T)) (pure-is None Stops) (λ follow g. g.conversation)

end_unbarred : first_barred (example fixed.End) ≡ None
unfolding first_barred is_fixed
end_unbarred = refl

return_unbarred : first_barred (example fixed.Return) ≡ None
unfolding first_barred is_fixed
return_unbarred = refl

block_turn-is : (f : Lexeme → Option First) (p : First → Rule Statement) (tail : Rule Statement) → ((b : First) → Sound (p b) Stops) → Sound tail Stops → f (example fixed.End) ≡ None → Sound (block_turn f p tail) Stops
unfolding block_turn
block_turn-is f p tail P T ends =
    barred-is first_barred (alt f (λ b. map_rule some_statement (closed (p b))) (word fixed.End (block_end tail)) Stops) Stops
    (alt-is f (λ b. map_rule some_statement (closed (p b))) (word fixed.End (block_end tail)) Stops (λ b. map-is some_statement (closed (p b)) Stops (closed-is (p b) (P b))) (word-is fixed.End (block_end tail) Stops (block_end-is tail T)) (λ follow g. ends))
    (λ follow g. end_unbarred)

block_turn-begins : (f : Lexeme → Option First) (p : First → Rule Statement) (tail : Rule Statement) (follow : Toks) → Stops ((block_turn f p tail).min ++ follow)
unfolding block_turn block_end
block_turn-begins f p tail follow = stops_end follow

block_turn-least : (f : Lexeme → Option First) (p : First → Rule Statement) (tail : Rule Statement) → (block_turn f p tail).least ≡ None
unfolding block_turn block_end
block_turn-least f p tail = refl

statement_of-is : (f : Lexeme → Option First) (p : First → Rule Statement) → f (example fixed.Return) ≡ Some first.Return → ((b : First) → Sound (p b) Stops) → Sound (statement_of f p) Stops
unfolding statement_of
statement_of-is f p first_is P =
    barred-is first_barred (bind (token f (example fixed.Return) first.Return) (λ b. closed (p b)) Stops) Stops
    (then-is (token f (example fixed.Return) first.Return) (λ b. closed (p b)) Stops (token-is f (example fixed.Return) first.Return first_is) (λ b. closed-is (p b) (P b))) (λ follow g. return_unbarred)

pub first_is : (b : Bool) (n : ℕ) → first_of b n (example fixed.Return) ≡ Some first.Return
unfolding first_of inner_first plain_first message_first row_first is_fixed
first_is b zero = refl
first_is b (suc n) = refl

inner_ends : (b : Bool) (n : ℕ) → inner_first b n (example fixed.End) ≡ None
unfolding inner_first plain_first message_first row_first is_fixed
inner_ends b zero = refl
inner_ends b (suc n) = refl

block-is : (b : Bool) (n : ℕ) (p : First → Rule Statement) (tail : Rule Statement) → ((b : First) → Sound (p b) Stops) → Sound tail Stops → Sound (block b n p tail) Stops
unfolding block
block-is b n p tail P T =
    let f = inner_first b n in
    let r = block_turn f p tail in
    let R : Sound r Stops = block_turn-is f p tail P T (inner_ends b n) in
    let least = block_turn-least f p tail in
    let begins = block_turn-begins f p tail in
    bind-is (statement_of (first_of b n) p) (λ v. until most r Stops (singleton v)) Stops Stops (statement_of-is (first_of b n) p (first_is b n) P)
    (λ v. record { lawful = until-lawful r Stops R.lawful R.fine least begins most (singleton v); fine = until-fine r Stops R.lawful R.fine least begins most (singleton v) })
    (λ v follow g. subst (λ (m : Toks). Stops (m ++ follow)) (sym (until-min r Stops R.lawful R.fine least begins most (singleton v))) (begins follow))

block_no_try : (b : Bool) (n : ℕ) (p : First → Rule Statement) (tail : Rule Statement) (follow : Toks) → head try_of (((block b n p tail).min ++ []) ++ follow) ≡ None
unfolding block statement_of try_of is_fixed
block_no_try b n p tail follow = refl

block_no_begun : (b : Bool) (n : ℕ) (p : First → Rule Statement) (tail : Rule Statement) (follow : Toks) → head (begun_of b) (((block b n p tail).min ++ []) ++ follow) ≡ None
unfolding block statement_of begun_of is_fixed
block_no_begun b n p tail follow = refl

statement_begins : (f : Lexeme → Option First) (p : First → Rule Statement) (z follow : Toks) → Ended (((statement_of f p).min ++ z) ++ follow)
unfolding statement_of sign_of fixed_at is_fixed
statement_begins f p z follow = record { sign = refl; also = refl; other = refl }

-- the shortest expression is NULL
sum_apart : (n : ℕ) (follow : Toks) → head (fixed_at fixed.N) (((sum n).min ++ []) ++ follow) ≡ None
unfolding sum_of operand fixed_at is_fixed
sum_apart zero follow = refl
sum_apart (suc n) follow = refl

rest_by-is : (n : ℕ) (begin test : Rule Statement) → Sound begin Stops → Sound test Stops → (f : First) → Sound (rest_by (sum n) begin test f) Stops
rest_by-is n begin test B T first.Create = create_rest-is
rest_by-is n begin test B T first.Alter = anywhere alter_rest Stops alter_rest-is
rest_by-is n begin test B T first.Begin = B
rest_by-is n begin test B T first.Commit = work_part-is s.Commit
rest_by-is n begin test B T first.Rollback = work_part-is s.Rollback
rest_by-is n begin test B T first.Send = send_rest-is (sum n) (sum-is n)
rest_by-is n begin test B T first.Waitfor = waitfor_rest-is (sum n) (sum-is n)
rest_by-is n begin test B T first.Receive = map-is s.Receive (receive_rest (sum n)) Stops (receive_rest-is (sum n) (sum-is n))
rest_by-is n begin test B T first.Get = map-is s.GetGroup get_rest Stops (anywhere get_rest Stops get_rest-is)
rest_by-is n begin test B T first.Move = move_rest-is (sum n) (sum-is n)
rest_by-is n begin test B T first.End = end_rest-is (sum n) (sum-is n)
rest_by-is n begin test B T first.Insert = anywhere (insert_rest (sum n)) Stops (insert_rest-is (sum n) (sum-is n))
rest_by-is n begin test B T first.Update = update_rest-is (sum n) (sum-is n) (sum_apart n)
rest_by-is n begin test B T first.Delete = delete_rest-is (sum n) (sum-is n)
rest_by-is n begin test B T first.Select = select_rest-is (sum n) (sum-is n)
rest_by-is n begin test B T first.Declare = declare_rest-is (sum n) (sum-is n)
rest_by-is n begin test B T first.Set = set_rest-is (sum n) (sum-is n)
rest_by-is n begin test B T first.If = T
rest_by-is n begin test B T first.Return = pure-is s.Return Stops

pub rest_of-is : (b : Bool) (n : ℕ) (f : First) → Sound (rest_of b n f) Stops
unfolding rest_of
rest_of-is b zero f = let L = begin_last-is b (sum 0) (sum-is 0) in rest_by-is 0 (begin_last b (sum 0)) (begin_last b (sum 0)) L L f
rest_of-is b (suc n) f =
    let P = rest_of-is b n in
    let T = end_tail-is (sum n) (sum-is n) in
    let r = block b n (rest_of b n) (end_tail (sum n)) in
    let st = statement_of (first_of b n) (rest_of b n) in
    rest_by-is (suc n) (begin_rest b (sum (suc n)) r) (if_rest (condition n) st)
    (begin_rest-is b (sum (suc n)) r (sum-is (suc n)) (block-is b n (rest_of b n) (end_tail (sum n)) P T) (block_no_try b n (rest_of b n) (end_tail (sum n))) (block_no_begun b n (rest_of b n) (end_tail (sum n))))
    (if_rest-is (condition n) st (condition-is n) (statement_of-is (first_of b n) (rest_of b n) (first_is b n) P) (statement_begins (first_of b n) (rest_of b n))) f
