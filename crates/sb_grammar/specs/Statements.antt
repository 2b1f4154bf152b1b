-- Statements.
use Rattle.std.specs.Prelude.{ℕ, zero, suc, Bool, true, false, ◌&&◌, List, Option, Some, None, if◌then◌else◌}
use Rattle.sb_grammar.specs.declared.lexeme.Lexeme.{Lexeme}
use Rattle.sb_grammar.specs.declared.tree.Expr.{Expr}
use Rattle.sb_grammar.specs.declared.tree.Condition.{Condition}
use Rattle.sb_grammar.specs.declared.tree.Statement.{Statement}
use Rattle.sb_grammar.specs.declared.tree.Statement.TheVariants as s
use Rattle.sb_grammar.specs.declared.choice.Context.{Context}
use Rattle.sb_grammar.specs.declared.choice.Context.TheVariants as context
use Rattle.sb_grammar.specs.declared.choice.First.{First}
use Rattle.sb_grammar.specs.declared.choice.First.TheVariants as first
use Rattle.sb_grammar.specs.declared.choice.Begun.{Begun}
use Rattle.sb_grammar.specs.declared.choice.Begun.TheVariants as begun
use Rattle.sb_grammar.specs.declared.choice.Barred.{Barred}
use Rattle.sb_grammar.specs.declared.choice.Barred.TheVariants as barreds
use Rattle.sb_grammar.specs.declared.word.Fixed.TheVariants as fixed
use Rattle.sb_grammar.specs.Words.{is_fixed, fixed_at, example}
use Rattle.sb_grammar.specs.Rules.{Rule, token, alt, bind, map_rule, pure, optional, barred, singleton, until, most, skipped}
use Rattle.sb_grammar.specs.Values.{word}
use Rattle.sb_grammar.specs.Exprs.{sum, condition}
use Rattle.sb_grammar.specs.Definitions.{create_rest, alter_rest}
use Rattle.sb_grammar.specs.Dialogs.{dialog_rest, timer_rest, send_rest, move_rest, end_tail, end_rest, receive_rest, get_rest, waitfor_rest}
use Rattle.sb_grammar.specs.RowStatements.{insert_rest, update_rest, delete_rest, select_rest, declare_rest, set_rest}
use Rattle.sb_grammar.specs.Stops.{Stops, work_of, first_barred}

abbrev pub is_batch : Context → Bool
is_batch context.Batch = true
is_batch context.Procedure = false

unfoldable pub row_first : Lexeme → Option First
row_first t =
    if is_fixed fixed.Insert t then Some first.Insert
    else (if is_fixed fixed.Update t then Some first.Update
    else (if is_fixed fixed.Delete t then Some first.Delete
    else (if is_fixed fixed.Select t then Some first.Select
    else (if is_fixed fixed.Declare t then Some first.Declare
    else (if is_fixed fixed.Set t then Some first.Set
    else (if is_fixed fixed.Return t then Some first.Return else None))))))

unfoldable pub message_first : Lexeme → Option First
message_first t =
    if is_fixed fixed.Send t then Some first.Send
    else (if is_fixed fixed.Waitfor t then Some first.Waitfor
    else (if is_fixed fixed.Receive t then Some first.Receive
    else (if is_fixed fixed.Get t then Some first.Get
    else (if is_fixed fixed.Move t then Some first.Move else row_first t))))

-- the first word of a statement that neither nests nor is END, in a batch or in a procedure
unfoldable pub plain_first : Bool → Lexeme → Option First
plain_first in_batch t =
    if is_fixed fixed.Create t && in_batch then Some first.Create
    else (if is_fixed fixed.Alter t && in_batch then Some first.Alter
    else (if is_fixed fixed.Commit t && in_batch then Some first.Commit
    else (if is_fixed fixed.Begin t then Some first.Begin
    else (if is_fixed fixed.Rollback t then Some first.Rollback else message_first t))))

-- With no level left no IF begins.
unfoldable pub inner_first : Bool → ℕ → Lexeme → Option First
inner_first in_batch zero t = plain_first in_batch t
inner_first in_batch (suc n) t = if is_fixed fixed.If t then Some first.If else plain_first in_batch t

unfoldable pub first_of : Bool → ℕ → Lexeme → Option First
first_of in_batch n t = if is_fixed fixed.End t then Some first.End else inner_first in_batch n t

unfoldable pub semicolon : Rule (Unit {0})
semicolon = skipped (fixed_at fixed.Semicolon)

-- a statement, and the semicolon that may follow it
unfoldable pub closed : {A : Type 0} → Rule A → Rule A
closed r = bind r (λ v. map_rule (λ _. v) semicolon) Stops

abbrev pub always : {A : Type 0} → A → Unit {0} → A
always a _ = a

abbrev pub past_work : Rule (Unit {0})
past_work = skipped work_of

-- behind COMMIT and ROLLBACK
unfoldable pub work_part : Statement → Rule Statement
work_part st = map_rule (always st) past_work

unfoldable pub begun_of : Bool → Lexeme → Option Begun
begun_of in_batch t =
    if is_fixed fixed.Tran t && in_batch then Some begun.Transaction
    else (if is_fixed fixed.Transaction t && in_batch then Some begun.Transaction
    else (if is_fixed fixed.Dialog t then Some begun.Dialog
    else (if is_fixed fixed.Conversation t then Some begun.Conversation else None)))

abbrev pub begun_by : Rule Expr → Begun → Rule Statement
begun_by x begun.Transaction = pure s.BeginTransaction
begun_by x begun.Dialog = dialog_rest x
begun_by x begun.Conversation = timer_rest x

unfoldable pub try_of : Lexeme → Option Barred
try_of t = if is_fixed fixed.Try t then Some barreds.Try else None

-- behind BEGIN, where a block may begin
unfoldable pub begin_rest : Bool → Rule Expr → Rule (List Statement) → Rule Statement
begin_rest in_batch x r = barred try_of (alt (begun_of in_batch) (begun_by x) (map_rule s.Block r) Stops) Stops

-- behind BEGIN, where none may
unfoldable pub begin_last : Bool → Rule Expr → Rule Statement
begin_last in_batch x = barred try_of (bind (token (begun_of in_batch) (example fixed.Conversation) begun.Conversation) (begun_by x) Stops) Stops

unfoldable pub else_part : Rule Statement → Rule (Option Statement)
else_part st = optional (fixed_at fixed.Else) (λ _. st)

-- behind IF; an ELSE belongs to the nearest one
unfoldable pub if_rest : Rule Condition → Rule Statement → Rule Statement
if_rest c st = bind c (λ c. bind st (λ t. map_rule (s.If c t) (else_part st)) Stops) Stops

abbrev pub some_statement : Statement → Option Statement
some_statement v = Some v

-- behind END in a block: END before CONVERSATION begins a statement, and else the block ends
unfoldable pub block_end : Rule Statement → Rule (Option Statement)
block_end tail = alt (fixed_at fixed.Conversation) (λ _. map_rule some_statement (closed tail)) (pure None) Stops

abbrev pub end_word : Rule Statement → Rule (Option Statement)
end_word tail = word fixed.End (block_end tail)

abbrev pub any_turn : (Lexeme → Option First) → (First → Rule Statement) → Rule Statement → Rule (Option Statement)
any_turn f p tail = alt f (λ b. map_rule some_statement (closed (p b))) (end_word tail) Stops

-- one more statement of a block, or its END
unfoldable pub block_turn : (Lexeme → Option First) → (First → Rule Statement) → Rule Statement → Rule (Option Statement)
block_turn f p tail = barred first_barred (any_turn f p tail) Stops

abbrev pub any_statement : (Lexeme → Option First) → (First → Rule Statement) → Rule Statement
any_statement f p = bind (token f (example fixed.Return) first.Return) (λ b. closed (p b)) Stops

-- a statement, by its first word
unfoldable pub statement_of : (Lexeme → Option First) → (First → Rule Statement) → Rule Statement
statement_of f p = barred first_barred (any_statement f p) Stops

-- behind BEGIN: one statement or more, and END
unfoldable pub block : Bool → ℕ → (First → Rule Statement) → Rule Statement → Rule (List Statement)
block in_batch n p tail = bind (statement_of (first_of in_batch n) p) (λ v. until most (block_turn (inner_first in_batch n) p tail) Stops (singleton v)) Stops

abbrev pub received : Rule Expr → Rule Statement
received x = map_rule s.Receive (receive_rest x)

abbrev pub group : Rule Statement
group = map_rule s.GetGroup get_rest

-- the first words behind which statements nest
abbrev pub is_nesting : First → Bool
is_nesting first.Begin = true
is_nesting first.If = true
is_nesting _ = false

-- behind the first word, with the rules for BEGIN and for IF
abbrev pub rest_by : Rule Expr → Rule Statement → Rule Statement → First → Rule Statement
rest_by x begin test first.Create = create_rest
rest_by x begin test first.Alter = alter_rest
rest_by x begin test first.Begin = begin
rest_by x begin test first.Commit = work_part s.Commit
rest_by x begin test first.Rollback = work_part s.Rollback
rest_by x begin test first.Send = send_rest x
rest_by x begin test first.Waitfor = waitfor_rest x
rest_by x begin test first.Receive = received x
rest_by x begin test first.Get = group
rest_by x begin test first.Move = move_rest x
rest_by x begin test first.End = end_rest x
rest_by x begin test first.Insert = insert_rest x
rest_by x begin test first.Update = update_rest x
rest_by x begin test first.Delete = delete_rest x
rest_by x begin test first.Select = select_rest x
rest_by x begin test first.Declare = declare_rest x
rest_by x begin test first.Set = set_rest x
rest_by x begin test first.If = test
rest_by x begin test first.Return = pure s.Return

-- With so many levels left. At the last no block and no IF begins.
unfoldable pub rest_of : Bool → ℕ → First → Rule Statement
rest_of in_batch zero = rest_by (sum 0) (begin_last in_batch (sum 0)) (begin_last in_batch (sum 0))
rest_of in_batch (suc n) =
    rest_by (sum (suc n)) (begin_rest in_batch (sum (suc n)) (block in_batch n (rest_of in_batch n) (end_tail (sum n))))
    (if_rest (condition n) (statement_of (first_of in_batch n) (rest_of in_batch n)))

abbrev pub statement : Bool → ℕ → Rule Statement
statement in_batch n = statement_of (first_of in_batch n) (rest_of in_batch n)

abbrev pub block_at : Bool → ℕ → Rule (List Statement)
block_at in_batch n = block in_batch n (rest_of in_batch n) (end_tail (sum n))

abbrev pub turn : Bool → ℕ → Rule (Option Statement)
turn in_batch n = block_turn (inner_first in_batch n) (rest_of in_batch n) (end_tail (sum n))
