-- Batches and procedures.
use Rattle.std.specs.Prelude.{◌≡◌, ℕ, Bool, true, false, List, [], Option, Some, None, if◌then◌else◌}
use Rattle.sb_grammar.specs.declared.lexeme.Lexeme.{Lexeme}
use Rattle.sb_grammar.specs.declared.tree.Statement.{Statement}
use Rattle.sb_grammar.specs.declared.tree.Statement.TheVariants as s
use Rattle.sb_grammar.specs.declared.choice.First.{First}
use Rattle.sb_grammar.specs.declared.choice.First.TheVariants as first
use Rattle.sb_grammar.specs.declared.choice.Place.{Place}
use Rattle.sb_grammar.specs.declared.choice.Place.TheVariants as place
use Rattle.sb_grammar.specs.declared.choice.Progress.{Progress}
use Rattle.sb_grammar.specs.declared.choice.Barred.{Barred}
use Rattle.sb_grammar.specs.declared.word.Fixed.TheVariants as fixed
use Rattle.sb_grammar.specs.Words.{is_fixed, example}
use Rattle.sb_grammar.specs.Rules.{Rule, Toks, token, alt, bind, map_rule, pure, barred, pushed, series, most}
use Rattle.sb_grammar.specs.Values.{word, qname}
use Rattle.sb_grammar.specs.Definitions.{create_rest}
use Rattle.sb_grammar.specs.Statements.{first_of, rest_of, closed, past_work}
use Rattle.sb_grammar.specs.Stops.{Stops, first_barred}

-- how deep statements and expressions nest
abbrev pub levels : ℕ
levels = 64

-- the text's end
abbrev pub AtEnd : Toks → Type 0
AtEnd follow = follow ≡ []

abbrev pub is_over : Place → Bool
is_over place.Closed = true
is_over _ = false

-- behind the last statement no other begins
unfoldable pub turn_bars : Place → Lexeme → Option Barred
turn_bars at t = if is_over at then None else first_barred t

abbrev pub with_statement : Progress → Place → Statement → Progress
with_statement q at v = record { statements = pushed q.statements v; place = at }

abbrev pub at_place : Progress → Place → Unit {0} → Progress
at_place q at _ = record { statements = q.statements; place = at }

abbrev pub at_start : Progress
at_start = record { statements = []; place = place.Start }

-- ---- procedures

-- COMMIT may be the last statement
unfoldable pub procedure_take : ℕ → Place → Lexeme → Option First
procedure_take n at t = if is_over at then None else (if is_fixed fixed.Commit t then Some first.Commit else first_of false n t)

-- TRAN or TRANSACTION
unfoldable pub transaction_of : Lexeme → Option (Unit {0})
transaction_of t = if is_fixed fixed.Tran t then Some tt else (if is_fixed fixed.Transaction t then Some tt else None)

abbrev pub dropped : {A : Type 0} → A → Option Statement
dropped _ = None

abbrev pub kept : Statement → Option Statement
kept v = Some v

-- the transaction that a procedure may begin before its first statement that isn't DECLARE or SET is dropped
unfoldable pub begin_or_transaction : Rule Statement → Rule (Option Statement)
begin_or_transaction begin = alt transaction_of (λ _. pure None) (map_rule kept begin) Stops

unfoldable pub last_commit : Rule (Option Statement)
last_commit = map_rule dropped past_work

abbrev pub kept_rest : ℕ → First → Rule (Option Statement)
kept_rest n f = map_rule kept (rest_of false n f)

-- what a statement of a procedure is, behind its first word
abbrev pub procedure_rest : ℕ → Place → First → Rule (Option Statement)
procedure_rest n at first.Commit = last_commit
procedure_rest n place.Start first.Begin = begin_or_transaction (rest_of false n first.Begin)
procedure_rest n at f = kept_rest n f

-- where reading stands behind a statement: at the start as long as none but DECLARE and SET is read
abbrev pub place_after : Place → First → Place
place_after at first.Commit = place.Closed
place_after place.Start first.Declare = place.Start
place_after place.Start first.Set = place.Start
place_after at f = place.Inside

abbrev pub with_maybe : Progress → Place → Option Statement → Progress
with_maybe q at (Some v) = with_statement q at v
with_maybe q at None = record { statements = q.statements; place = at }

unfoldable pub procedure_turn : ℕ → Progress → First → Rule Progress
procedure_turn n q f = map_rule (with_maybe q (place_after q.place f)) (closed (procedure_rest n q.place f))

abbrev pub procedure_bars : Progress → Lexeme → Option Barred
procedure_bars q = turn_bars q.place

abbrev pub procedure_first : ℕ → Progress → Lexeme → Option First
procedure_first n q = procedure_take n q.place

abbrev pub statements_of : Progress → List Statement
statements_of q = q.statements

-- the statements that follow some
abbrev pub procedure_more : ℕ → Progress → Rule Progress
procedure_more n q = series most procedure_bars (procedure_first n) (procedure_turn n) AtEnd q

-- one statement or more, up to the end
unfoldable pub procedure_body : ℕ → Rule (List Statement)
procedure_body n =
    barred (turn_bars place.Start)
    (bind (token (procedure_take n place.Start) (example fixed.Return) first.Return)
    (λ f. map_rule statements_of (bind (procedure_turn n at_start f) (series most procedure_bars (procedure_first n) (procedure_turn n) AtEnd) AtEnd)) AtEnd) AtEnd

-- the text of a procedure, from its AS on
unfoldable pub procedure : ℕ → Rule (List Statement)
procedure n = word fixed.As (procedure_body n)

-- ---- batches

-- AS, and where it begins
unfoldable pub as_at : Lexeme → Option ℕ
as_at t = if is_fixed fixed.As t then Some t.start else None

abbrev pub create_procedure : List ℕ → ℕ → List Statement → Statement
create_procedure q at body = s.CreateProcedure q at body

abbrev pub as_rule : Rule ℕ
as_rule = token as_at (example fixed.As) 0

-- behind CREATE PROCEDURE
unfoldable pub procedure_def : ℕ → Rule Statement
procedure_def n = bind qname (λ q. bind (token as_at (example fixed.As) 0) (λ at. map_rule (create_procedure q at) (procedure_body n)) AtEnd) AtEnd

-- PROCEDURE or PROC
unfoldable pub procedure_word : Lexeme → Option (Unit {0})
procedure_word t = if is_fixed fixed.Procedure t then Some tt else (if is_fixed fixed.Proc t then Some tt else None)

-- a procedure is a batch of its own, so CREATE PROCEDURE is its batch's first statement and the rest is its body
unfoldable pub create_turn : ℕ → Progress → Rule Progress
create_turn n q = alt procedure_word (λ _. map_rule (with_statement q place.Closed) (procedure_def n)) (map_rule (with_statement q place.Inside) (closed create_rest)) AtEnd

abbrev pub plain_turn : ℕ → Progress → First → Rule Progress
plain_turn n q f = map_rule (with_statement q place.Inside) (closed (rest_of true n f))

abbrev pub batch_by : ℕ → Progress → Place → First → Rule Progress
batch_by n q place.Start first.Create = create_turn n q
batch_by n q at f = plain_turn n q f

unfoldable pub batch_turn : ℕ → Progress → First → Rule Progress
batch_turn n q f = batch_by n q q.place f

unfoldable pub batch_take : ℕ → Place → Lexeme → Option First
batch_take n at t = if is_over at then None else first_of true n t

abbrev pub batch_bars : Progress → Lexeme → Option Barred
batch_bars q = turn_bars q.place

abbrev pub batch_first : ℕ → Progress → Lexeme → Option First
batch_first n q = batch_take n q.place

abbrev pub batch_more : ℕ → Progress → Rule Progress
batch_more n q = series most batch_bars (batch_first n) (batch_turn n) AtEnd q

-- one statement after the other
unfoldable pub batch : ℕ → Rule (List Statement)
batch n = map_rule statements_of (batch_more n at_start)
