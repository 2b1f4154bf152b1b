-- What a statement asks of its instance, or its first fault: its expressions and variables in the order written.
use Rattle.std.specs.Prelude.{ℕ, ℤ, ◌-◌, List, length, slice_get, take, drop, Option, Some, None, option_map, Result, Ok}
use Rattle.std.specs.Option.{option_map_or}
use Rattle.std.specs.Str.Lossy.{utf8_lossy}
use Rattle.sb_lex.specs.Lex.{tokens_of}
use Rattle.sb_lex.specs.declared.token.Token.{Token}
use Rattle.sb_log.specs.declared.definitions.Ddl.TheVariants as ddl
use Rattle.sb_log.specs.declared.definitions.ProcedureDef.{ProcedureDef}
use Rattle.sb_log.specs.declared.identifiers.Handle.{Handle}
use Rattle.sb_log.specs.declared.identifiers.Who.{Who}
use Rattle.sb_log.specs.declared.requests.Filter.{Filter}
use Rattle.sb_log.specs.declared.requests.Filter.TheVariants as filters
use Rattle.sb_log.specs.declared.requests.How.{How}
use Rattle.sb_log.specs.declared.requests.How.TheVariants as how
use Rattle.sb_log.specs.declared.requests.NumberChange.{NumberChange}
use Rattle.sb_log.specs.declared.requests.NumberChange.TheVariants as change
use Rattle.sb_log.specs.declared.requests.Relation.{Relation}
use Rattle.sb_log.specs.declared.requests.Relation.TheVariants as relation
use Rattle.sb_log.specs.declared.requests.Request.{Request}
use Rattle.sb_log.specs.declared.requests.Request.TheVariants as request
use Rattle.sb_model.specs.Acceptance.{instance_id}
use Rattle.sb_model.specs.Sides.{Bytes}
use Rattle.sb_grammar.specs.declared.tree.BrokerInstance.{BrokerInstance}
use Rattle.sb_grammar.specs.declared.tree.BrokerInstance.TheVariants as broker
use Rattle.sb_grammar.specs.declared.tree.Change.{Change}
use Rattle.sb_grammar.specs.declared.tree.Change.TheVariants as changes
use Rattle.sb_grammar.specs.declared.tree.Columns.{Columns}
use Rattle.sb_grammar.specs.declared.tree.Columns.TheVariants as columns
use Rattle.sb_grammar.specs.declared.tree.DialogOption.{DialogOption}
use Rattle.sb_grammar.specs.declared.tree.DialogOption.TheVariants as option
use Rattle.sb_grammar.specs.declared.tree.Ending.{Ending}
use Rattle.sb_grammar.specs.declared.tree.Ending.TheVariants as ending
use Rattle.sb_grammar.specs.declared.tree.Expr.{Expr}
use Rattle.sb_grammar.specs.declared.tree.Filter.{Filter as Where}
use Rattle.sb_grammar.specs.declared.tree.Filter.TheVariants as where_
use Rattle.sb_grammar.specs.declared.tree.GetGroup.{GetGroup}
use Rattle.sb_grammar.specs.declared.tree.Receive.{Receive}
use Rattle.sb_grammar.specs.declared.tree.Selected.{Selected}
use Rattle.sb_grammar.specs.declared.tree.Statement.{Statement, out-Statement}
use Rattle.sb_grammar.specs.declared.tree.Statement.TheOpen.{Statement-F}
use Rattle.sb_grammar.specs.declared.tree.Waited.{Waited}
use Rattle.sb_grammar.specs.declared.tree.Waited.TheVariants as waited
use Rattle.sb_value.specs.declared.fault.Fault.{Fault}
use Rattle.sb_value.specs.Faults.{and_then}
use Rattle.sb_proc.specs.declared.dialog.Chosen.{Chosen}
use Rattle.sb_proc.specs.declared.rows.Changed.{Changed}
use Rattle.sb_proc.specs.Folds.{try_fold}
use Rattle.sb_proc.specs.Scopes.{Scope, is_declared, all_declared}
use Rattle.sb_proc.specs.Expressions.{number, text, identifier, number_or_null, text_or_null, bytes_or_null, if_written}

-- where a batch runs, and its text
pub record Place : Type 0 where
  pub who : Who
  pub batch : Bytes

abbrev pub place_with : Who → Bytes → Place
place_with who batch = record { who = who; batch = batch }

-- what a statement asks; none where it is done without its instance
abbrev pub Asked : Type 0
Asked = Result (Option Request) Fault

abbrev pub asks : Request → Asked
asks r = Ok (Some r)

-- where the last token ends
abbrev pub end_of_last : List Token → ℕ
end_of_last ts = option_map_or (λ t. t.end) (slice_get ts (length ts - 1)) 0

-- a procedure's text: from its AS to the end of its batch's last token
abbrev pub procedure_text : ℕ → Bytes → Bytes
procedure_text at batch = utf8_lossy (drop at (take (end_of_last (tokens_of batch).tokens) batch))

abbrev pub procedure_def : Bytes → Bytes → ProcedureDef
procedure_def name body = record { name = name; text = body }

-- ---- BEGIN DIALOG

-- the broker instance that is named
abbrev pub named_instance : Who → BrokerInstance → Handle
named_instance who broker.Current = instance_id who
named_instance who (broker.Other handle) = handle

abbrev pub choices : Relation → Option ℤ → Chosen
choices r lifetime = record { relation = r; lifetime = lifetime }

-- what the options say of the group and the lifetime
abbrev pub with_option : Scope → Chosen → DialogOption → Result Chosen Fault
with_option s c (option.RelatedConversation e) = and_then (identifier s e) (λ h. Ok (choices (relation.Conversation h) c.lifetime))
with_option s c (option.RelatedGroup e) = and_then (identifier s e) (λ g. Ok (choices (relation.Group g) c.lifetime))
with_option s c (option.Lifetime e) = and_then (number s e) (λ n. Ok (choices c.relation (Some n)))
with_option s c option.EncryptionOff = Ok c

abbrev pub chosen : Scope → List DialogOption → Result Chosen Fault
chosen s options = try_fold (with_option s) (choices relation.Alone None) options

-- ---- SEND

-- no body where none is written, and where it is NULL
abbrev pub body_of : Scope → Option Expr → Result (Option Bytes) Fault
body_of s None = Ok None
body_of s (Some e) = bytes_or_null s e

-- ---- RECEIVE and GET CONVERSATION GROUP

-- the variables that are assigned are declared
abbrev pub columns_declared : Scope → Columns → Result (Unit {0}) Fault
columns_declared s (columns.Assigned all) = all_declared s (λ a. a.variable) all
columns_declared s _ = Ok tt

abbrev pub filter_of : Scope → Where → Result Filter Fault
filter_of s where_.All = Ok filters.All
filter_of s (where_.Conversation e) = and_then (identifier s e) (λ h. Ok (filters.Side h))
filter_of s (where_.Group e) = and_then (identifier s e) (λ g. Ok (filters.Group g))

abbrev pub receive_request : Scope → Receive → Result Request Fault
receive_request s r =
    and_then (if_written (number s) r.top) (λ top.
    and_then (columns_declared s r.columns) (λ _.
    and_then (filter_of s r.filter) (λ f. Ok (request.Receive r.queue top f))))

abbrev pub group_request : Scope → GetGroup → Result Request Fault
group_request s g = and_then (is_declared s g.variable) (λ _. Ok (request.GetGroup g.queue))

abbrev pub waited_request : Scope → Waited → Result Request Fault
waited_request s (waited.Receive r) = receive_request s r
waited_request s (waited.GetGroup g) = group_request s g

-- ---- END CONVERSATION and UPDATE

abbrev pub how_of : Scope → Ending → Result How Fault
how_of s ending.Plain = Ok how.Plain
how_of s (ending.Error code description) = and_then (number s code) (λ c. and_then (text s description) (λ t. Ok (how.Error c t)))
how_of s ending.Cleanup = Ok how.Cleanup

abbrev pub changed : Option NumberChange → Option (Option Bytes) → Changed
changed n body = record { n = n; body = body }

-- a change by NULL makes the number NULL
abbrev pub changed_by : (ℤ → NumberChange) → Option ℤ → NumberChange
changed_by f z = option_map_or f z (change.To None)

-- what is changed of a row
abbrev pub with_change : Scope → Changed → Change → Result Changed Fault
with_change s c (changes.Number e) = and_then (number_or_null s e) (λ z. Ok (changed (Some (change.To z)) c.body))
with_change s c (changes.Add e) = and_then (number_or_null s e) (λ z. Ok (changed (Some (changed_by change.Add z)) c.body))
with_change s c (changes.Subtract e) = and_then (number_or_null s e) (λ z. Ok (changed (Some (changed_by change.Subtract z)) c.body))
with_change s c (changes.Body e) = and_then (text_or_null s e) (λ t. Ok (changed c.n (Some t)))

abbrev pub all_changed : Scope → List Change → Result Changed Fault
all_changed s all = try_fold (with_change s) (changed None None) all

-- ---- every statement

abbrev pub dialog_asked : Place → Scope → Bytes → Bytes → Expr → Option BrokerInstance → Option Bytes → List DialogOption → Asked
dialog_asked p s variable from to instance contract options =
    and_then (is_declared s variable) (λ _.
    and_then (text s to) (λ service.
    and_then (chosen s options) (λ c.
    asks (request.BeginDialog from service (option_map (named_instance p.who) instance) contract c.relation c.lifetime))))

abbrev pub send_asked : Scope → Expr → Option Bytes → Option Expr → Asked
send_asked s conversation kind body =
    and_then (identifier s conversation) (λ h. and_then (body_of s body) (λ b. asks (request.Send h kind b)))

abbrev pub move_asked : Scope → Expr → Expr → Asked
move_asked s conversation group =
    and_then (identifier s conversation) (λ h. and_then (identifier s group) (λ g. asks (request.Move h g)))

abbrev pub end_asked : Scope → Expr → Ending → Asked
end_asked s conversation e = and_then (identifier s conversation) (λ h. and_then (how_of s e) (λ w. asks (request.End h w)))

abbrev pub timer_asked : Scope → Expr → Expr → Asked
timer_asked s conversation timeout =
    and_then (identifier s conversation) (λ h. and_then (number s timeout) (λ n. asks (request.Timer h n)))

-- of conversations
abbrev pub asked_of_dialogs : Place → Scope → Statement-F Statement → Asked
asked_of_dialogs p s (Statement-F.BeginDialog variable from to instance contract options) =
    dialog_asked p s variable from to instance contract options
asked_of_dialogs p s (Statement-F.Send conversation kind body) = send_asked s conversation kind body
asked_of_dialogs p s (Statement-F.Move conversation group) = move_asked s conversation group
asked_of_dialogs p s (Statement-F.EndConversation conversation e) = end_asked s conversation e
asked_of_dialogs p s (Statement-F.Timer conversation timeout) = timer_asked s conversation timeout
asked_of_dialogs p s _ = Ok None

abbrev pub waitfor_asked : Scope → Waited → Option Expr → Asked
waitfor_asked s w timeout = and_then (waited_request s w) (λ r. and_then (if_written (number s) timeout) (λ _. asks r))

abbrev pub insert_asked : Scope → Bytes → Expr → Expr → Expr → Asked
insert_asked s table id n body =
    and_then (number s id) (λ key.
    and_then (number_or_null s n) (λ z.
    and_then (text_or_null s body) (λ t. asks (request.Insert table key z t))))

abbrev pub update_asked : Scope → Bytes → List Change → Expr → Asked
update_asked s table all id =
    and_then (all_changed s all) (λ c. and_then (number s id) (λ key. asks (request.Update table key c.n c.body)))

abbrev pub delete_asked : Scope → Bytes → Expr → Asked
delete_asked s table id = and_then (number s id) (λ key. asks (request.Delete table key))

abbrev pub select_asked : Scope → List Selected → Bytes → Expr → Asked
select_asked s all table id =
    and_then (all_declared s (λ x. x.variable) all) (λ _. and_then (number s id) (λ key. asks (request.Read table key)))

-- of messages and rows, else of conversations
abbrev pub asked_of_data : Place → Scope → Statement-F Statement → Asked
asked_of_data p s (Statement-F.Receive r) = and_then (receive_request s r) asks
asked_of_data p s (Statement-F.GetGroup g) = and_then (group_request s g) asks
asked_of_data p s (Statement-F.Waitfor w timeout) = waitfor_asked s w timeout
asked_of_data p s (Statement-F.Insert table id n body) = insert_asked s table id n body
asked_of_data p s (Statement-F.Update table all id) = update_asked s table all id
asked_of_data p s (Statement-F.Delete table id) = delete_asked s table id
asked_of_data p s (Statement-F.Select all table id) = select_asked s all table id
asked_of_data p s statement = asked_of_dialogs p s statement

abbrev pub procedure_asked : Place → Bytes → ℕ → Asked
procedure_asked p name at = asks (request.Define (ddl.Procedure (procedure_def name (procedure_text at p.batch))))

-- of definitions and transactions, else of messages, rows and conversations
abbrev pub asked_at : Place → Scope → Statement-F Statement → Asked
asked_at p s (Statement-F.Define d) = asks (request.Define d)
asked_at p s (Statement-F.CreateProcedure name at body) = procedure_asked p name at
asked_at p s (Statement-F.AlterQueue queue on) = asks (request.AlterQueue queue on)
asked_at p s Statement-F.BeginTransaction = asks request.Begin
asked_at p s Statement-F.Commit = asks request.Commit
asked_at p s Statement-F.Rollback = asks request.Rollback
asked_at p s statement = asked_of_data p s statement

abbrev pub asked : Place → Scope → Statement → Asked
asked p s statement = asked_at p s (out-Statement statement)
