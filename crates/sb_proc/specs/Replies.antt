-- What a reply leaves in the variables.
use Rattle.std.specs.Prelude.{ℕ, ℤ, pos, min, Bool, true, false, ◌-◌, List, fold, length, slice_get, codes, Option, Some, unwrap_or}
use Rattle.std.specs.Option.{option_map_or}
use Rattle.sb_log.specs.declared.messages.Kind.{Kind}
use Rattle.sb_log.specs.declared.messages.Kind.TheVariants as kinds
use Rattle.sb_log.specs.declared.messages.ReceivedItem.{ReceivedItem}
use Rattle.sb_log.specs.declared.requests.Reply.{Reply}
use Rattle.sb_log.specs.declared.requests.Reply.TheVariants as reply
use Rattle.sb_log.specs.declared.requests.Row.{Row}
use Rattle.sb_model.specs.Definitions.{system_type}
use Rattle.sb_model.specs.Sides.{Bytes}
use Rattle.sb_grammar.specs.declared.tree.Assignment.{Assignment}
use Rattle.sb_grammar.specs.declared.tree.Column.{Column}
use Rattle.sb_grammar.specs.declared.tree.Column.TheVariants as column
use Rattle.sb_grammar.specs.declared.tree.Columns.{Columns}
use Rattle.sb_grammar.specs.declared.tree.Columns.TheVariants as columns
use Rattle.sb_grammar.specs.declared.tree.GetGroup.{GetGroup}
use Rattle.sb_grammar.specs.declared.tree.Receive.{Receive}
use Rattle.sb_grammar.specs.declared.tree.RowColumn.{RowColumn}
use Rattle.sb_grammar.specs.declared.tree.RowColumn.TheVariants as row_column
use Rattle.sb_grammar.specs.declared.tree.Selected.{Selected}
use Rattle.sb_grammar.specs.declared.tree.Statement.{Statement, out-Statement}
use Rattle.sb_grammar.specs.declared.tree.Statement.TheOpen.{Statement-F}
use Rattle.sb_grammar.specs.declared.tree.Waited.{Waited}
use Rattle.sb_grammar.specs.declared.tree.Waited.TheVariants as waited
use Rattle.sb_value.specs.declared.value.Value.{Value}
use Rattle.sb_value.specs.declared.value.Value.TheVariants as values
use Rattle.sb_value.specs.Values.{cast}
use Rattle.sb_proc.specs.declared.variables.Variable.{Variable}
use Rattle.sb_proc.specs.Scopes.{Scope, assigned}

-- a count as a BIGINT, which ends where BIGINT does
abbrev pub counted : ℕ → ℤ
counted n = pos (min n 9223372036854775807)

-- the rows of a reply; the other replies leave the number as it was
abbrev pub rows_after : ℤ → Reply → ℤ
rows_after rows (reply.Rows count row) = counted count
rows_after rows (reply.Received items) = counted (length items)
rows_after rows _ = rows

abbrev pub or_null : {A : Type 0} → (A → Value) → Option A → Value
or_null f x = option_map_or f x values.Null

-- the name of a message's type
abbrev pub type_name : Kind → Bytes
type_name (kinds.App name) = name
type_name kinds.EndDialog = system_type (codes "EndDialog")
type_name kinds.Error = system_type (codes "Error")
type_name kinds.DialogTimer = system_type (codes "DialogTimer")

-- a column of a received message
abbrev pub column_of : ReceivedItem → Column → Value
column_of i column.Handle = values.Identifier i.handle
column_of i column.Group = values.Identifier i.group
column_of i column.TypeName = values.Text (type_name i.item.message.kind)
column_of i column.Sequence = values.Number (counted i.item.sequence)
column_of i column.Body = or_null values.Bytes i.item.message.body
column_of i (column.CastBody k) = unwrap_or (cast k (or_null values.Bytes i.item.message.body)) values.Null

abbrev pub row_column_of : Row → RowColumn → Value
row_column_of row row_column.Number = or_null values.Number row.n
row_column_of row row_column.Body = or_null values.Text row.body

abbrev pub after_assignment : ReceivedItem → List Variable → Assignment → List Variable
after_assignment i variables a = assigned a.variable (column_of i a.column) variables

abbrev pub after_selected : Row → List Variable → Selected → List Variable
after_selected row variables x = assigned x.variable (row_column_of row x.column) variables

-- assignments take the last message received; without one they change nothing
abbrev pub after_columns : List Variable → Columns → Option ReceivedItem → List Variable
after_columns variables (columns.Assigned all) (Some i) = fold (after_assignment i) variables all
after_columns variables _ _ = variables

abbrev pub after_received : List Variable → Receive → Reply → List Variable
after_received variables r (reply.Received items) = after_columns variables r.columns (slice_get items (length items - 1))
after_received variables r _ = variables

-- GET CONVERSATION GROUP that finds none leaves NULL
abbrev pub after_group : List Variable → GetGroup → Reply → List Variable
after_group variables g (reply.Group found) = assigned g.variable (or_null values.Identifier found) variables
after_group variables g _ = variables

abbrev pub after_dialog : List Variable → Bytes → Reply → List Variable
after_dialog variables name (reply.Dialog handle group) = assigned name (values.Identifier handle) variables
after_dialog variables name _ = variables

-- SELECT without a row changes nothing
abbrev pub after_row : List Variable → List Selected → Reply → List Variable
after_row variables all (reply.Rows count (Some row)) = fold (after_selected row) variables all
after_row variables all _ = variables

-- WAITFOR takes what it waited for
abbrev pub after_waited : List Variable → Waited → Reply → List Variable
after_waited variables (waited.Receive r) answer = after_received variables r answer
after_waited variables (waited.GetGroup g) answer = after_group variables g answer

abbrev pub variables_after_at : List Variable → Statement-F Statement → Reply → List Variable
variables_after_at variables (Statement-F.Receive r) answer = after_received variables r answer
variables_after_at variables (Statement-F.Waitfor w timeout) answer = after_waited variables w answer
variables_after_at variables (Statement-F.GetGroup g) answer = after_group variables g answer
variables_after_at variables (Statement-F.BeginDialog name from to instance contract options) answer = after_dialog variables name answer
variables_after_at variables (Statement-F.Select all table id) answer = after_row variables all answer
variables_after_at variables _ answer = variables

-- the variables after a statement's reply
abbrev pub scope_after : Scope → Statement → Reply → Scope
scope_after s statement answer =
    record { variables = variables_after_at s.variables (out-Statement statement) answer; rows = rows_after s.rows answer }

-- a statement that waits isn't done
abbrev pub is_waiting : Reply → Bool
is_waiting (reply.Waiting tx) = true
is_waiting _ = false
