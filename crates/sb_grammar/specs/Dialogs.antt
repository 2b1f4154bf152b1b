-- Statements on dialogs and messages, behind their first words. The argument is the rule for expressions.
use Rattle.std.specs.Prelude.{◌≡◌, ℕ, Bool, true, false, not, ◌&&◌, List, [], ◌∷◌, Option, Some, None, if◌then◌else◌}
use Rattle.sb_log.specs.declared.refusals.ValueKind.{ValueKind}
use Rattle.sb_grammar.specs.declared.lexeme.Lexeme.{Lexeme}
use Rattle.sb_grammar.specs.declared.tree.Expr.{Expr}
use Rattle.sb_grammar.specs.declared.tree.BrokerInstance.{BrokerInstance}
use Rattle.sb_grammar.specs.declared.tree.DialogOption.TheVariants as dialog_option
use Rattle.sb_grammar.specs.declared.tree.Column.{Column}
use Rattle.sb_grammar.specs.declared.tree.Column.TheVariants as column_is
use Rattle.sb_grammar.specs.declared.tree.Assignment.{Assignment}
use Rattle.sb_grammar.specs.declared.tree.Columns.{Columns}
use Rattle.sb_grammar.specs.declared.tree.Columns.TheVariants as columns_are
use Rattle.sb_grammar.specs.declared.tree.Filter.{Filter}
use Rattle.sb_grammar.specs.declared.tree.Filter.TheVariants as filters
use Rattle.sb_grammar.specs.declared.tree.Receive.{Receive}
use Rattle.sb_grammar.specs.declared.tree.GetGroup.{GetGroup}
use Rattle.sb_grammar.specs.declared.tree.Waited.{Waited}
use Rattle.sb_grammar.specs.declared.tree.Waited.TheVariants as waited_is
use Rattle.sb_grammar.specs.declared.tree.Ending.{Ending}
use Rattle.sb_grammar.specs.declared.tree.Ending.TheVariants as endings
use Rattle.sb_grammar.specs.declared.tree.Statement.{Statement}
use Rattle.sb_grammar.specs.declared.tree.Statement.TheVariants as s
use Rattle.sb_grammar.specs.declared.choice.Barred.{Barred}
use Rattle.sb_grammar.specs.declared.choice.Barred.TheVariants as barreds
use Rattle.sb_grammar.specs.declared.choice.DialogWord.{DialogWord}
use Rattle.sb_grammar.specs.declared.choice.DialogWord.TheVariants as dialog_word
use Rattle.sb_grammar.specs.declared.choice.DialogOptions.{DialogOptions}
use Rattle.sb_grammar.specs.declared.word.Fixed.TheVariants as fixed
use Rattle.sb_grammar.specs.Words.{is_fixed, fixed_at, example}
use Rattle.sb_grammar.specs.Rules.{Rule, Toks, token, also, ended, alt, bind, map_rule, pure, optional, loop, barred, push_step, pushed, most, Any, Rests, head, skipped}
use Rattle.sb_grammar.specs.Values.{sign, word, phrase, name, qname, variable, variable_of, kind, broker}
use Rattle.sb_grammar.specs.Exprs.{NoSign}
use Rattle.sb_grammar.specs.Options.{Choices, options}
use Rattle.sb_grammar.specs.Definitions.{commas, unbarred, never}
use Rattle.sb_grammar.specs.Stops.{Stops, into_of}

-- ---- BEGIN DIALOG

unfoldable pub dialog_take : Bool → Bool → Bool → Lexeme → Option DialogWord
dialog_take related lifetime encryption t =
    if is_fixed fixed.RelatedConversation t && related then Some dialog_word.RelatedConversation
    else (if is_fixed fixed.RelatedConversationGroup t && related then Some dialog_word.RelatedGroup
    else (if is_fixed fixed.Lifetime t && lifetime then Some dialog_word.Lifetime
    else (if is_fixed fixed.Encryption t && encryption then Some dialog_word.Encryption else None)))

abbrev pub dialog_next : Bool → Bool → Bool → Option DialogWord
dialog_next related lifetime encryption =
    if encryption then Some dialog_word.Encryption
    else (if lifetime then Some dialog_word.Lifetime
    else (if related then Some dialog_word.RelatedConversation else None))

abbrev pub dialog_example : DialogWord → Lexeme
dialog_example dialog_word.RelatedConversation = example fixed.RelatedConversation
dialog_example dialog_word.RelatedGroup = example fixed.RelatedConversationGroup
dialog_example dialog_word.Lifetime = example fixed.Lifetime
dialog_example dialog_word.Encryption = example fixed.Encryption

abbrev pub with_conversation : DialogOptions → Expr → DialogOptions
with_conversation q x = record q { options = pushed q.options (dialog_option.RelatedConversation x); is_related = true }

abbrev pub with_group : DialogOptions → Expr → DialogOptions
with_group q x = record q { options = pushed q.options (dialog_option.RelatedGroup x); is_related = true }

abbrev pub with_lifetime : DialogOptions → Expr → DialogOptions
with_lifetime q x = record q { options = pushed q.options (dialog_option.Lifetime x); has_lifetime = true }

abbrev pub with_encryption : DialogOptions → Unit {0} → DialogOptions
with_encryption q _ = record q { options = pushed q.options dialog_option.EncryptionOff; has_encryption = true }

unfoldable pub encryption_bars : Lexeme → Option Barred
encryption_bars t = if is_fixed fixed.On t then Some barreds.On else None

abbrev pub encryption : Rule (Unit {0})
encryption = barred encryption_bars (sign fixed.Off) Any

unfoldable pub dialog_value : Rule Expr → DialogOptions → DialogWord → Rule DialogOptions
dialog_value x q dialog_word.RelatedConversation = word fixed.Equals (map_rule (with_conversation q) x)
dialog_value x q dialog_word.RelatedGroup = word fixed.Equals (map_rule (with_group q) x)
dialog_value x q dialog_word.Lifetime = word fixed.Equals (map_rule (with_lifetime q) x)
dialog_value x q dialog_word.Encryption = word fixed.Equals (map_rule (with_encryption q) encryption)

-- The two options that relate a dialog exclude each other.
abbrev pub dialog_choices : Rule Expr → Choices DialogOptions DialogWord
dialog_choices x = record {
  bars = unbarred;
  take = λ q. dialog_take (not q.is_related) (not q.has_lifetime) (not q.has_encryption);
  value = dialog_value x;
  next = λ q. dialog_next (not q.is_related) (not q.has_lifetime) (not q.has_encryption);
  needs = never;
  example = dialog_example;
  Ends = NoSign;
}

abbrev pub no_dialog_options : DialogOptions
no_dialog_options = record { options = []; is_related = false; has_lifetime = false; has_encryption = false }

unfoldable pub dialog_options : Rule Expr → Rule DialogOptions
dialog_options x = alt (fixed_at fixed.With) (λ _. options (dialog_choices x) 2 no_dialog_options) (pure no_dialog_options) Stops

unfoldable pub contract_part : Rule (Option (List ℕ))
contract_part = optional (fixed_at fixed.On) (λ _. word fixed.Contract name)

unfoldable pub instance_part : Rule (Option BrokerInstance)
instance_part = optional (fixed_at fixed.Comma) (λ _. broker)

abbrev pub begin_dialog : List ℕ → List ℕ → Expr → Option BrokerInstance → Option (List ℕ) → DialogOptions → Statement
begin_dialog v from to instance contract q = s.BeginDialog v from to instance contract q.options

-- behind the target's service
unfoldable pub dialog_end : Rule Expr → List ℕ → List ℕ → Expr → Rule Statement
dialog_end x v f to = bind instance_part (λ i. bind contract_part (λ c. map_rule (begin_dialog v f to i c) (dialog_options x)) Stops) Stops

unfoldable pub conversation_word : Rule (Unit {0})
conversation_word = skipped (fixed_at fixed.Conversation)

-- behind BEGIN DIALOG
unfoldable pub dialog_rest : Rule Expr → Rule Statement
dialog_rest x =
    also conversation_word (bind variable (λ v. also (phrase (fixed.From ∷ fixed.Service ∷ []))
    (bind name (λ f. also (phrase (fixed.To ∷ fixed.Service ∷ [])) (bind x (dialog_end x v f) Stops)) Stops)) Stops)

abbrev pub timer : Expr → Expr → Statement
timer c t = s.Timer c t

-- behind BEGIN CONVERSATION
unfoldable pub timer_rest : Rule Expr → Rule Statement
timer_rest x = also (phrase (fixed.Timer ∷ fixed.Open ∷ [])) (bind x (λ c. also (phrase (fixed.Close ∷ fixed.Timeout ∷ fixed.Equals ∷ [])) (map_rule (timer c) x)) Stops)

-- ---- SEND, MOVE, END CONVERSATION

unfoldable pub kind_part : Rule (Option (List ℕ))
kind_part = optional (fixed_at fixed.Message) (λ _. word fixed.Type name)

unfoldable pub body_part : Rule Expr → Rule (Option Expr)
body_part x = optional (fixed_at fixed.Open) (λ _. ended x (sign fixed.Close))

-- behind SEND
unfoldable pub send_rest : Rule Expr → Rule Statement
send_rest x = also (phrase (fixed.On ∷ fixed.Conversation ∷ [])) (bind x (λ c. bind kind_part (λ k. map_rule (s.Send c k) (body_part x)) Stops) Stops)

-- behind MOVE
unfoldable pub move_rest : Rule Expr → Rule Statement
move_rest x = word fixed.Conversation (bind x (λ c. word fixed.To (map_rule (s.Move c) x)) Stops)

abbrev pub cleanup : Unit {0} → Ending
cleanup _ = endings.Cleanup

-- a code and a description
abbrev pub described : Rule Expr → Rule Ending
described x = bind x (λ code. also (phrase (fixed.Description ∷ fixed.Equals ∷ [])) (map_rule (endings.Error code) x)) NoSign

abbrev pub error_ending : Rule Expr → Rule Ending
error_ending x = also (phrase (fixed.Error ∷ fixed.Equals ∷ [])) (described x)

-- behind WITH
unfoldable pub ending_with : Rule Expr → Rule Ending
ending_with x = alt (fixed_at fixed.Cleanup) (λ _. pure endings.Cleanup) (error_ending x) NoSign

unfoldable pub ending_part : Rule Expr → Rule Ending
ending_part x = alt (fixed_at fixed.With) (λ _. ending_with x) (pure endings.Plain) Stops

-- behind END CONVERSATION
unfoldable pub end_tail : Rule Expr → Rule Statement
end_tail x = bind x (λ c. map_rule (s.EndConversation c) (ending_part x)) Stops

-- behind END
unfoldable pub end_rest : Rule Expr → Rule Statement
end_rest x = word fixed.Conversation (end_tail x)

-- ---- RECEIVE, GET CONVERSATION GROUP, WAITFOR

unfoldable pub top_part : Rule Expr → Rule (Option Expr)
top_part x = optional (fixed_at fixed.Top) (λ _. word fixed.Open (ended x (sign fixed.Close)))

unfoldable pub column_of : Lexeme → Option Column
column_of t =
    if is_fixed fixed.ConversationHandle t then Some column_is.Handle
    else (if is_fixed fixed.ConversationGroupId t then Some column_is.Group
    else (if is_fixed fixed.MessageTypeName t then Some column_is.TypeName
    else (if is_fixed fixed.MessageSequenceNumber t then Some column_is.Sequence
    else (if is_fixed fixed.MessageBody t then Some column_is.Body else None))))

abbrev pub cast_body : ValueKind → Column
cast_body k = column_is.CastBody k

abbrev pub plain_column : Rule Column
plain_column = token column_of (example fixed.MessageBody) column_is.Body

-- behind CAST
abbrev pub body_as : Rule Column
body_as = also (phrase (fixed.Open ∷ fixed.MessageBody ∷ fixed.As ∷ [])) (ended (map_rule cast_body kind) (sign fixed.Close))

-- a column, or its CAST
unfoldable pub column : Rule Column
column = alt (fixed_at fixed.Cast) (λ _. body_as) plain_column Any

abbrev pub assigned : List ℕ → Column → Assignment
assigned v c = record { variable = v; column = c }

-- behind the variable of an assignment
unfoldable pub assignment_rest : List ℕ → Rule Assignment
assignment_rest v = word fixed.Equals (map_rule (assigned v) column)

unfoldable pub assignment : Rule Assignment
assignment = bind variable assignment_rest Any

abbrev pub first_assigned : Assignment → List Assignment
first_assigned a = a ∷ []

-- all assignments, where the first variable is read
unfoldable pub assignments : List ℕ → Rule (List Assignment)
assignments v = bind (map_rule first_assigned (assignment_rest v)) (λ all. loop most (fixed_at fixed.Comma) (push_step assignment) all) (Rests (fixed_at fixed.Comma) (push_step assignment))

abbrev pub NoComma : Toks → Type 0
NoComma follow = head (fixed_at fixed.Comma) follow ≡ None

abbrev pub named_columns : Rule Columns
named_columns = map_rule columns_are.Named (commas column)

abbrev pub some_columns : Rule Columns
some_columns = alt variable_of (λ v. map_rule columns_are.Assigned (assignments v)) named_columns NoComma

-- `*`, or columns, or assignments
unfoldable pub columns : Rule Columns
columns = alt (fixed_at fixed.Star) (λ _. pure columns_are.All) some_columns NoComma

-- whether a filter is by group
unfoldable pub filter_of : Lexeme → Option Bool
filter_of t = if is_fixed fixed.ConversationHandle t then Some false else (if is_fixed fixed.ConversationGroupId t then Some true else None)

abbrev pub filtered : Bool → Expr → Filter
filtered false x = filters.Conversation x
filtered true x = filters.Group x

abbrev pub filter_by : Rule Expr → Bool → Rule Filter
filter_by x by = word fixed.Equals (map_rule (filtered by) x)

abbrev pub filter : Rule Expr → Rule Filter
filter x = bind (token filter_of (example fixed.ConversationHandle) false) (filter_by x) NoSign

unfoldable pub filter_part : Rule Expr → Rule Filter
filter_part x = barred into_of (alt (fixed_at fixed.Where) (λ _. filter x) (pure filters.All) Stops) Stops

abbrev pub received : Option Expr → Columns → List ℕ → Filter → Receive
received top columns queue filter = record { top = top; columns = columns; queue = queue; filter = filter }

-- behind RECEIVE
unfoldable pub receive_rest : Rule Expr → Rule Receive
receive_rest x = bind (top_part x) (λ t. bind columns (λ c. word fixed.From (bind qname (λ q. map_rule (received t c q) (filter_part x)) Stops)) Stops) Stops

abbrev pub group_of_queue : List ℕ → List ℕ → GetGroup
group_of_queue v q = record { variable = v; queue = q }

-- behind GET
unfoldable pub get_rest : Rule GetGroup
get_rest = also (phrase (fixed.Conversation ∷ fixed.Group ∷ [])) (bind variable (λ v. word fixed.From (map_rule (group_of_queue v) qname)) Any)

-- whether a wait is for a group
unfoldable pub waited_of : Lexeme → Option Bool
waited_of t = if is_fixed fixed.Receive t then Some false else (if is_fixed fixed.Get t then Some true else None)

abbrev pub waited_by : Rule Expr → Bool → Rule Waited
waited_by x false = map_rule waited_is.Receive (receive_rest x)
waited_by x true = map_rule waited_is.GetGroup get_rest

abbrev pub waited : Rule Expr → Rule Waited
waited x = bind (token waited_of (example fixed.Get) true) (waited_by x) Stops

unfoldable pub timeout_part : Rule Expr → Rule (Option Expr)
timeout_part x = optional (fixed_at fixed.Comma) (λ _. word fixed.Timeout x)

abbrev pub waitfor : Waited → Option Expr → Statement
waitfor w t = s.Waitfor w t

-- behind WAITFOR
unfoldable pub waitfor_rest : Rule Expr → Rule Statement
waitfor_rest x =
    word fixed.Open (bind (waited x) (λ w. word fixed.Close (map_rule (waitfor w) (timeout_part x))) Stops)
