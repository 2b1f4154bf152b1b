-- The state of a conversation endpoint, and which statements a state allows.
use Rattle.std.specs.Prelude.{Bool, true, false, ◌&&◌, ◌||◌, if◌then◌else◌, List, [], ◌∷◌, drop}
use Rattle.std.specs.List.{list_any}
use Rattle.sb_log.specs.declared.identifiers.SideId.{SideId}
use Rattle.sb_log.specs.declared.identifiers.State.{State}
use Rattle.sb_log.specs.declared.identifiers.State.TheVariants.{SO, SI, CO, DI, DO, ER, CD}
use Rattle.sb_log.specs.declared.entries.Entry.{Entry}
use Rattle.sb_log.specs.declared.messages.Content.{Content}
use Rattle.sb_model.specs.Messages.{sends, is_ended, is_cleaned, is_expired, contents_accepted, acked, is_closed_by_ack, numbered, final_sent}
use Rattle.sb_log.specs.declared.messages.Content.TheVariants as content

abbrev pub is_final : Content → Bool
is_final (content.App name body) = false
is_final _ = true

abbrev pub is_error : Content → Bool
is_error (content.Error code text) = true
is_error _ = false

abbrev pub is_end_dialog : Content → Bool
is_end_dialog content.EndDialog = true
is_end_dialog _ = false

abbrev pub is_empty : {A : Type 0} → List A → Bool
is_empty [] = true
is_empty (x ∷ xs) = false

-- no end sent a final message, or it was acknowledged, or the partner is through too
abbrev pub is_done : List Entry → SideId → Bool
is_done log s =
    is_empty (final_sent log s) || is_empty (drop (acked log s) (numbered log s)) || is_closed_by_ack log s
    || list_any is_final (contents_accepted log s) || is_expired log s

-- the first row of the table that applies
abbrev pub state_of : List Entry → SideId → State
state_of log s =
    if is_cleaned log s || (is_ended log s && is_done log s) then CD
    else (if is_ended log s then DO
    else (if list_any is_error (contents_accepted log s) || is_expired log s then ER
    else (if list_any is_end_dialog (contents_accepted log s) then DI
    else (if s.initiator && is_empty (sends log s) && is_empty (contents_accepted log s) then SO
    else CO))))

abbrev pub same_state : State → State → Bool
same_state CD CD = true
same_state DO DO = true
same_state ER ER = true
same_state DI DI = true
same_state SO SO = true
same_state SI SI = true
same_state CO CO = true
same_state _ _ = false

abbrev pub may_send : State → Bool
may_send SO = true
may_send CO = true
may_send _ = false

-- END, BEGIN CONVERSATION TIMER and MOVE
abbrev pub may_end : State → Bool
may_end SO = true
may_end CO = true
may_end DI = true
may_end ER = true
may_end _ = false
