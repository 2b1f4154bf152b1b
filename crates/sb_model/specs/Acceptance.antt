-- The table of acceptance, of data frames and of acknowledgements.
use Rattle.std.specs.Prelude.{Bool, true, false, not, ◌&&◌, ◌||◌, ◌+◌, ◌*◌, ◌^◌, nat_le, nat_lt, if◌then◌else◌, List, Option, Some, None, is_none, length}
use Rattle.std.specs.Option.{option_map_or}
use Rattle.std.specs.List.{list_any}
use Rattle.sb_log.specs.declared.identifiers.Handle.{Handle}
use Rattle.sb_log.specs.declared.identifiers.SideId.{SideId}
use Rattle.sb_log.specs.declared.identifiers.Who.{Who}
use Rattle.sb_log.specs.declared.entries.Entry.{Entry}
use Rattle.sb_log.specs.declared.entries.Entry.TheVariants.{Accepted}
use Rattle.sb_log.specs.declared.messages.Data.{Data}
use Rattle.sb_log.specs.declared.messages.Ack.{Ack}
use Rattle.sb_log.specs.declared.messages.Content.{Content}
use Rattle.sb_log.specs.declared.steps.Verdict.{Verdict}
use Rattle.sb_log.specs.declared.steps.Verdict.TheVariants.{New, Next, Repeat, Early, Gone, NotHere, AckNew, AckOld}
use Rattle.sb_model.specs.Sides.{Bytes, same_name, partner, tag, same_id, id, has_side}
use Rattle.sb_model.specs.Messages.{is_closed, accepted, acked, is_closed_by_ack, numbered}
use Rattle.sb_model.specs.Items.{queue_of}
use Rattle.sb_model.specs.Catalog.{find_contract, find_service, find_message_type, sender_of, may_be_sent_by, queue_is_on, service_queue}
use Rattle.sb_log.specs.declared.messages.Content.TheVariants as content

-- the broker instance id
abbrev pub instance_id : Who → Handle
instance_id who = id (tag who * 2 ^ 64)

-- the receiving side
abbrev pub receiver : Data → SideId
receiver d = partner d.side

-- the frame names another instance
abbrev pub is_for_other : Who → Data → Bool
is_for_other who d = option_map_or (λ to. not (same_id to (instance_id who))) d.header.to false

abbrev pub makes_side : List Entry → Data → Bool
makes_side log d = not (has_side log (receiver d))

-- the queue of the receiving side, made or to be made
abbrev pub receiving_queue : List Entry → Data → Option Bytes
receiving_queue log d = if makes_side log d then service_queue log d.header.to_service else queue_of log (receiver d)

-- the service of the side that is made offers the contract
abbrev pub offers : List Entry → Data → Bool
offers log d = option_map_or (λ def. list_any (same_name d.header.contract) def.contracts) (find_service log d.header.to_service) false

abbrev pub has_body : Option Bytes → Bool
has_body None = false
has_body (Some bytes) = true

abbrev pub is_empty_type : List Entry → Bytes → Bool
is_empty_type log name = option_map_or (λ def. def.empty) (find_message_type log name) false

-- the type isn't in the contract for its sender, or an EMPTY type has a body
abbrev pub is_type_refused : List Entry → SideId → Bytes → Content → Bool
is_type_refused log from contract (content.App kind body) =
    not (option_map_or (λ def. option_map_or (λ by. may_be_sent_by by from.initiator) (sender_of def kind) false) (find_contract log contract) false)
    || (is_empty_type log kind && has_body body)
is_type_refused log from contract _ = false

-- the first row that applies to a data frame
abbrev pub verdict : Who → List Entry → Data → Verdict
verdict who log d =
    if is_for_other who d then NotHere 1
    else (if makes_side log d && (receiver d).initiator then NotHere 2
    else (if is_closed log (receiver d) then Gone
    else (if nat_le d.number (accepted log (receiver d)) then Repeat
    else (if nat_lt (accepted log (receiver d) + 1) d.number then Early
    else (if makes_side log d && is_none (find_service log d.header.to_service) then NotHere 3
    else (if not (option_map_or (queue_is_on log) (receiving_queue log d) false) then NotHere 4
    else (if is_none (find_contract log d.header.contract) || (makes_side log d && not (offers log d)) then NotHere 5
    else (if is_type_refused log d.side d.header.contract d.content then NotHere 6
    else (if makes_side log d then New else Next)))))))))

-- the entry of an accepted frame, with the handles that a made side draws
abbrev pub accepted_entry : List Entry → Handle → Handle → Data → Entry
accepted_entry log handle group d =
    Accepted (receiver d) d.number
    (if makes_side log d then Some (record { handle = handle; group = group; header = d.header }) else None) d.content

-- it acknowledges more than was numbered and isn't closed
abbrev pub never_sent : List Entry → Ack → Bool
never_sent log k = nat_lt (length (numbered log k.side)) k.upto && not k.closed

-- the first row that applies to an acknowledgement
abbrev pub ack_verdict : Who → List Entry → Ack → Verdict
ack_verdict who log k =
    if not (same_id k.to (instance_id who)) then NotHere 1
    else (if not (has_side log k.side) then NotHere 2
    else (if never_sent log k then NotHere 7
    else (if nat_lt (acked log k.side) k.upto || (k.closed && not (is_closed_by_ack log k.side)) then AckNew
    else AckOld)))
