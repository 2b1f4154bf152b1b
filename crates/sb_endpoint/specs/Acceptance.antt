-- The tables of acceptance, by the facts of the side that they are about.
use Rattle.std.specs.Prelude.{ℕ, Bool, false, not, ◌&&◌, ◌||◌, ◌+◌, ◌==◌, nat_le, nat_lt, if◌then◌else◌, List, is_none}
use Rattle.std.specs.Option.{option_map_or}
use Rattle.sb_log.specs.declared.identifiers.Who.{Who}
use Rattle.sb_log.specs.declared.entries.Entry.{Entry}
use Rattle.sb_log.specs.declared.messages.Data.{Data}
use Rattle.sb_log.specs.declared.messages.Ack.{Ack}
use Rattle.sb_log.specs.declared.steps.Verdict.{Verdict}
use Rattle.sb_log.specs.declared.steps.Verdict.TheVariants.{New, Next, Repeat, Early, Gone, NotHere, AckNew, AckOld}
use Rattle.sb_model.specs.Acceptance.{instance_id, is_for_other, is_type_refused, makes_side, offers, receiver, receiving_queue}
use Rattle.sb_model.specs.Catalog.{find_contract, find_service, queue_is_on}
use Rattle.sb_model.specs.Sides.{same_id}
use Rattle.sb_endpoint.specs.declared.endpoint.Endpoint.{Endpoint}
use Rattle.sb_endpoint.specs.States.{is_closed_by, is_made, numbered_by}

-- the number of what isn't here: 3 the service of a side that is to be made, 5 the contract, 6 the type; 0 where all is
abbrev pub missing_here : List Entry → Data → ℕ
missing_here log d =
    if makes_side log d && is_none (find_service log d.header.to_service) then 3
    else (if is_none (find_contract log d.header.contract) || (makes_side log d && not (offers log d)) then 5
    else (if is_type_refused log d.side d.header.contract d.content then 6 else 0))

-- the receiving queue is there and on
abbrev pub is_queue_on : List Entry → Data → Bool
is_queue_on log d = option_map_or (queue_is_on log) (receiving_queue log d) false

-- the first row that applies to a message, by that number and by whether the queue is on, which stands behind 3
abbrev pub verdict_on : Who → Data → Endpoint → ℕ → Bool → Verdict
verdict_on who d e missing on =
    if is_for_other who d then NotHere 1
    else (if not (is_made e) && (receiver d).initiator then NotHere 2
    else (if is_closed_by e then Gone
    else (if nat_le d.number e.accepted then Repeat
    else (if nat_lt (e.accepted + 1) d.number then Early
    else (if missing == 3 then NotHere 3
    else (if not on then NotHere 4
    else (if nat_lt 0 missing then NotHere missing
    else (if not (is_made e) then New else Next))))))))

-- the first row that applies to an acknowledgement
abbrev pub ack_verdict_on : Who → Ack → Endpoint → Verdict
ack_verdict_on who k e =
    if not (same_id k.to (instance_id who)) then NotHere 1
    else (if not (is_made e) then NotHere 2
    else (if nat_lt (numbered_by e) k.upto && not k.closed then NotHere 7
    else (if nat_lt e.acked k.upto || (k.closed && not e.closed) then AckNew
    else AckOld)))
