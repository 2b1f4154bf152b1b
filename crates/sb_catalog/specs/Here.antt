-- What a message that arrives needs of the catalog.
use Rattle.std.specs.Prelude.{ℕ, Bool, false, not, ◌&&◌, ◌||◌, if◌then◌else◌, List, is_none, nat_le, nat_lt, ◌+◌, ◌==◌}
use Rattle.std.specs.Option.{option_map_or}
use Rattle.sb_log.specs.declared.entries.Entry.{Entry}
use Rattle.sb_log.specs.declared.identifiers.Who.{Who}
use Rattle.sb_log.specs.declared.messages.Data.{Data}
use Rattle.sb_log.specs.declared.steps.Verdict.{Verdict}
use Rattle.sb_log.specs.declared.steps.Verdict.TheVariants.{New, Next, Repeat, Early, Gone, NotHere}
use Rattle.sb_log.specs.declared.definitions.ContractDef.{ContractDef}
use Rattle.sb_log.specs.declared.messages.Content.{Content}
use Rattle.sb_log.specs.declared.messages.Content.TheVariants as content
use Rattle.sb_model.specs.Catalog.{find_contract, find_service, queue_is_on, sender_of, may_be_sent_by}
use Rattle.sb_model.specs.Messages.{is_closed, accepted}
use Rattle.sb_model.specs.Acceptance.{is_for_other, makes_side, offers, has_body, is_empty_type, is_type_refused, receiver, receiving_queue}

-- the number of what isn't here: 3 the service of a side that is to be made, 5 the contract, 6 the type; 0 where all is
abbrev pub here : List Entry → Data → Bool → ℕ
here log d makes =
    if makes && is_none (find_service log d.header.to_service) then 3
    else (if is_none (find_contract log d.header.contract) || (makes && not (offers log d)) then 5
    else (if is_type_refused log d.side d.header.contract d.content then 6 else 0))

-- the table of acceptance by that number and by whether the receiving queue is on, which stands behind 3
abbrev pub verdict_by : Who → List Entry → Data → ℕ → Bool → Verdict
verdict_by who log d missing on =
    if is_for_other who d then NotHere 1
    else (if makes_side log d && (receiver d).initiator then NotHere 2
    else (if is_closed log (receiver d) then Gone
    else (if nat_le d.number (accepted log (receiver d)) then Repeat
    else (if nat_lt (accepted log (receiver d) + 1) d.number then Early
    else (if missing == 3 then NotHere 3
    else (if not on then NotHere 4
    else (if nat_lt 0 missing then NotHere missing
    else (if makes_side log d then New else Next))))))))

-- the receiving queue is there and on
abbrev pub is_receiving_on : List Entry → Data → Bool
is_receiving_on log d = option_map_or (queue_is_on log) (receiving_queue log d) false

-- the contract doesn't let this end send the type, or an EMPTY type has a body
abbrev pub refuses_type : List Entry → ContractDef → Bool → Content → Bool
refuses_type log def initiator (content.App kind body) =
    not (option_map_or (λ by. may_be_sent_by by initiator) (sender_of def kind) false) || (is_empty_type log kind && has_body body)
refuses_type log def initiator _ = false
