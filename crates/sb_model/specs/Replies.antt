-- The table of dialog and row requests: the first refusal that applies, else what the request adds and its reply.
use Rattle.sb_log.specs.declared.messages.ReceivedItem.{ReceivedItem}
use Rattle.sb_log.specs.Names.{is_name, character_count}
use Rattle.std.specs.Prelude.{ℕ, ℤ, pos, negsuc, Bool, not, nat_abs, ◌&&◌, ◌||◌, ◌+◌, ◌^◌, ◌%◌, ◌+ℤ◌, ◌-ℤ◌, int_le, nat_lt, if◌then◌else◌, List, [], ◌∷◌, Option, Some, None, Result, Ok, Err, map, length, option_map, option_and_then, unwrap_or}
use Rattle.std.specs.Option.{option_map_or}
use Rattle.std.specs.List.{list_any}
use Rattle.sb_log.specs.declared.identifiers.Handle.{Handle}
use Rattle.sb_log.specs.declared.identifiers.SideId.{SideId}
use Rattle.sb_log.specs.declared.identifiers.State.{State}
use Rattle.sb_log.specs.declared.identifiers.State.TheVariants.{SO}
use Rattle.sb_log.specs.declared.identifiers.Who.{Who}
use Rattle.sb_log.specs.declared.entries.Entry.{Entry}
use Rattle.sb_log.specs.declared.entries.Op.{Op}
use Rattle.sb_log.specs.declared.entries.Op.TheVariants.{Begin, Send, Took, End, Cleanup, Move, Timer, Put, Delete}
use Rattle.sb_log.specs.declared.entries.Final.{Final}
use Rattle.sb_log.specs.declared.messages.Item.{Item}
use Rattle.sb_log.specs.declared.refusals.Refusal.{Refusal}
use Rattle.sb_log.specs.declared.requests.Request.{Request}
use Rattle.sb_log.specs.declared.requests.Relation.{Relation}
use Rattle.sb_log.specs.declared.requests.Filter.{Filter}
use Rattle.sb_log.specs.declared.requests.How.{How}
use Rattle.sb_log.specs.declared.requests.NumberChange.{NumberChange}
use Rattle.sb_log.specs.declared.requests.Row.{Row}
use Rattle.sb_log.specs.declared.requests.Reply.{Reply}
use Rattle.sb_model.specs.Sides.{Bytes, id, made, side_of}
use Rattle.sb_model.specs.Messages.{is_cleaned, is_expired, contents_accepted}
use Rattle.sb_model.specs.Catalog.{find_message_type, find_contract, find_queue, find_service, find_table, is_on, sender_of, may_be_sent_by, default_name}
use Rattle.sb_model.specs.States.{state_of, same_state, may_send, may_end, is_final}
use Rattle.sb_model.specs.Groups.{group_of, group_exists}
use Rattle.sb_model.specs.Rows.{rows_of}
use Rattle.sb_model.specs.Transactions.{OpenTransaction, Key, holder, key_holder, view}
use Rattle.sb_model.specs.Pick.{pick, Pick}
use Rattle.sb_model.specs.Acceptance.{instance_id, has_body}
use Rattle.sb_model.specs.Refusals.{refuse_if, unless_refused, need, and_then, when}
use Rattle.sb_model.specs.ErrorBody.{utf16}
use Rattle.sb_log.specs.declared.entries.Final.TheVariants as final
use Rattle.sb_log.specs.declared.refusals.Refusal.TheVariants as refusal
use Rattle.sb_log.specs.declared.requests.Request.TheVariants as request
use Rattle.sb_log.specs.declared.requests.Relation.TheVariants as relation
use Rattle.sb_log.specs.declared.requests.Filter.TheVariants as filters
use Rattle.sb_log.specs.declared.requests.How.TheVariants as how
use Rattle.sb_log.specs.declared.requests.NumberChange.TheVariants as change
use Rattle.sb_log.specs.declared.requests.Reply.TheVariants as reply

-- what the request is asked in: the instance, its log, its open transactions, the transaction, the moment and the next handle
pub record Ask : Type 0 where
  pub who : Who
  pub log : List Entry
  pub open_txns : List OpenTransaction
  pub tx : ℕ
  pub now : ℕ
  pub next : ℕ

-- what it adds to its transaction, how many handles it draws, and its reply
pub record Plan : Type 0 where
  pub groups : List Handle
  pub keys : List Key
  pub ops : List Op
  pub drawn : ℕ
  pub reply : Reply

abbrev pub Planned : Type 0
Planned = Result Plan Refusal

abbrev pub seen : Ask → List Entry
seen ask = view ask.log ask.open_txns ask.tx

-- the n-th handle from the counter on
abbrev pub drawn_handle : Ask → ℕ → Handle
drawn_handle ask n = id ((instance_id ask.who).0 + (ask.next + n) % 2 ^ 64)

-- 16: a side that is there and isn't cleaned
abbrev pub live : Ask → Handle → Option SideId
live ask handle =
    option_and_then (λ s. if is_cleaned (seen ask) s then None else Some s) (side_of (seen ask) handle)

abbrev pub with_side : Ask → Handle → (SideId → Planned) → Planned
with_side ask handle rest = need (live ask handle) (refusal.NoConversation handle) rest

-- 25: the group is free
abbrev pub with_group : Ask → Handle → Planned → Planned
with_group ask g rest = unless_refused (option_map refusal.GroupHeld (holder ask.open_txns g ask.tx)) rest

-- 26: the key is free
abbrev pub with_key : Ask → Key → Planned → Planned
with_key ask k rest = unless_refused (option_map refusal.RowHeld (key_holder ask.open_txns k ask.tx)) rest

abbrev pub own_group : Ask → SideId → Handle
own_group ask s = unwrap_or (group_of (seen ask) s) s.conversation

-- 18
abbrev pub in_state : Ask → SideId → (State → Bool) → Planned → Planned
in_state ask s allows rest = refuse_if (not (allows (state_of (seen ask) s))) (refusal.WrongState (state_of (seen ask) s)) rest

-- 23
abbrev pub in_range : ℤ → ℕ → ℕ → Bool
in_range z low high = int_le (pos low) z && int_le z (pos high)

abbrev pub with_number : ℤ → Planned → Planned
with_number z rest = refuse_if (not (in_range z 1 2147483647)) (refusal.BadNumber z) rest

abbrev pub with_optional_number : Option ℤ → Planned → Planned
with_optional_number None rest = rest
with_optional_number (Some z) rest = with_number z rest

abbrev pub planned : List Handle → List Op → Reply → Planned
planned groups ops answer = Ok (record { groups = groups; keys = []; ops = ops; drawn = 0; reply = answer })

-- the group that the new side is made with, and whether it is drawn
abbrev pub related : Ask → Relation → Option Handle
related ask relation.Alone = None
related ask (relation.Conversation handle) = option_and_then (group_of (seen ask)) (live ask handle)
related ask (relation.Group g) = Some g

abbrev pub with_relation : Ask → Relation → Planned → Planned
with_relation ask (relation.Conversation handle) rest = with_side ask handle (λ s. rest)
with_relation ask _ rest = rest

abbrev pub expires : Ask → Option ℤ → ℕ
expires ask lifetime = ask.now + option_map_or nat_abs lifetime 2147483647

abbrev pub begun : Ask → Bytes → Bytes → Option Handle → Bytes → Handle → ℕ → Option ℤ → Planned
begun ask from to instance contract g drawn lifetime =
    Ok (record {
      groups = g ∷ [];
      keys = [];
      drawn = drawn;
      ops = Begin (drawn_handle ask 0) g (record {
        from_service = from;
        to_service = to;
        contract = contract;
        from = instance_id ask.who;
        to = instance;
        expires = expires ask lifetime;
      }) ∷ [];
      reply = reply.Dialog (drawn_handle ask 0) g;
    })

abbrev pub begin_in : Ask → Bytes → Bytes → Option Handle → Bytes → Option ℤ → Option Handle → Planned
begin_in ask from to instance contract lifetime (Some g) =
    with_group ask g (begun ask from to instance contract g 1 lifetime)
begin_in ask from to instance contract lifetime None =
    with_group ask (drawn_handle ask 1) (begun ask from to instance contract (drawn_handle ask 1) 2 lifetime)

abbrev pub begin_dialog : Ask → Bytes → Bytes → Option Handle → Option Bytes → Relation → Option ℤ → Planned
begin_dialog ask from to instance contract relation lifetime =
    need (find_service (seen ask) from) (refusal.NoService from) (λ service.
    need (find_contract (seen ask) (unwrap_or contract default_name)) (refusal.NoContract (unwrap_or contract default_name)) (λ def.
    refuse_if (not (is_name to)) (refusal.BadNumber (pos (character_count to))) (
    with_optional_number lifetime (
    with_relation ask relation (
    begin_in ask from to instance def.name lifetime (related ask relation))))))

abbrev pub body_length : Option Bytes → ℕ
body_length None = 0
body_length (Some bytes) = length bytes

abbrev pub contract_of : Ask → SideId → Bytes
contract_of ask s = option_map_or (λ m. m.header.contract) (made (seen ask) s) default_name

abbrev pub send_typed : Ask → SideId → Bytes → Bool → Option Bytes → Planned
send_typed ask s kind empty body =
    need (option_and_then (λ def. sender_of def kind) (find_contract (seen ask) (contract_of ask s))) (refusal.NotInContract kind) (λ by.
    refuse_if (not (may_be_sent_by by s.initiator)) (refusal.NotYours kind) (
    refuse_if (empty && has_body body) (refusal.BodyNotEmpty (body_length body)) (
    refuse_if (nat_lt 65536 (body_length body)) (refusal.BodyTooLong (body_length body)) (
    planned (own_group ask s ∷ []) (Send s kind body ∷ []) reply.Done))))

abbrev pub send : Ask → Handle → Bytes → Option Bytes → Planned
send ask handle kind body =
    need (find_message_type (seen ask) kind) (refusal.NoMessageType kind) (λ def.
    with_side ask handle (λ s.
    with_group ask (own_group ask s) (
    in_state ask s may_send (
    send_typed ask s kind def.empty body))))

abbrev pub with_filter : Ask → Filter → Planned → Planned
with_filter ask (filters.Side handle) rest = with_side ask handle (λ s. rest)
with_filter ask _ rest = rest

abbrev pub with_open_queue : Ask → Bytes → Planned → Planned
with_open_queue ask q rest =
    unless_refused (option_and_then (λ def. when (not (is_on (seen ask) def)) (refusal.QueueOff q)) (find_queue (seen ask) q)) rest

-- an item as RECEIVE gives it, with the handle and the group of its side
abbrev pub given_item : Ask → Item → ReceivedItem
given_item ask item = record {
  handle = option_map_or (λ m. m.handle) (made (seen ask) item.side) item.side.conversation;
  group = own_group ask item.side;
  item = item;
}

abbrev pub took : Bytes → Item → Op
took q item = Took q item.number

abbrev pub received : Ask → Bytes → Option Pick → Planned
received ask q None = planned [] [] (reply.Received [])
received ask q (Some p) = planned (p.group ∷ []) (map (took q) p.items) (reply.Received (map (given_item ask) p.items))

abbrev pub receive : Ask → Bytes → Option ℤ → Filter → Planned
receive ask q top filter_by =
    need (find_queue (seen ask) q) (refusal.NoQueue q) (λ def.
    with_optional_number top (
    with_filter ask filter_by (
    with_open_queue ask q (
    received ask q (pick ask.log ask.open_txns ask.tx q (option_map nat_abs top) filter_by)))))

abbrev pub grouped : Option Pick → Planned
grouped None = planned [] [] (reply.Group None)
grouped (Some p) = planned (p.group ∷ []) [] (reply.Group (Some p.group))

abbrev pub get_group : Ask → Bytes → Planned
get_group ask q =
    need (find_queue (seen ask) q) (refusal.NoQueue q) (λ def.
    with_open_queue ask q (
    grouped (pick ask.log ask.open_txns ask.tx q None filters.All)))

abbrev pub move : Ask → Handle → Handle → Planned
move ask handle g =
    with_side ask handle (λ s.
    refuse_if (not (group_exists (seen ask) g)) (refusal.NoGroup g) (
    with_group ask (own_group ask s) (
    with_group ask g (
    in_state ask s may_end (
    planned (own_group ask s ∷ g ∷ []) (Move s g ∷ []) reply.Done)))))

-- nothing is sent in state SO, after the partner's final, or after expiry
abbrev pub is_silent : Ask → SideId → Bool
is_silent ask s =
    same_state (state_of (seen ask) s) SO || list_any is_final (contents_accepted (seen ask) s) || is_expired (seen ask) s

abbrev pub end_with : Ask → Handle → Final → Planned
end_with ask handle last =
    with_side ask handle (λ s.
    with_group ask (own_group ask s) (
    in_state ask s may_end (
    planned (own_group ask s ∷ []) (End s (if is_silent ask s then final.Silent else last) ∷ []) reply.Done)))

abbrev pub end_dialog : Ask → Handle → How → Planned
end_dialog ask handle how.Plain = end_with ask handle final.EndDialog
end_dialog ask handle (how.Error code text) =
    with_number code (
    refuse_if (nat_lt 3000 (character_count text)) (refusal.BodyTooLong (length (utf16 text))) (
    end_with ask handle (final.Error (nat_abs code) text)))
end_dialog ask handle how.Cleanup =
    with_side ask handle (λ s.
    with_group ask (own_group ask s) (
    planned (own_group ask s ∷ []) (Cleanup s ∷ []) reply.Done))

abbrev pub set_timer : Ask → Handle → ℤ → Planned
set_timer ask handle seconds =
    with_number seconds (
    with_side ask handle (λ s.
    with_group ask (own_group ask s) (
    in_state ask s may_end (
    planned (own_group ask s ∷ []) (Timer s (ask.now + nat_abs seconds) ∷ []) reply.Done))))

abbrev pub key : Bytes → ℤ → Key
key t k = record { table = t; key = k }

abbrev pub rows_planned : Bytes → ℤ → List Op → ℕ → Option Row → Planned
rows_planned t k ops count found =
    Ok (record { groups = []; keys = key t k ∷ []; ops = ops; drawn = 0; reply = reply.Rows count found })

abbrev pub with_row : Ask → Bytes → ℤ → (Option Row → Planned) → Planned
with_row ask t k rest =
    need (find_table (seen ask) t) (refusal.NoTable t) (λ def.
    with_key ask (key t k) (
    rest (rows_of (seen ask) t k)))

abbrev pub is_bigint : ℤ → Bool
is_bigint z = int_le (negsuc 9223372036854775807) z && int_le z (pos 9223372036854775807)

-- 4: a number that fits, or its left operand
abbrev pub fitting : ℤ → ℤ → Result (Option ℤ) Refusal
fitting left z = if is_bigint z then Ok (Some z) else Err (refusal.Overflow left)

-- a row's number after the change
abbrev pub changed : Option ℤ → Option NumberChange → Result (Option ℤ) Refusal
changed n None = Ok n
changed n (Some (change.To value)) = Ok value
changed None (Some (change.Add by)) = Ok None
changed None (Some (change.Subtract by)) = Ok None
changed (Some n) (Some (change.Add by)) = fitting n (n +ℤ by)
changed (Some n) (Some (change.Subtract by)) = fitting n (n -ℤ by)

abbrev pub insert_at : Bytes → ℤ → Option ℤ → Option Bytes → Option Row → Planned
insert_at t k n body None = rows_planned t k (Put t k n body ∷ []) 1 None
insert_at t k n body (Some found) = Err (refusal.DuplicateKey k)

abbrev pub update_at : Bytes → ℤ → Option NumberChange → Option (Option Bytes) → Option Row → Planned
update_at t k n body None = rows_planned t k [] 0 None
update_at t k n body (Some found) =
    and_then (changed found.n n) (λ value. rows_planned t k (Put t k value (unwrap_or body found.body) ∷ []) 1 None)

abbrev pub delete_at : Bytes → ℤ → Option Row → Planned
delete_at t k None = rows_planned t k [] 0 None
delete_at t k (Some found) = rows_planned t k (Delete t k ∷ []) 1 None

abbrev pub read_at : Bytes → ℤ → Option Row → Planned
read_at t k None = rows_planned t k [] 0 None
read_at t k (Some found) = rows_planned t k [] 1 (Some found)

-- the table of dialog and row requests; the others have no row here
abbrev pub plan : Ask → Request → Planned
plan ask (request.BeginDialog from to instance contract relation lifetime) = begin_dialog ask from to instance contract relation lifetime
plan ask (request.Send handle kind body) = send ask handle (unwrap_or kind default_name) body
plan ask (request.Receive q top filter_by) = receive ask q top filter_by
plan ask (request.GetGroup q) = get_group ask q
plan ask (request.Move handle g) = move ask handle g
plan ask (request.End handle how) = end_dialog ask handle how
plan ask (request.Timer handle seconds) = set_timer ask handle seconds
plan ask (request.Insert t k n body) = with_row ask t k (insert_at t k n body)
plan ask (request.Update t k n body) = with_row ask t k (update_at t k n body)
plan ask (request.Delete t k) = with_row ask t k (delete_at t k)
plan ask (request.Read t k) = with_row ask t k (read_at t k)
plan ask _ = planned [] [] reply.Done
