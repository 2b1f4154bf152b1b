-- The items of a log, those that wait in a queue, and what a side received.
use Rattle.std.specs.Prelude.{ℕ, Bool, not, ◌&&◌, ◌==◌, ◌+◌, if◌then◌else◌, List, [], ◌∷◌, Option, Some, None, flat_map, filter_map, filter, find, option_map, option_and_then}
use Rattle.std.specs.Option.{option_eq}
use Rattle.std.specs.List.{list_any, cons_option}
use Rattle.sb_log.specs.declared.identifiers.SideId.{SideId}
use Rattle.sb_log.specs.declared.entries.Entry.{Entry}
use Rattle.sb_log.specs.declared.entries.Entry.TheVariants.{Accepted, Fired, Expired}
use Rattle.sb_log.specs.declared.entries.Op.{Op}
use Rattle.sb_log.specs.declared.entries.Op.TheVariants.{Took}
use Rattle.sb_log.specs.declared.messages.Header.{Header}
use Rattle.sb_log.specs.declared.messages.Item.{Item}
use Rattle.sb_log.specs.declared.messages.Msg.{Msg}
use Rattle.sb_log.specs.declared.messages.Kind.{Kind}
use Rattle.sb_log.specs.declared.messages.Content.{Content}
use Rattle.sb_model.specs.Sides.{Bytes, same_name, same_side, ops_of, made}
use Rattle.sb_model.specs.Messages.{is_ended, is_cleaned}
use Rattle.sb_model.specs.ErrorBody.{error_body, lifetime_body}
use Rattle.sb_model.specs.Catalog.{service_queue}
use Rattle.sb_log.specs.declared.messages.Kind.TheVariants as kind
use Rattle.sb_log.specs.declared.messages.Content.TheVariants as content

-- a message as its item has it
abbrev pub message_of : Content → Msg
message_of (content.App name body) = record { kind = kind.App name; body = body }
message_of content.EndDialog = record { kind = kind.EndDialog; body = None }
message_of (content.Error code text) = record { kind = kind.Error; body = Some (error_body code text) }

-- the item that an entry brings, with the number that it gets
abbrev pub item_of : ℕ → Entry → Option Item
item_of n (Accepted side number new content) = Some (record { number = n; side = side; sequence = number; message = message_of content })
item_of n (Fired side) = Some (record { number = n; side = side; sequence = 0; message = record { kind = kind.DialogTimer; body = None } })
item_of n (Expired side) = Some (record { number = n; side = side; sequence = 0; message = record { kind = kind.Error; body = Some lifetime_body } })
item_of n _ = None

abbrev pub next_number : ℕ → Option Item → ℕ
next_number n None = n
next_number n (Some item) = n + 1

-- the items of the entries, numbered from n in the log's order
abbrev pub items_from : ℕ → List Entry → List Item
items_from n [] = []
items_from n (e ∷ log) = cons_option (item_of n e) (items_from (next_number n (item_of n e)) log)

abbrev pub items : List Entry → List Item
items log = items_from 1 log

-- the item that an operation takes
abbrev pub taken_by : Op → List ℕ
taken_by (Took queue item) = item ∷ []
taken_by _ = []

abbrev pub taken : List Entry → List ℕ
taken log = flat_map taken_by (ops_of log)

-- the header that the side was made with
abbrev pub header_of : List Entry → SideId → Option Header
header_of log s = option_map (λ m. m.header) (made log s)

abbrev pub own_end : SideId → Header → Bytes
own_end s header = if s.initiator then header.from_service else header.to_service

-- the queue of the service on the side's own end of its header
abbrev pub queue_of : List Entry → SideId → Option Bytes
queue_of log s = option_and_then (λ header. service_queue log (own_end s header)) (header_of log s)

abbrev pub is_taken : List Entry → ℕ → Bool
is_taken log number = list_any (λ n. n == number) (taken log)

-- an item of the side with this number stands in the queue: nobody took it and the side isn't ended or cleaned
unfoldable pub waits_at : List Entry → Bytes → SideId → ℕ → Bool
waits_at log q side number =
    option_eq same_name (queue_of log side) (Some q) && not (is_taken log number) && not (is_ended log side) && not (is_cleaned log side)

abbrev pub waits_in : List Entry → Bytes → Item → Bool
waits_in log q item = waits_at log q item.side item.number

-- the items that wait in a queue, in the log's order
abbrev pub waiting : List Entry → Bytes → List Item
waiting log q = filter (waits_in log q) (items log)

-- an application message of the side
abbrev pub app_content : Kind → Option Bytes → List Content
app_content (kind.App name) body = content.App name body ∷ []
app_content _ body = []

abbrev pub received_content : SideId → Item → List Content
received_content s item = if same_side item.side s then app_content item.message.kind item.message.body else []

abbrev pub item_at : List Entry → ℕ → Option Item
item_at log n = find (λ item. item.number == n) (items log)

-- the application messages of the side that were received, in the order of the operations that took them
abbrev pub receives : List Entry → SideId → List Content
receives log s = flat_map (received_content s) (filter_map (item_at log) (taken log))
