-- The vocabulary of the worked rows: a row is a history, and `Plays` says that each of its steps is answered as the row has it.
use Rattle.std.specs.Prelude.{◌≡◌, ℕ, ℤ, pos, ◌+◌, Bool, true, false, List, [], ◌∷◌, ◌++◌, Option, Some, None, map, codes, option_map}
use Rattle.sb_log.specs.declared.identifiers.Handle.{Handle}
use Rattle.sb_log.specs.declared.identifiers.SideId.{SideId}
use Rattle.sb_log.specs.declared.identifiers.Who.{Who}
use Rattle.sb_log.specs.declared.identifiers.Who.TheVariants.{A, B}
use Rattle.sb_log.specs.declared.identifiers.Actor.TheVariants as actor
use Rattle.sb_log.specs.declared.definitions.Ddl.{Ddl}
use Rattle.sb_log.specs.declared.definitions.Ddl.TheVariants as ddl
use Rattle.sb_log.specs.declared.definitions.Sender.{Sender}
use Rattle.sb_log.specs.declared.definitions.Sender.TheVariants as sender
use Rattle.sb_log.specs.declared.definitions.SentBy.{SentBy}
use Rattle.sb_log.specs.declared.messages.Header.{Header}
use Rattle.sb_log.specs.declared.messages.Content.{Content}
use Rattle.sb_log.specs.declared.messages.Content.TheVariants as content
use Rattle.sb_log.specs.declared.messages.Frame.TheVariants as frame
use Rattle.sb_log.specs.declared.messages.Kind.{Kind}
use Rattle.sb_log.specs.declared.messages.Kind.TheVariants as kind
use Rattle.sb_log.specs.declared.messages.ReceivedItem.{ReceivedItem}
use Rattle.sb_log.specs.declared.requests.Request.{Request}
use Rattle.sb_log.specs.declared.requests.Request.TheVariants as request
use Rattle.sb_log.specs.declared.requests.Reply.{Reply}
use Rattle.sb_log.specs.declared.requests.Reply.TheVariants as reply
use Rattle.sb_log.specs.declared.requests.Relation.TheVariants as relation
use Rattle.sb_log.specs.declared.requests.Filter.TheVariants as filters
use Rattle.sb_log.specs.declared.refusals.Refusal.{Refusal}
use Rattle.sb_log.specs.declared.steps.Event.{Event}
use Rattle.sb_log.specs.declared.steps.Event.TheVariants as event
use Rattle.sb_log.specs.declared.steps.Answer.{Answer}
use Rattle.sb_log.specs.declared.steps.Answer.TheVariants as answer
use Rattle.sb_log.specs.declared.steps.Arrived.TheVariants as arrived
use Rattle.sb_log.specs.declared.steps.Verdict.{Verdict}
use Rattle.sb_log.specs.declared.steps.FrameLine.{FrameLine}
use Rattle.sb_log.specs.declared.steps.Step.{Step}
use Rattle.sb_model.specs.Sides.{Bytes, id}
use Rattle.sb_model.specs.Steps.{World}
use Rattle.sb_model.specs.Histories.{outcome, next, after, first_world}

-- the answers that the definitions give to the events of a history
abbrev pub answers : World → List Step → List (Option Answer)
answers w [] = []
answers w (s ∷ steps) = option_map (λ r. r.answer) (outcome w s) ∷ answers (next w s) steps

abbrev pub Plays : World → List Step → Type 0
Plays w steps = answers w steps ≡ map (λ s. Some s.answer) steps

-- both instances over empty disks
abbrev pub empty_world : World
empty_world = first_world [] (Some 16) [] (Some 16)

abbrev pub a : ℕ → Handle
a n = id (0xa0000000000000000000000000000000 + n)

abbrev pub b : ℕ → Handle
b n = id (0xb0000000000000000000000000000000 + n)

abbrev pub start_of : Handle → SideId
start_of conversation = record { conversation = conversation; initiator = true }

abbrev pub far_of : Handle → SideId
far_of conversation = record { conversation = conversation; initiator = false }

-- ---- steps

abbrev pub asks_as : Who → ℕ → Request → Answer → Step
asks_as x n req given = record { who = actor.Session (record { instance = x; number = n }); event = event.Asked req; answer = given }

-- session 1 of an instance asks and is answered
abbrev pub asks : Who → Request → Reply → Step
asks x req given = asks_as x 1 req (answer.Replied given)

abbrev pub is_refused : Who → Request → Refusal → Step
is_refused x req r = asks_as x 1 req (answer.Refused r None)

abbrev pub reader : ℕ → Request → Answer → Step
reader n req given = record { who = actor.Reader B n; event = event.Asked req; answer = given }

abbrev pub reads : ℕ → Request → Reply → Step
reads n req given = reader n req (answer.Replied given)

abbrev pub starts : ℕ → Bytes → Handle → ℕ → Step
starts n q g tx = record { who = actor.Reader B n; event = event.Start q g; answer = answer.Started tx }

abbrev pub world : Event → Answer → Step
world e given = record { who = actor.World; event = e; answer = given }

abbrev pub pumps : Who → List FrameLine → Step
pumps x lines = world (event.Pump x) (answer.Pumped lines)

abbrev pub delivers : ℕ → Who → Verdict → Step
delivers k to v = world (event.Deliver k (Some to)) (answer.Arrived (arrived.Verdict v))

-- ---- the two shops of the worked rows: Buyer on A, Seller on B

abbrev pub submit : Bytes
submit = codes "Submit"

abbrev pub accepted_type : Bytes
accepted_type = codes "Accepted"

abbrev pub ping : Bytes
ping = codes "Ping"

abbrev pub orders : Bytes
orders = codes "Orders"

abbrev pub buyer : Bytes
buyer = codes "Buyer"

abbrev pub buyer_queue : Bytes
buyer_queue = codes "BuyerQ"

abbrev pub seller : Bytes
seller = codes "Seller"

abbrev pub seller_queue : Bytes
seller_queue = codes "SellerQ"

abbrev pub stock : Bytes
stock = codes "Stock"

abbrev pub sell : Bytes
sell = codes "Sell"

abbrev pub defines : Who → Ddl → Step
defines x def = asks x (request.Define def) reply.Done

abbrev pub message_type : Bytes → Bool → Ddl
message_type name empty = ddl.MessageType (record { name = name; empty = empty })

abbrev pub sent_by : Bytes → Sender → SentBy
sent_by kind by = record { kind = kind; by = by }

abbrev pub orders_contract : Ddl
orders_contract = ddl.Contract (record {
  name = orders;
  types = sent_by submit sender.Initiator ∷ sent_by accepted_type sender.Target ∷ sent_by ping sender.Any ∷ [];
})

abbrev pub plain_queue : Bytes → Ddl
plain_queue name = ddl.Queue (record { name = name; on = true; poison = true; activation = None })

abbrev pub active_queue : Bytes → Bytes → Ddl
active_queue name procedure =
    ddl.Queue (record { name = name; on = true; poison = true; activation = Some (record { on = true; procedure = procedure; readers = pos 2 }) })

abbrev pub service : Bytes → Bytes → List Bytes → Ddl
service name queue contracts = ddl.Service (record { name = name; queue = queue; contracts = contracts })

abbrev pub route_to : Bytes → Bytes → Who → Ddl
route_to name far x = ddl.Route (record { name = name; service = Some far; instance = None; to = Some x })

abbrev pub procedure : Bytes → Ddl
procedure name = ddl.Procedure (record { name = name; text = [] })

abbrev pub types_on : Who → List Step
types_on x =
    defines x (message_type submit false) ∷ defines x (message_type accepted_type false) ∷ defines x (message_type ping true)
    ∷ defines x orders_contract ∷ []

-- the definitions of both shops
abbrev pub shops : List Step
shops =
    types_on A ++ defines A (plain_queue buyer_queue) ∷ defines A (service buyer buyer_queue [])
    ∷ defines A (route_to (codes "ToB") seller B) ∷ []
    ++ types_on B ++ defines B (ddl.Table (record { name = stock })) ∷ defines B (procedure sell)
    ∷ defines B (active_queue seller_queue sell) ∷ defines B (service seller seller_queue (orders ∷ []))
    ∷ defines B (route_to (codes "ToA") buyer A) ∷ []

abbrev pub opened_shops : World
opened_shops = after empty_world shops

-- ---- a dialog of the shops

abbrev pub dialog_to : Bytes → Option ℤ → Request
dialog_to far lifetime = request.BeginDialog buyer far None (Some orders) relation.Alone lifetime

abbrev pub begins : Handle → Handle → Step
begins handle g = asks A (dialog_to seller None) (reply.Dialog handle g)

abbrev pub sends_of : Handle → Bytes → Bytes → Request
sends_of handle type body = request.Send handle (Some type) (Some body)

-- a text of one ASCII character as UTF-16LE
abbrev pub letter : ℕ → Bytes
letter c = c ∷ 0 ∷ []

abbrev pub submits : Handle → ℕ → Step
submits handle c = asks A (sends_of handle submit (letter c)) reply.Done

abbrev pub header_at : ℕ → Header
header_at expires = record { from_service = buyer; to_service = seller; contract = orders; from = a 0; to = None; expires = expires }

abbrev pub header : Header
header = header_at 2147483647

-- the header as the target sends it
abbrev pub header_back : Header
header_back =
    record { from_service = seller; to_service = buyer; contract = orders; from = b 0; to = Some (a 0); expires = 2147483647 }

abbrev pub data_line : ℕ → Who → SideId → Header → ℕ → Content → FrameLine
data_line n to side h number c = record { number = n; to = to; frame = frame.Data (record { side = side; number = number; header = h; content = c }) }

abbrev pub submit_line : ℕ → Handle → ℕ → ℕ → FrameLine
submit_line n conversation number c = data_line n B (start_of conversation) header number (content.App submit (Some (letter c)))

abbrev pub ack_line : ℕ → Who → SideId → ℕ → Bool → Handle → FrameLine
ack_line n to side upto closed instance =
    record { number = n; to = to; frame = frame.Ack (record { side = side; upto = upto; closed = closed; to = instance }) }

abbrev pub receives_from : Bytes → Option ℤ → Request
receives_from q top = request.Receive q top filters.All

-- a received message: item n of a side, with its handle, group and number
abbrev pub got : ℕ → Handle → Handle → SideId → ℕ → Kind → Option Bytes → ReceivedItem
got n handle g side number type body =
    record { handle = handle; group = g; item = record { number = n; side = side; sequence = number; message = record { kind = type; body = body } } }

abbrev pub got_submit : ℕ → Handle → Handle → Handle → ℕ → ℕ → ReceivedItem
got_submit n handle g conversation number c = got n handle g (far_of conversation) number (kind.App submit) (Some (letter c))
