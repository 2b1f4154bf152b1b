-- How many bytes the spellings of entries and frames have.
use Rattle.std.specs.Prelude.{ℕ, ◌+◌, List, Option, Some, None, length, sum_by}
use Rattle.sb_log.specs.declared.messages.Header.{Header}
use Rattle.sb_log.specs.declared.messages.Content.{Content}
use Rattle.sb_log.specs.declared.messages.Content.TheVariants as content
use Rattle.sb_log.specs.declared.messages.Frame.{Frame}
use Rattle.sb_log.specs.declared.messages.Frame.TheVariants as frame
use Rattle.sb_log.specs.declared.definitions.SentBy.{SentBy}
use Rattle.sb_log.specs.declared.definitions.Activation.{Activation}
use Rattle.sb_log.specs.declared.definitions.Ddl.{Ddl}
use Rattle.sb_log.specs.declared.definitions.Ddl.TheVariants.{MessageType, Contract, Queue, Service, Route, Priority, Table, Procedure}
use Rattle.sb_log.specs.declared.entries.Final.{Final}
use Rattle.sb_log.specs.declared.entries.Final.TheVariants as final
use Rattle.sb_log.specs.declared.entries.Op.{Op}
use Rattle.sb_log.specs.declared.entries.Op.TheVariants.{Begin, Send, Took, End, Cleanup, Move, Timer, Put, Delete}
use Rattle.sb_log.specs.declared.entries.NewSide.{NewSide}
use Rattle.sb_log.specs.declared.entries.Entry.{Entry}
use Rattle.sb_log.specs.declared.entries.Entry.TheVariants.{Defined, Txn, Accepted, Acked, Fired, Expired, QueueSet}
use Rattle.sb_model.specs.Sides.{Bytes}

-- a text behind its length of two bytes
abbrev pub text_size : Bytes → ℕ
text_size text = 2 + length text

-- bytes behind their length of four bytes
abbrev pub body_size : Bytes → ℕ
body_size bytes = 4 + length bytes

abbrev pub optional_size : {A : Type 0} → (A → ℕ) → Option A → ℕ
optional_size size None = 1
optional_size size (Some x) = 1 + size x

-- a handle has 16 bytes, a number of the broker 8
abbrev pub handle_size : ℕ
handle_size = 16

abbrev pub number_size : ℕ
number_size = 8

-- a conversation, and which end
abbrev pub side_size : ℕ
side_size = handle_size + 1

abbrev pub header_size : Header → ℕ
header_size h =
    text_size h.from_service + text_size h.to_service + text_size h.contract + handle_size + optional_size (λ to. handle_size) h.to + number_size

abbrev pub content_size : Content → ℕ
content_size (content.App kind body) = 1 + text_size kind + optional_size body_size body
content_size content.EndDialog = 1
content_size (content.Error code text) = 1 + 4 + text_size text

abbrev pub final_size : Final → ℕ
final_size final.Silent = 1
final_size final.EndDialog = 1
final_size (final.Error code text) = 1 + 4 + text_size text

abbrev pub op_size : Op → ℕ
op_size (Begin handle group h) = 1 + handle_size + handle_size + header_size h
op_size (Send side kind body) = 1 + side_size + text_size kind + optional_size body_size body
op_size (Took queue item) = 1 + text_size queue + number_size
op_size (End side last) = 1 + side_size + final_size last
op_size (Cleanup side) = 1 + side_size
op_size (Move side group) = 1 + side_size + handle_size
op_size (Timer side at) = 1 + side_size + number_size
op_size (Put table key n body) = 1 + text_size table + number_size + optional_size (λ z. number_size) n + optional_size body_size body
op_size (Delete table key) = 1 + text_size table + number_size

abbrev pub sent_by_size : SentBy → ℕ
sent_by_size sent = text_size sent.kind + 1

abbrev pub activation_size : Activation → ℕ
activation_size a = 1 + text_size a.procedure + 2

abbrev pub definition_size : Ddl → ℕ
definition_size (MessageType d) = 1 + text_size d.name + 1
definition_size (Contract d) = 1 + text_size d.name + 2 + sum_by sent_by_size d.types
definition_size (Queue d) = 1 + text_size d.name + 1 + 1 + optional_size activation_size d.activation
definition_size (Service d) = 1 + text_size d.name + text_size d.queue + 2 + sum_by text_size d.contracts
definition_size (Route d) = 1 + text_size d.name + optional_size text_size d.service + optional_size (λ id. handle_size) d.instance + 1
definition_size (Priority d) =
    1 + text_size d.name + optional_size text_size d.contract + optional_size text_size d.local + optional_size text_size d.remote + 1
definition_size (Table d) = 1 + text_size d.name
definition_size (Procedure d) = 1 + text_size d.name + body_size d.text

abbrev pub made_size : NewSide → ℕ
made_size m = handle_size + handle_size + header_size m.header

-- an entry's payload
abbrev pub entry_size : Entry → ℕ
entry_size (Defined ddl) = 1 + definition_size ddl
entry_size (Txn tx ops) = 1 + number_size + 4 + sum_by op_size ops
entry_size (Accepted side number made c) = 1 + side_size + number_size + optional_size made_size made + content_size c
entry_size (Acked side upto closed) = 1 + side_size + number_size + 1
entry_size (Fired side) = 1 + side_size
entry_size (Expired side) = 1 + side_size
entry_size (QueueSet queue on) = 1 + text_size queue + 1

-- what a record adds to a journal: its length, its payload, and the next gate
abbrev pub record_size : Entry → ℕ
record_size e = 5 + entry_size e

abbrev pub frame_size : Frame → ℕ
frame_size (frame.Data d) = 4 + side_size + number_size + header_size d.header + content_size d.content
frame_size (frame.Ack k) = 4 + side_size + number_size + 1 + handle_size
