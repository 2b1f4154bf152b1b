-- The values that have a spelling: each number is in its type's range, each text is UTF-8, each field holds its value.
use Rattle.std.specs.Prelude.{◌≡◌, ◌<◌, ◌≤◌, ◌^◌, ℕ, ℤ, pos, Bool, true, List, Option, length, IfSome, FitsSigned, ◌≤ℤ◌}
use Rattle.std.specs.Int.{w64}
use Rattle.std.specs.List.{AllByRecursion}
use Rattle.std.specs.Str.{is_utf8}
use Rattle.sb_log.specs.Names.{is_name}
use Rattle.sb_log.specs.declared.identifiers.Handle.{Handle}
use Rattle.sb_log.specs.declared.identifiers.SideId.{SideId}
use Rattle.sb_log.specs.declared.messages.Header.{Header}
use Rattle.sb_log.specs.declared.messages.Content.{Content}
use Rattle.sb_log.specs.declared.messages.Content.TheVariants as content
use Rattle.sb_log.specs.declared.definitions.SentBy.{SentBy}
use Rattle.sb_log.specs.declared.definitions.Activation.{Activation}
use Rattle.sb_log.specs.declared.definitions.Ddl.{Ddl}
use Rattle.sb_log.specs.declared.definitions.Ddl.TheVariants.{MessageType, Contract, Queue, Service, Route, Priority, Table, Procedure}
use Rattle.sb_log.specs.declared.entries.Final.{Final}
use Rattle.sb_log.specs.declared.entries.Final.TheVariants as final
use Rattle.sb_log.specs.declared.entries.Op.{Op}
use Rattle.sb_log.specs.declared.entries.Op.TheVariants.{Begin, Send, Took, End, Cleanup, Move, Timer, Put, Delete}
use Rattle.sb_log.specs.declared.entries.NewSide.{NewSide}
use Rattle.sb_log.specs.declared.entries.Entry.{Entry}
use Rattle.sb_log.specs.declared.entries.Entry.TheVariants.{Defined, Txn, Accepted, Acked, Fired, Expired, QueueSet}
use Rattle.sb_fields.specs.Spelling.{Bytes, IsText16}

abbrev pub IsHandle : Handle → Type 0
IsHandle handle = handle.0 < 2 ^ 128

abbrev pub IsSide : SideId → Type 0
IsSide side = IsHandle side.conversation

abbrev pub IsNameText : Bytes → Type 0
IsNameText name = IsText16 name × (is_name name ≡ true)

abbrev pub IsBytes32 : Bytes → Type 0
IsBytes32 bytes = length bytes < 2 ^ 32

abbrev pub IsLongText : Bytes → Type 0
IsLongText text = IsBytes32 text × (is_utf8 text ≡ true)

abbrev pub IsHeader : Header → Type 0
IsHeader h = IsNameText h.from_service × IsNameText h.to_service × IsNameText h.contract × IsHandle h.from × IfSome h.to IsHandle × (h.expires < 2 ^ 64)

abbrev pub IsContent : Content → Type 0
IsContent (content.App kind body) = IsNameText kind × IfSome body IsBytes32
IsContent content.EndDialog = Unit {0}
IsContent (content.Error code text) = (code < 2 ^ 32) × IsText16 text

abbrev pub IsFinal : Final → Type 0
IsFinal final.Silent = Unit {0}
IsFinal final.EndDialog = Unit {0}
IsFinal (final.Error code text) = (code < 2 ^ 32) × IsText16 text

abbrev pub IsOp : Op → Type 0
IsOp (Begin handle group header) = IsHandle handle × IsHandle group × IsHeader header
IsOp (Send side kind body) = IsSide side × IsNameText kind × IfSome body IsBytes32
IsOp (Took queue item) = IsNameText queue × (item < 2 ^ 64)
IsOp (End side last) = IsSide side × IsFinal last
IsOp (Cleanup side) = IsSide side
IsOp (Move side group) = IsSide side × IsHandle group
IsOp (Timer side at) = IsSide side × (at < 2 ^ 64)
IsOp (Put table key n body) = IsNameText table × FitsSigned w64 key × IfSome n (FitsSigned w64) × IfSome body IsLongText
IsOp (Delete table key) = IsNameText table × FitsSigned w64 key

abbrev pub IsSentBy : SentBy → Type 0
IsSentBy sent = IsNameText sent.kind

-- a number from least to most
abbrev pub IsBetween : ℕ → ℕ → ℤ → Type 0
IsBetween least most n = (pos least ≤ℤ n) × (n ≤ℤ pos most)

abbrev pub IsActivation : Activation → Type 0
IsActivation a = IsNameText a.procedure × IsBetween 0 65535 a.readers

abbrev pub IsDefinition : Ddl → Type 0
IsDefinition (MessageType d) = IsNameText d.name
IsDefinition (Contract d) = IsNameText d.name × (length d.types < 2 ^ 16) × AllByRecursion IsSentBy d.types
IsDefinition (Queue d) = IsNameText d.name × IfSome d.activation IsActivation
IsDefinition (Service d) = IsNameText d.name × IsNameText d.queue × (length d.contracts < 2 ^ 16) × AllByRecursion IsNameText d.contracts
IsDefinition (Route d) = IsNameText d.name × IfSome d.service IsNameText × IfSome d.instance IsHandle
IsDefinition (Priority d) = IsNameText d.name × IfSome d.contract IsNameText × IfSome d.local IsNameText × IfSome d.remote IsNameText × IsBetween 1 10 d.level
IsDefinition (Table d) = IsNameText d.name
IsDefinition (Procedure d) = IsNameText d.name × IsLongText d.text

abbrev pub IsMade : NewSide → Type 0
IsMade made = IsHandle made.handle × IsHandle made.group × IsHeader made.header

abbrev pub IsEntry : Entry → Type 0
IsEntry (Defined ddl) = IsDefinition ddl
IsEntry (Txn tx ops) = (tx < 2 ^ 64) × (1 ≤ length ops) × (length ops < 2 ^ 32) × AllByRecursion IsOp ops
IsEntry (Accepted side number made content) = IsSide side × (number < 2 ^ 64) × IfSome made IsMade × IsContent content
IsEntry (Acked side upto closed) = IsSide side × (upto < 2 ^ 64)
IsEntry (Fired side) = IsSide side
IsEntry (Expired side) = IsSide side
IsEntry (QueueSet queue on) = IsNameText queue
