-- What fits its field.
use Rattle.std.specs.Prelude.{◌≡◌, ◌<◌, ◌≤◌, ◌^◌, ℕ, ℤ, Bool, true, List, Option, length, All, IfSome, IsTrue, pos, ◌≤ℤ◌}
use Rattle.sb_log.specs.Names.{is_name}
use Rattle.sb_log.specs.declared.identifiers.Handle.{Handle}
use Rattle.sb_log.specs.declared.identifiers.SideId.{SideId}
use Rattle.sb_log.specs.declared.messages.Header.{Header}
use Rattle.sb_log.specs.declared.messages.Content.{Content}
use Rattle.sb_log.specs.declared.messages.Content.TheVariants as content
use Rattle.sb_log.specs.declared.definitions.Activation.{Activation}
use Rattle.sb_log.specs.declared.definitions.Ddl.{Ddl}
use Rattle.sb_log.specs.declared.definitions.Ddl.TheVariants.{MessageType, Contract, Queue, Service, Route, Priority, Table, Procedure}
use Rattle.sb_log.specs.declared.entries.Final.{Final}
use Rattle.sb_log.specs.declared.entries.Final.TheVariants as final
use Rattle.sb_log.specs.declared.entries.Op.{Op}
use Rattle.sb_log.specs.declared.entries.Op.TheVariants.{Begin, Send, Took, End, Cleanup, Move, Timer, Put, Delete}
use Rattle.sb_log.specs.declared.entries.NewSide.{NewSide}
use Rattle.sb_log.specs.declared.entries.Entry.{Entry}
use Rattle.sb_log.specs.declared.entries.Entry.TheVariants.{Defined, Txn, Accepted, Acked, Fired, Expired, QueueSet}
use Rattle.sb_fields.specs.Spelling.{Bytes}

-- a name whose length its field holds
abbrev pub IsNameField : Bytes → Type 0
IsNameField name = (length name ≤ 65535) × (is_name name ≡ true)

abbrev pub HeaderFits : Header → Type 0
HeaderFits h = IsNameField h.from_service × IsNameField h.to_service × IsNameField h.contract

abbrev pub BodyFits : Option Bytes → Type 0
BodyFits body = IfSome body (λ bytes. length bytes < 2 ^ 32)

abbrev pub ContentFits : Content → Type 0
ContentFits (content.App kind body) = IsNameField kind × BodyFits body
ContentFits content.EndDialog = Unit {0}
ContentFits (content.Error code text) = length text ≤ 65535

abbrev pub FinalFits : Final → Type 0
FinalFits final.Silent = Unit {0}
FinalFits final.EndDialog = Unit {0}
FinalFits (final.Error code text) = length text ≤ 65535

abbrev pub OpFits : Op → Type 0
OpFits (Begin handle group header) = HeaderFits header
OpFits (Send side kind body) = IsNameField kind × BodyFits body
OpFits (Took queue item) = IsNameField queue
OpFits (End side last) = FinalFits last
OpFits (Cleanup side) = Unit {0}
OpFits (Move side group) = Unit {0}
OpFits (Timer side at) = Unit {0}
OpFits (Put table key n body) = IsNameField table × BodyFits body
OpFits (Delete table key) = IsNameField table

-- a procedure that is named, and a number of readers that two bytes hold
abbrev pub ActivationFits : Activation → Type 0
ActivationFits a = IsNameField a.procedure × (pos 0 ≤ℤ a.readers) × (a.readers ≤ℤ pos 65535)

abbrev pub DefinitionFits : Ddl → Type 0
DefinitionFits (MessageType d) = IsNameField d.name
DefinitionFits (Contract d) = IsNameField d.name × (length d.types ≤ 65535) × All (λ sent. IsNameField sent.kind) d.types
DefinitionFits (Queue d) = IsNameField d.name × IfSome d.activation ActivationFits
DefinitionFits (Service d) = IsNameField d.name × IsNameField d.queue × (length d.contracts ≤ 65535) × All IsNameField d.contracts
DefinitionFits (Route d) = IsNameField d.name × IfSome d.service IsNameField
DefinitionFits (Priority d) = IsNameField d.name × IfSome d.contract IsNameField × IfSome d.local IsNameField × IfSome d.remote IsNameField × (pos 1 ≤ℤ d.level) × (d.level ≤ℤ pos 10)
DefinitionFits (Table d) = IsNameField d.name
DefinitionFits (Procedure d) = IsNameField d.name × (length d.text < 2 ^ 32)

-- Each text, list and body has a length that its field can hold, and each service text, level and reader limit a value.
abbrev pub EntryFits : Entry → Type 0
EntryFits (Defined ddl) = DefinitionFits ddl
EntryFits (Txn tx ops) = (1 ≤ length ops) × (length ops < 2 ^ 32) × All OpFits ops
EntryFits (Accepted side number made content) = IfSome made (λ m. HeaderFits m.header) × ContentFits content
EntryFits (Acked side upto closed) = Unit {0}
EntryFits (Fired side) = Unit {0}
EntryFits (Expired side) = Unit {0}
EntryFits (QueueSet queue on) = IsNameField queue
