-- What has a spelling fits its fields.
use Rattle.std.proofs.Common.{◌≡◌, ℕ, ◌≤◌, ◌<◌, ◌^◌, List, [], ◌∷◌, Option, Some, None, length, All, arith}
use Rattle.std.specs.Prelude.{IfSome}
use Rattle.std.specs.List.{AllByRecursion}
use Rattle.std.proofs.lemmas.List.Elements.{All-from_recursion}
use Rattle.sb_log.specs.declared.messages.Header.{Header}
use Rattle.sb_log.specs.declared.messages.Content.{Content}
use Rattle.sb_log.specs.declared.messages.Content.TheVariants as content
use Rattle.sb_log.specs.declared.definitions.SentBy.{SentBy}
use Rattle.sb_log.specs.declared.definitions.Activation.{Activation}
use Rattle.sb_log.specs.declared.definitions.Ddl.{Ddl}
use Rattle.sb_log.specs.declared.definitions.Ddl.TheVariants.{MessageType, Contract, Queue, Service, Route, Priority, Table, Procedure}
use Rattle.sb_log.specs.declared.entries.Final.{Final}
use Rattle.sb_log.specs.declared.entries.Final.TheVariants as final
use Rattle.sb_log.specs.declared.entries.Op.{Op}
use Rattle.sb_log.specs.declared.entries.Op.TheVariants.{Begin, Send, Took, End, Cleanup, Move, Timer, Put, Delete}
use Rattle.sb_log.specs.declared.entries.Entry.{Entry}
use Rattle.sb_log.specs.declared.entries.Entry.TheVariants.{Defined, Txn, Accepted, Acked, Fired, Expired, QueueSet}
use Rattle.sb_fields.specs.Spelling.{Bytes, IsText16}
use Rattle.sb_entry.specs.Fields.{IsNameField, HeaderFits, BodyFits, ContentFits, FinalFits, OpFits, ActivationFits, DefinitionFits, EntryFits}
use Rattle.sb_entry.specs.Values.{IsNameText, IsBytes32, IsLongText, IsHeader, IsContent, IsFinal, IsOp, IsSentBy, IsActivation, IsDefinition, IsMade, IsEntry}

some_too : {A : Type 0} {P Q : A → Type 0} (o : Option A) → ((x : A) → P x → Q x) → IfSome o P → IfSome o Q
some_too None f h = tt
some_too (Some x) f h = f x h

all_too : {A : Type 0} {P Q : A → Type 0} (xs : List A) → ((x : A) → P x → Q x) → AllByRecursion P xs → AllByRecursion Q xs
all_too [] f h = tt
all_too (x ∷ xs) f h = (f x h.0, all_too xs f h.1)

name_fits : (name : Bytes) → IsNameText name → IsNameField name
name_fits name h = let short = h.0.0 in (omega arith, h.1)

text_fits : (text : Bytes) → IsText16 text → length text ≤ 65535
text_fits text h = let short = h.0 in omega arith

long_fits : (body : Option Bytes) → IfSome body IsLongText → BodyFits body
long_fits body h = some_too body (λ text l. l.0) h

pub header_fits : (h : Header) → IsHeader h → HeaderFits h
header_fits h f = (name_fits h.from_service f.0, name_fits h.to_service f.1, name_fits h.contract f.2)

pub content_fits : (x : Content) → IsContent x → ContentFits x
content_fits (content.App kind body) f = (name_fits kind f.0, f.1)
content_fits content.EndDialog f = tt
content_fits (content.Error code text) f = text_fits text f.1

final_fits : (x : Final) → IsFinal x → FinalFits x
final_fits final.Silent f = tt
final_fits final.EndDialog f = tt
final_fits (final.Error code text) f = text_fits text f.1

op_fits : (x : Op) → IsOp x → OpFits x
op_fits (Begin handle group header) f = header_fits header f.2
op_fits (Send side kind body) f = (name_fits kind f.1, f.2)
op_fits (Took queue item) f = name_fits queue f.0
op_fits (End side last) f = final_fits last f.1
op_fits (Cleanup side) f = tt
op_fits (Move side group) f = tt
op_fits (Timer side at) f = tt
op_fits (Put table key n body) f = (name_fits table f.0, long_fits body f.3)
op_fits (Delete table key) f = name_fits table f.0

activation_fits : (a : Activation) → IsActivation a → ActivationFits a
activation_fits a f = (name_fits a.procedure f.0, f.1.0, f.1.1)

definition_fits : (x : Ddl) → IsDefinition x → DefinitionFits x
definition_fits (MessageType d) f = name_fits d.name f
definition_fits (Contract d) f = (name_fits d.name f.0, (let l = f.1 in omega arith), All-from_recursion (λ (sent : SentBy). IsNameField sent.kind) d.types (all_too d.types (λ sent g. name_fits sent.kind g) f.2))
definition_fits (Queue d) f = (name_fits d.name f.0, some_too d.activation activation_fits f.1)
definition_fits (Service d) f = (name_fits d.name f.0, name_fits d.queue f.1, (let l = f.2 in omega arith), All-from_recursion IsNameField d.contracts (all_too d.contracts name_fits f.3))
definition_fits (Route d) f = (name_fits d.name f.0, some_too d.service name_fits f.1)
definition_fits (Priority d) f = (name_fits d.name f.0, some_too d.contract name_fits f.1, some_too d.local name_fits f.2, some_too d.remote name_fits f.3, f.4.0, f.4.1)
definition_fits (Table d) f = name_fits d.name f
definition_fits (Procedure d) f = (name_fits d.name f.0, f.1.0)

-- an entry that was decoded can be encoded
pub entry_fits : (x : Entry) → IsEntry x → EntryFits x
entry_fits (Defined ddl) f = definition_fits ddl f
entry_fits (Txn tx ops) f = (f.1, f.2, All-from_recursion OpFits ops (all_too ops op_fits f.3))
entry_fits (Accepted side number made content) f = (some_too made (λ m g. header_fits m.header g.2) f.2, content_fits content f.3)
entry_fits (Acked side upto closed) f = tt
entry_fits (Fired side) f = tt
entry_fits (Expired side) f = tt
entry_fits (QueueSet queue on) f = name_fits queue f
