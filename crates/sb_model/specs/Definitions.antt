-- The refusals of definitions.
use Rattle.sb_log.specs.Names.{is_name, character_count}
use Rattle.std.specs.Prelude.{pos, Bool, true, not, ◌||◌, nat_le, List, [], ◌∷◌, ◌++◌, Option, Some, None, map, find, length, option_map, is_some, is_none, codes}
use Rattle.std.specs.List.{list_any}
use Rattle.sb_log.specs.declared.entries.Entry.{Entry}
use Rattle.sb_log.specs.declared.refusals.Refusal.{Refusal}
use Rattle.sb_model.specs.Sides.{Bytes, same_name}
use Rattle.sb_log.specs.declared.definitions.Ddl.{Ddl}
use Rattle.sb_log.specs.declared.definitions.Ddl.TheVariants.{MessageType, Contract, Queue, Service, Route, Priority, Table, Procedure}
use Rattle.sb_log.specs.declared.definitions.Activation.{Activation}
use Rattle.sb_log.specs.declared.definitions.ContractDef.{ContractDef}
use Rattle.sb_model.specs.Catalog.{definitions, routes, priorities, find_message_type, find_contract, find_queue, find_service, find_table, find_procedure, may_be_sent_by}
use Rattle.sb_model.specs.Replies.{in_range}
use Rattle.sb_model.specs.Refusals.{when, or_else}
use Rattle.sb_log.specs.declared.refusals.Refusal.TheVariants as refusal

abbrev pub first_refusal : List (Option Refusal) → Option Refusal
first_refusal [] = None
first_refusal (r ∷ rs) = or_else r (first_refusal rs)

abbrev pub taken_if : {A : Type 0} → Option A → Bytes → Option Refusal
taken_if found name = when (is_some found) (refusal.NameTaken name)

abbrev pub missing : {A : Type 0} → (Bytes → Option A) → (Bytes → Refusal) → Bytes → Option Refusal
missing look refuse name = when (is_none (look name)) (refuse name)

abbrev pub missing_if_named : {A : Type 0} → (Bytes → Option A) → (Bytes → Refusal) → Option Bytes → Option Refusal
missing_if_named look refuse None = None
missing_if_named look refuse (Some name) = missing look refuse name

-- 7: a list names one twice; and the named ones are there: the first place that fails
abbrev pub listed : {A : Type 0} → (Bytes → Option A) → (Bytes → Refusal) → List Bytes → List Bytes → Option Refusal
listed look refuse seen [] = None
listed look refuse seen (name ∷ names) =
    or_else (when (list_any (same_name name) seen) (refusal.NameTaken name))
    (or_else (missing look refuse name) (listed look refuse (name ∷ seen) names))

abbrev pub system_type : Bytes → Bytes
system_type word = codes "http://schemas.microsoft.com/SQL/ServiceBroker/" ++ word

abbrev pub is_system_type : Bytes → Bool
is_system_type name = list_any (λ word. same_name name (system_type word)) (codes "EndDialog" ∷ codes "Error" ∷ codes "DialogTimer" ∷ [])

abbrev pub bad_text : Option Bytes → Option Refusal
bad_text None = None
bad_text (Some text) = when (not (is_name text)) (refusal.BadNumber (pos (character_count text)))

abbrev pub bad_readers : Option Activation → Option Refusal
bad_readers None = None
bad_readers (Some a) = when (not (in_range a.readers 0 32767)) (refusal.BadNumber a.readers)

abbrev pub procedure_named : Option Activation → Option Bytes
procedure_named a = option_map (λ x. x.procedure) a

abbrev pub from_initiator : ContractDef → Bool
from_initiator d = list_any (λ sent. may_be_sent_by sent.by true) d.types

-- the refusal of a definition, without that of too many
abbrev pub own_refusal : List Entry → Ddl → List (Option Refusal)
own_refusal log (MessageType d) =
    when (is_some (find_message_type log d.name) || is_system_type d.name) (refusal.NameTaken d.name) ∷ []
own_refusal log (Contract d) =
    taken_if (find_contract log d.name) d.name
    ∷ listed (find_message_type log) refusal.NoMessageType [] (map (λ sent. sent.kind) d.types)
    ∷ when (not (from_initiator d)) (refusal.NothingFromInitiator d.name) ∷ []
own_refusal log (Queue d) =
    taken_if (find_queue log d.name) d.name
    ∷ missing_if_named (find_procedure log) refusal.NoProcedure (procedure_named d.activation)
    ∷ bad_readers d.activation ∷ []
own_refusal log (Service d) =
    taken_if (find_service log d.name) d.name ∷ missing (find_queue log) refusal.NoQueue d.queue
    ∷ listed (find_contract log) refusal.NoContract [] d.contracts ∷ []
own_refusal log (Route d) =
    taken_if (find (λ r. same_name r.name d.name) (routes log)) d.name ∷ bad_text d.service ∷ []
own_refusal log (Priority d) =
    taken_if (find (λ r. same_name r.name d.name) (priorities log)) d.name
    ∷ missing_if_named (find_contract log) refusal.NoContract d.contract
    ∷ missing_if_named (find_service log) refusal.NoService d.local
    ∷ bad_text d.remote ∷ when (not (in_range d.level 1 10)) (refusal.BadNumber d.level) ∷ []
own_refusal log (Table d) = taken_if (find_table log d.name) d.name ∷ []
own_refusal log (Procedure d) = taken_if (find_procedure log d.name) d.name ∷ []

-- 14 stands before 15
abbrev pub define_refusal : List Entry → Ddl → Option Refusal
define_refusal log ddl =
    first_refusal (own_refusal log ddl ++ when (nat_le 4096 (length (definitions log))) refusal.TooMany ∷ [])
