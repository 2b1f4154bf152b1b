-- Each kind that is known of a log is the log's.
use Rattle.std.proofs.Common.{◌≡◌, ◌+◌, List, [], ◌∷◌, ◌++◌, length, refl, ap, ◌∙◌, arith}
use Rattle.std.specs.Prelude.{◌||◌, not, nat_le, flat_map, find, map, Option, Some, None, option_map, is_some, is_none}
use Rattle.sb_log.specs.declared.definitions.Ddl.{Ddl}
use Rattle.sb_log.specs.declared.definitions.Ddl.TheVariants.{MessageType, Contract, Queue, Service, Route, Priority, Table, Procedure}
use Rattle.sb_log.specs.declared.entries.Entry.{Entry}
use Rattle.sb_log.specs.declared.refusals.Refusal.TheVariants as refusal
use Rattle.sb_model.specs.Sides.{Bytes, same_name}
use Rattle.sb_model.specs.Catalog.{auto_route, definitions, message_def, contract_def, queue_def, service_def, route_def, priority_def, table_def, procedure_def, default_type, default_contract, find_message_type, find_contract, find_queue, find_service, find_table, find_procedure}
use Rattle.sb_model.specs.Definitions.{bad_readers, bad_text, define_refusal, first_refusal, from_initiator, is_system_type, listed, missing, missing_if_named, own_refusal, procedure_named, taken_if}
use Rattle.sb_model.specs.Refusals.{when}
use Rattle.sb_model.specs.Replies.{in_range}
use Rattle.sb_catalog.specs.Known.{Known, log_of}
use Rattle.sb_catalog.specs.Of.{IsOf, as_told}
use Rattle.sb_catalog.proofs.Parts.{message_types_known, contracts_known, queues_known, services_known, routes_known, priorities_known, tables_known, procedures_known}

module _ (log : List Entry) (k : Known) (h : IsOf log k) where
  pub types : flat_map message_def (definitions (log_of k)) ≡ flat_map message_def (definitions log)
  types = message_types_known k ∙ h.message_types

  pub contracts : flat_map contract_def (definitions (log_of k)) ≡ flat_map contract_def (definitions log)
  contracts = contracts_known k ∙ h.contracts

  pub services : flat_map service_def (definitions (log_of k)) ≡ flat_map service_def (definitions log)
  services = services_known k ∙ h.services

  pub routes : flat_map route_def (definitions (log_of k)) ≡ flat_map route_def (definitions log)
  routes = routes_known k ∙ h.routes

  pub priorities : flat_map priority_def (definitions (log_of k)) ≡ flat_map priority_def (definitions log)
  priorities = priorities_known k ∙ h.priorities

  pub tables : flat_map table_def (definitions (log_of k)) ≡ flat_map table_def (definitions log)
  tables = tables_known k ∙ h.tables

  pub procedures : flat_map procedure_def (definitions (log_of k)) ≡ flat_map procedure_def (definitions log)
  procedures = procedures_known k ∙ h.procedures

  pub type_of_log : (name : Bytes) → find_message_type (log_of k) name ≡ find_message_type log name
  type_of_log name = ap (λ ds. find (λ def. same_name def.name name) (default_type ∷ ds)) types

  pub contract_of_log : (name : Bytes) → find_contract (log_of k) name ≡ find_contract log name
  contract_of_log name = ap (λ ds. find (λ def. same_name def.name name) (default_contract ∷ ds)) contracts

  pub service_of_log : (name : Bytes) → find_service (log_of k) name ≡ find_service log name
  service_of_log name = ap (find (λ def. same_name def.name name)) services

  pub table_of_log : (name : Bytes) → find_table (log_of k) name ≡ find_table log name
  table_of_log name = ap (find (λ def. same_name def.name name)) tables

  pub procedure_of_log : (name : Bytes) → find_procedure (log_of k) name ≡ find_procedure log name
  procedure_of_log name = ap (find (λ def. same_name def.name name)) procedures

-- each definition is of one kind
by_kinds : (ds : List Ddl) → length ds
    ≡ length (flat_map message_def ds) + length (flat_map contract_def ds) + length (flat_map queue_def ds) + length (flat_map service_def ds)
    + length (flat_map route_def ds) + length (flat_map priority_def ds) + length (flat_map table_def ds) + length (flat_map procedure_def ds)
by_kinds [] = refl
by_kinds (MessageType d ∷ ds) = omega (arith, by_kinds ds)
by_kinds (Contract d ∷ ds) = omega (arith, by_kinds ds)
by_kinds (Queue d ∷ ds) = omega (arith, by_kinds ds)
by_kinds (Service d ∷ ds) = omega (arith, by_kinds ds)
by_kinds (Route d ∷ ds) = omega (arith, by_kinds ds)
by_kinds (Priority d ∷ ds) = omega (arith, by_kinds ds)
by_kinds (Table d ∷ ds) = omega (arith, by_kinds ds)
by_kinds (Procedure d ∷ ds) = omega (arith, by_kinds ds)

pub count_of_log : (log : List Entry) (k : Known) → IsOf log k → length (definitions (log_of k)) ≡ length (definitions log)
count_of_log log k h = omega (arith, by_kinds (definitions (log_of k)), by_kinds (definitions log), ap length (types log k h), ap length (contracts log k h), ap length (queues_known k), h.queue_count, ap length (services log k h), ap length (routes log k h), ap length (priorities log k h), ap length (tables log k h), ap length (procedures log k h))

-- how many are known of each kind
pub count_known : (k : Known) → length (definitions (log_of k))
    ≡ length k.message_types + length k.contracts + length k.queues + length k.services + length k.routes + length k.priorities + length k.tables + length k.procedures
count_known k = omega (arith, by_kinds (definitions (log_of k)), ap length (message_types_known k), ap length (contracts_known k), ap length (queues_known k), ap length (services_known k), ap length (routes_known k), ap length (priorities_known k), ap length (tables_known k), ap length (procedures_known k))

pub is_some_seen : {A B : Type 0} (f : A → B) (o : Option A) → is_some (option_map f o) ≡ is_some o
is_some_seen f None = refl
is_some_seen f (Some x) = refl

pub is_none_seen : {A B : Type 0} (f : A → B) (o : Option A) → is_none (option_map f o) ≡ is_none o
is_none_seen f None = refl
is_none_seen f (Some x) = refl

pub own_of_log : (log : List Entry) (k : Known) → IsOf log k → (ddl : Ddl) → own_refusal (log_of k) ddl ≡ own_refusal log ddl
own_of_log log k h (MessageType d) =
    ap (λ o. when (is_some o || is_system_type d.name) (refusal.NameTaken d.name) ∷ []) (type_of_log log k h d.name)
own_of_log log k h (Contract d) =
    ap (λ o. taken_if o d.name ∷ listed (find_message_type (log_of k)) refusal.NoMessageType [] (map (λ sent. sent.kind) d.types) ∷ when (not (from_initiator d)) (refusal.NothingFromInitiator d.name) ∷ []) (contract_of_log log k h d.name)
    ∙ ap (λ ds. taken_if (find_contract log d.name) d.name ∷ listed (λ name. find (λ def. same_name def.name name) (default_type ∷ ds)) refusal.NoMessageType [] (map (λ sent. sent.kind) d.types) ∷ when (not (from_initiator d)) (refusal.NothingFromInitiator d.name) ∷ []) (types log k h)
own_of_log log k h (Queue d) =
    ap (λ t. when t (refusal.NameTaken d.name) ∷ missing_if_named (find_procedure (log_of k)) refusal.NoProcedure (procedure_named d.activation) ∷ bad_readers d.activation ∷ [])
    (ap is_some (h.queues d.name) ∙ is_some_seen (as_told log) (find_queue log d.name))
    ∙ ap (λ ds. taken_if (find_queue log d.name) d.name ∷ missing_if_named (λ name. find (λ def. same_name def.name name) ds) refusal.NoProcedure (procedure_named d.activation) ∷ bad_readers d.activation ∷ []) (procedures log k h)
own_of_log log k h (Service d) =
    ap (λ o. taken_if o d.name ∷ missing (find_queue (log_of k)) refusal.NoQueue d.queue ∷ listed (find_contract (log_of k)) refusal.NoContract [] d.contracts ∷ []) (service_of_log log k h d.name)
    ∙ ap (λ t. taken_if (find_service log d.name) d.name ∷ when t (refusal.NoQueue d.queue) ∷ listed (find_contract (log_of k)) refusal.NoContract [] d.contracts ∷ [])
    (ap is_none (h.queues d.queue) ∙ is_none_seen (as_told log) (find_queue log d.queue))
    ∙ ap (λ ds. taken_if (find_service log d.name) d.name ∷ missing (find_queue log) refusal.NoQueue d.queue ∷ listed (λ name. find (λ def. same_name def.name name) (default_contract ∷ ds)) refusal.NoContract [] d.contracts ∷ []) (contracts log k h)
own_of_log log k h (Route d) =
    ap (λ ds. taken_if (find (λ r. same_name r.name d.name) (auto_route ∷ ds)) d.name ∷ bad_text d.service ∷ []) (routes log k h)
own_of_log log k h (Priority d) =
    ap (λ ds. taken_if (find (λ r. same_name r.name d.name) ds) d.name ∷ missing_if_named (find_contract (log_of k)) refusal.NoContract d.contract ∷ missing_if_named (find_service (log_of k)) refusal.NoService d.local ∷ bad_text d.remote ∷ when (not (in_range d.level 1 10)) (refusal.BadNumber d.level) ∷ []) (priorities log k h)
    ∙ ap (λ ds. taken_if (find (λ r. same_name r.name d.name) (flat_map priority_def (definitions log))) d.name ∷ missing_if_named (λ name. find (λ def. same_name def.name name) (default_contract ∷ ds)) refusal.NoContract d.contract ∷ missing_if_named (find_service (log_of k)) refusal.NoService d.local ∷ bad_text d.remote ∷ when (not (in_range d.level 1 10)) (refusal.BadNumber d.level) ∷ []) (contracts log k h)
    ∙ ap (λ ds. taken_if (find (λ r. same_name r.name d.name) (flat_map priority_def (definitions log))) d.name ∷ missing_if_named (find_contract log) refusal.NoContract d.contract ∷ missing_if_named (λ name. find (λ def. same_name def.name name) ds) refusal.NoService d.local ∷ bad_text d.remote ∷ when (not (in_range d.level 1 10)) (refusal.BadNumber d.level) ∷ []) (services log k h)
own_of_log log k h (Table d) = ap (λ o. taken_if o d.name ∷ []) (table_of_log log k h d.name)
own_of_log log k h (Procedure d) = ap (λ o. taken_if o d.name ∷ []) (procedure_of_log log k h d.name)

pub refusal_of_log : (log : List Entry) (k : Known) → IsOf log k → (ddl : Ddl) → define_refusal (log_of k) ddl ≡ define_refusal log ddl
refusal_of_log log k h ddl =
    ap (λ own. first_refusal (own ++ when (nat_le 4096 (length (definitions (log_of k)))) refusal.TooMany ∷ [])) (own_of_log log k h ddl)
    ∙ ap (λ n. first_refusal (own_refusal log ddl ++ when (nat_le 4096 n) refusal.TooMany ∷ [])) (count_of_log log k h)
