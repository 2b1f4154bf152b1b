-- What a catalog knows: the definitions of each kind in order, beside the built-in ones.
use Rattle.std.specs.Prelude.{Bool, if◌then◌else◌, List, [], ◌∷◌, ◌++◌, Option, None, map, find, is_none}
use Rattle.sb_log.specs.declared.definitions.Ddl.{Ddl}
use Rattle.sb_log.specs.declared.definitions.Ddl.TheVariants.{MessageType, Contract, Queue, Service, Route, Priority, Table, Procedure}
use Rattle.sb_log.specs.declared.definitions.MessageDef.{MessageDef}
use Rattle.sb_log.specs.declared.definitions.ContractDef.{ContractDef}
use Rattle.sb_log.specs.declared.definitions.QueueDef.{QueueDef}
use Rattle.sb_log.specs.declared.definitions.ServiceDef.{ServiceDef}
use Rattle.sb_log.specs.declared.definitions.RouteDef.{RouteDef}
use Rattle.sb_log.specs.declared.definitions.PriorityDef.{PriorityDef}
use Rattle.sb_log.specs.declared.definitions.TableDef.{TableDef}
use Rattle.sb_log.specs.declared.definitions.ProcedureDef.{ProcedureDef}
use Rattle.sb_log.specs.declared.entries.Entry.{Entry}
use Rattle.sb_log.specs.declared.entries.Entry.TheVariants.{Defined}
use Rattle.sb_model.specs.Sides.{Bytes, same_name}
use Rattle.sb_model.specs.Catalog.{find_message_type, find_contract, find_queue, find_service, find_table, find_procedure, routes, priorities}
use Rattle.sb_catalog.specs.declared.kinds.Kind.{Kind}

-- the definitions of each kind in order; a queue is on as it was told last; and the kind and name for which there is room
pub record Known : Type 0 where
  pub message_types : List MessageDef
  pub contracts : List ContractDef
  pub queues : List QueueDef
  pub services : List ServiceDef
  pub routes : List RouteDef
  pub priorities : List PriorityDef
  pub tables : List TableDef
  pub procedures : List ProcedureDef
  pub ready : Option (Kind × Bytes)

abbrev pub nothing : Known
nothing = record {
  message_types = [];
  contracts = [];
  queues = [];
  services = [];
  routes = [];
  priorities = [];
  tables = [];
  procedures = [];
  ready = None;
}

-- all definitions, kind by kind
abbrev pub all_definitions : Known → List Ddl
all_definitions k =
    map MessageType k.message_types ++ (map Contract k.contracts ++ (map Queue k.queues ++ (map Service k.services
    ++ (map Route k.routes ++ (map Priority k.priorities ++ (map Table k.tables ++ map Procedure k.procedures))))))

-- the log of just these definitions
abbrev pub log_of : Known → List Entry
log_of k = map Defined (all_definitions k)

-- one more definition of its kind
abbrev pub defined : Known → Ddl → Known
defined k (MessageType d) = record k { message_types = k.message_types ++ d ∷ [] }
defined k (Contract d) = record k { contracts = k.contracts ++ d ∷ [] }
defined k (Queue d) = record k { queues = k.queues ++ d ∷ [] }
defined k (Service d) = record k { services = k.services ++ d ∷ [] }
defined k (Route d) = record k { routes = k.routes ++ d ∷ [] }
defined k (Priority d) = record k { priorities = k.priorities ++ d ∷ [] }
defined k (Table d) = record k { tables = k.tables ++ d ∷ [] }
defined k (Procedure d) = record k { procedures = k.procedures ++ d ∷ [] }

abbrev pub ready_for : Known → Option (Kind × Bytes) → Known
ready_for k room = record k { ready = room }

-- no definition of its kind has its name
abbrev pub is_new : List Entry → Ddl → Bool
is_new log (MessageType d) = is_none (find_message_type log d.name)
is_new log (Contract d) = is_none (find_contract log d.name)
is_new log (Queue d) = is_none (find_queue log d.name)
is_new log (Service d) = is_none (find_service log d.name)
is_new log (Route d) = is_none (find (λ r. same_name r.name d.name) (routes log))
is_new log (Priority d) = is_none (find (λ r. same_name r.name d.name) (priorities log))
is_new log (Table d) = is_none (find_table log d.name)
is_new log (Procedure d) = is_none (find_procedure log d.name)

-- the queue with this name is on, or off
abbrev pub with_on : Bytes → Bool → List QueueDef → List QueueDef
with_on q on [] = []
with_on q on (d ∷ ds) = if same_name d.name q then record d { on = on } ∷ ds else d ∷ with_on q on ds

abbrev pub told : Known → Bytes → Bool → Known
told k q on = record k { queues = with_on q on k.queues }
