-- The definitions of a log: message types, contracts, queues, services, routes, priorities, tables and procedures.
use Rattle.std.specs.Prelude.{Bool, true, false, not, if◌then◌else◌, List, [], ◌∷◌, Option, None, flat_map, find, option_map, unwrap_or, codes}
use Rattle.std.specs.List.{last_or}
use Rattle.sb_log.specs.declared.definitions.Ddl.{Ddl}
use Rattle.sb_log.specs.declared.definitions.Ddl.TheVariants.{MessageType, Contract, Queue, Service, Route, Priority, Table, Procedure}
use Rattle.sb_log.specs.declared.definitions.MessageDef.{MessageDef}
use Rattle.sb_log.specs.declared.definitions.ContractDef.{ContractDef}
use Rattle.sb_log.specs.declared.definitions.QueueDef.{QueueDef}
use Rattle.sb_log.specs.declared.definitions.ServiceDef.{ServiceDef}
use Rattle.sb_log.specs.declared.definitions.RouteDef.{RouteDef}
use Rattle.sb_log.specs.declared.definitions.PriorityDef.{PriorityDef}
use Rattle.sb_log.specs.declared.definitions.TableDef.{TableDef}
use Rattle.sb_log.specs.declared.definitions.ProcedureDef.{ProcedureDef}
use Rattle.sb_log.specs.declared.definitions.Sender.{Sender}
use Rattle.sb_log.specs.declared.entries.Entry.{Entry}
use Rattle.sb_log.specs.declared.entries.Entry.TheVariants.{Defined, QueueSet}
use Rattle.sb_model.specs.Sides.{Bytes, same_name}
use Rattle.sb_log.specs.declared.definitions.Sender.TheVariants as sender

-- the definition of an entry
abbrev pub ddl_of : Entry → List Ddl
ddl_of (Defined ddl) = ddl ∷ []
ddl_of _ = []

-- the definitions of a log, in order
abbrev pub definitions : List Entry → List Ddl
definitions log = flat_map ddl_of log

abbrev pub message_def : Ddl → List MessageDef
message_def (MessageType def) = def ∷ []
message_def _ = []

abbrev pub contract_def : Ddl → List ContractDef
contract_def (Contract def) = def ∷ []
contract_def _ = []

abbrev pub queue_def : Ddl → List QueueDef
queue_def (Queue def) = def ∷ []
queue_def _ = []

abbrev pub service_def : Ddl → List ServiceDef
service_def (Service def) = def ∷ []
service_def _ = []

abbrev pub route_def : Ddl → List RouteDef
route_def (Route def) = def ∷ []
route_def _ = []

abbrev pub priority_def : Ddl → List PriorityDef
priority_def (Priority def) = def ∷ []
priority_def _ = []

abbrev pub table_def : Ddl → List TableDef
table_def (Table def) = def ∷ []
table_def _ = []

abbrev pub procedure_def : Ddl → List ProcedureDef
procedure_def (Procedure def) = def ∷ []
procedure_def _ = []

-- the name that DEFAULT has
abbrev pub default_name : Bytes
default_name = codes "DEFAULT"

abbrev pub default_type : MessageDef
default_type = record { name = default_name; empty = false }

abbrev pub default_contract : ContractDef
default_contract = record { name = default_name; types = record { kind = default_name; by = sender.Any } ∷ [] }

abbrev pub auto_route : RouteDef
auto_route = record { name = codes "AutoCreatedLocal"; service = None; instance = None; to = None }

abbrev pub message_types : List Entry → List MessageDef
message_types log = default_type ∷ flat_map message_def (definitions log)

abbrev pub contracts : List Entry → List ContractDef
contracts log = default_contract ∷ flat_map contract_def (definitions log)

abbrev pub queues : List Entry → List QueueDef
queues log = flat_map queue_def (definitions log)

abbrev pub services : List Entry → List ServiceDef
services log = flat_map service_def (definitions log)

abbrev pub routes : List Entry → List RouteDef
routes log = auto_route ∷ flat_map route_def (definitions log)

abbrev pub priorities : List Entry → List PriorityDef
priorities log = flat_map priority_def (definitions log)

abbrev pub tables : List Entry → List TableDef
tables log = flat_map table_def (definitions log)

abbrev pub procedures : List Entry → List ProcedureDef
procedures log = flat_map procedure_def (definitions log)

-- the definition with this name
abbrev pub find_message_type : List Entry → Bytes → Option MessageDef
find_message_type log name = find (λ def. same_name def.name name) (message_types log)

abbrev pub find_contract : List Entry → Bytes → Option ContractDef
find_contract log name = find (λ def. same_name def.name name) (contracts log)

abbrev pub find_queue : List Entry → Bytes → Option QueueDef
find_queue log name = find (λ def. same_name def.name name) (queues log)

abbrev pub find_service : List Entry → Bytes → Option ServiceDef
find_service log name = find (λ def. same_name def.name name) (services log)

abbrev pub find_table : List Entry → Bytes → Option TableDef
find_table log name = find (λ def. same_name def.name name) (tables log)

abbrev pub find_procedure : List Entry → Bytes → Option ProcedureDef
find_procedure log name = find (λ def. same_name def.name name) (procedures log)

abbrev pub service_queue : List Entry → Bytes → Option Bytes
service_queue log name = option_map (λ def. def.queue) (find_service log name)

-- the settings of a queue, in order
abbrev pub setting : Bytes → Entry → List Bool
setting q (QueueSet queue on) = if same_name queue q then on ∷ [] else []
setting q _ = []

-- a queue is on by its last setting, else by its definition
abbrev pub is_on : List Entry → QueueDef → Bool
is_on log def = unwrap_or (last_or None (flat_map (setting def.name) log)) def.on

abbrev pub queue_is_on : List Entry → Bytes → Bool
queue_is_on log q = unwrap_or (option_map (is_on log) (find_queue log q)) false

-- who may send a type by a contract
abbrev pub sender_of : ContractDef → Bytes → Option Sender
sender_of def name = option_map (λ sent. sent.by) (find (λ sent. same_name sent.kind name) def.types)

abbrev pub may_be_sent_by : Sender → Bool → Bool
may_be_sent_by sender.Initiator initiator = initiator
may_be_sent_by sender.Target initiator = not initiator
may_be_sent_by sender.Any initiator = true
