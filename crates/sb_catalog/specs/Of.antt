-- When what is known is what a log says.
use Rattle.std.specs.Prelude.{◌≡◌, List, [], None, flat_map, length, option_map}
use Rattle.sb_log.specs.declared.definitions.QueueDef.{QueueDef}
use Rattle.sb_log.specs.declared.entries.Entry.{Entry}
use Rattle.sb_model.specs.Sides.{Bytes}
use Rattle.sb_model.specs.Catalog.{definitions, message_def, contract_def, queue_def, service_def, route_def, priority_def, table_def, procedure_def, find_queue, is_on, setting}
use Rattle.sb_catalog.specs.Known.{Known, log_of}

-- a queue as the log told of it last
abbrev pub as_told : List Entry → QueueDef → QueueDef
as_told log d = record d { on = is_on log d }

-- the log's definitions of each kind in order, and its queues as it told of them last; it told of none before its definition
pub record IsOf (log : List Entry) (k : Known) : Type 0 where
  pub message_types : k.message_types ≡ flat_map message_def (definitions log)
  pub contracts : k.contracts ≡ flat_map contract_def (definitions log)
  pub queues : (q : Bytes) → find_queue (log_of k) q ≡ option_map (as_told log) (find_queue log q)
  pub queue_count : length k.queues ≡ length (flat_map queue_def (definitions log))
  pub services : k.services ≡ flat_map service_def (definitions log)
  pub routes : k.routes ≡ flat_map route_def (definitions log)
  pub priorities : k.priorities ≡ flat_map priority_def (definitions log)
  pub tables : k.tables ≡ flat_map table_def (definitions log)
  pub procedures : k.procedures ≡ flat_map procedure_def (definitions log)
  pub untold : (q : Bytes) → find_queue log q ≡ None → flat_map (setting q) log ≡ []
