-- What a catalog's tables hold, and how they stand to what it knows.
use Rattle.std.specs.Prelude.{◌≡◌, ℕ, ◌<◌, ◌∷◌, drop, option_map, string_bytes, IfSome}
use Rattle.sb_model.specs.Sides.{Bytes}
use Rattle.sb_model.specs.Catalog.{auto_route, default_contract, default_type}
use Rattle.sb_catalog.specs.declared.kinds.Kind.{Kind}
use Rattle.sb_catalog.specs.declared.kinds.Kind.TheVariants as kind
use Rattle.sb_catalog.specs.declared.catalog.Ready.{Ready}
use Rattle.sb_catalog.specs.declared.catalog.Catalog.TheInside.{Inside}
use Rattle.sb_catalog.specs.Known.{Known}

abbrev pub ready_key : Ready → Kind × Bytes
ready_key r = (r.kind, string_bytes r.name)

-- what is built in stands first in its table, and isn't counted
abbrev pub known : Inside → Known
known c = record {
  message_types = drop 1 c.message_types.defs;
  contracts = drop 1 c.contracts.defs;
  queues = c.queues.defs;
  services = c.services.defs;
  routes = drop 1 c.routes.defs;
  priorities = c.priorities.defs;
  tables = c.tables.defs;
  procedures = c.procedures.defs;
  ready = option_map ready_key c.ready;
}

abbrev pub room_for : Inside → Kind → ℕ
room_for c kind.MessageType = c.message_types.room
room_for c kind.Contract = c.contracts.room
room_for c kind.Queue = c.queues.room
room_for c kind.Service = c.services.room
room_for c kind.Route = c.routes.room
room_for c kind.Priority = c.priorities.room
room_for c kind.Table = c.tables.room
room_for c kind.Procedure = c.procedures.room

-- the built-in definitions are there, and so is the room that was made
pub record IsSound (c : Inside) : Type 0 where
  pub message_types : c.message_types.defs ≡ default_type ∷ drop 1 c.message_types.defs
  pub contracts : c.contracts.defs ≡ default_contract ∷ drop 1 c.contracts.defs
  pub routes : c.routes.defs ≡ auto_route ∷ drop 1 c.routes.defs
  pub room : IfSome c.ready (λ r. 0 < room_for c r.kind)
