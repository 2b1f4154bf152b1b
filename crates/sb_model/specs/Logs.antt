-- Which entries a log allows, and when it is fresh.
use Rattle.std.specs.Prelude.{IsTrue, ℕ, Bool, true, not, ◌&&◌, ◌==◌, ◌+◌, ◌^◌, nat_le, nat_lt, List, [], ◌∷◌, ◌++◌, Option, Some, None, flat_map, find, length, is_some, is_none}
use Rattle.std.specs.List.{list_any, list_all}
use Rattle.sb_log.specs.declared.identifiers.Handle.{Handle}
use Rattle.sb_log.specs.declared.identifiers.SideId.{SideId}
use Rattle.sb_log.specs.declared.entries.Entry.{Entry}
use Rattle.sb_log.specs.declared.entries.Op.{Op}
use Rattle.sb_model.specs.Sides.{Bytes, same_name, same_id, makings, has_side}
use Rattle.sb_log.specs.declared.definitions.Ddl.{Ddl}
use Rattle.sb_log.specs.declared.entries.Entry.TheVariants.{Defined, Txn, Accepted, Acked, Fired, Expired, QueueSet}
use Rattle.sb_log.specs.declared.entries.NewSide.{NewSide}
use Rattle.sb_log.specs.declared.entries.Op.TheVariants.{Begin, Send, Took, End, Cleanup, Move, Timer, Put, Delete}
use Rattle.sb_log.specs.declared.messages.Header.{Header}
use Rattle.sb_model.specs.Messages.{accepted}
use Rattle.sb_model.specs.Catalog.{routes, priorities, find_message_type, find_contract, find_queue, find_service, find_table, find_procedure}
use Rattle.sb_model.specs.Definitions.{is_system_type, procedure_named}
use Rattle.sb_model.specs.Items.{items}
use Rattle.sb_model.specs.Groups.{own_service}
use Rattle.sb_model.specs.Transactions.{with_ops}
use Rattle.sb_model.specs.Instance.{ids, low_half, tx_of}
use Rattle.sb_log.specs.declared.definitions.Ddl.TheVariants as ddl

abbrev pub has_procedure : List Entry → Option Bytes → Bool
has_procedure log None = true
has_procedure log (Some name) = is_some (find_procedure log name)

abbrev pub is_ddl_allowed : List Entry → Ddl → Bool
is_ddl_allowed log (ddl.MessageType d) = is_none (find_message_type log d.name) && not (is_system_type d.name)
is_ddl_allowed log (ddl.Contract d) = is_none (find_contract log d.name)
is_ddl_allowed log (ddl.Queue d) = is_none (find_queue log d.name) && has_procedure log (procedure_named d.activation)
is_ddl_allowed log (ddl.Service d) = is_none (find_service log d.name) && is_some (find_queue log d.queue)
is_ddl_allowed log (ddl.Route d) = is_none (find (λ r. same_name r.name d.name) (routes log))
is_ddl_allowed log (ddl.Priority d) = is_none (find (λ r. same_name r.name d.name) (priorities log))
is_ddl_allowed log (ddl.Table d) = is_none (find_table log d.name)
is_ddl_allowed log (ddl.Procedure d) = is_none (find_procedure log d.name)

-- a side may be made: it and its handle are new, and the service on its own end is there
abbrev pub may_make : List Entry → SideId → Handle → Header → Bool
may_make log s handle h =
    not (has_side log s) && not (list_any (λ m. same_id m.handle handle) (makings log)) && is_some (find_service log (own_service s h))

abbrev pub is_item : List Entry → ℕ → Bool
is_item log n = nat_le 1 n && nat_le n (length (items log))

abbrev pub is_op_allowed : List Entry → Op → Bool
is_op_allowed log (Begin handle group h) = may_make log (record { conversation = handle; initiator = true }) handle h
is_op_allowed log (Send s kind body) = has_side log s
is_op_allowed log (Took q item) = is_some (find_queue log q) && is_item log item
is_op_allowed log (End s last) = has_side log s
is_op_allowed log (Cleanup s) = has_side log s
is_op_allowed log (Move s group) = has_side log s
is_op_allowed log (Timer s at) = has_side log s
is_op_allowed log (Put table key n body) = true
is_op_allowed log (Delete table key) = true

-- each operation is allowed after those before it
abbrev pub are_ops_allowed : List Entry → ℕ → List Op → List Op → Bool
are_ops_allowed log tx done [] = true
are_ops_allowed log tx done (op ∷ ops) = is_op_allowed (with_ops log tx done) op && are_ops_allowed log tx (done ++ op ∷ []) ops

abbrev pub is_made_allowed : List Entry → SideId → Option NewSide → Bool
is_made_allowed log s None = has_side log s
is_made_allowed log s (Some m) = may_make log s m.handle m.header

-- the entry is allowed after the log
abbrev pub is_allowed : List Entry → Entry → Bool
is_allowed log (Defined d) = is_ddl_allowed log d
is_allowed log (Txn tx ops) = are_ops_allowed log tx [] ops
is_allowed log (Accepted s number m content) = is_made_allowed log s m && (number == accepted log s + 1)
is_allowed log (Acked s upto closed) = has_side log s
is_allowed log (Fired s) = has_side log s
is_allowed log (Expired s) = has_side log s
is_allowed log (QueueSet q on) = is_some (find_queue log q)

abbrev pub are_allowed_after : List Entry → List Entry → Bool
are_allowed_after log [] = true
are_allowed_after log (e ∷ es) = is_allowed log e && are_allowed_after (log ++ e ∷ []) es

-- each entry is allowed after those before it
abbrev pub is_well_formed : List Entry → Bool
is_well_formed log = are_allowed_after [] log

-- no handle or group has a low half of 2^62 or more, and no transaction number is so great
abbrev pub is_fresh : List Entry → Bool
is_fresh log = list_all (λ id. nat_lt (low_half id.0) (2 ^ 62)) (ids log) && list_all (λ tx. nat_lt tx (2 ^ 62)) (flat_map tx_of log)

abbrev pub Allowed : List Entry → Entry → Type 0
Allowed log e = IsTrue (is_allowed log e)

abbrev pub WellFormed : List Entry → Type 0
WellFormed log = IsTrue (is_well_formed log)

abbrev pub IsFresh : List Entry → Type 0
IsFresh log = IsTrue (is_fresh log)
