-- The logs from which a history may start.
use Rattle.std.specs.Prelude.{Bool, true, false, List, [], IsTrue}
use Rattle.std.specs.List.{list_all}
use Rattle.sb_log.specs.declared.identifiers.Who.{Who}
use Rattle.sb_log.specs.declared.entries.Entry.{Entry}
use Rattle.sb_log.specs.declared.entries.Entry.TheVariants.{Defined, Txn, QueueSet}
use Rattle.sb_log.specs.declared.entries.Op.{Op}
use Rattle.sb_log.specs.declared.entries.Op.TheVariants.{Begin}
use Rattle.sb_model.specs.Sides.{is_home}
use Rattle.sb_model.specs.Logs.{WellFormed, IsFresh}
use Rattle.sb_model.specs.Links.{Linked, both}

-- both logs are well formed and fresh, and they are linked with nothing on the wire
pub record StartsLinked (log_a log_b : List Entry) : Type 0 where
  pub linked : Linked (both log_a log_b) []
  pub formed_a : WellFormed log_a
  pub formed_b : WellFormed log_b
  pub fresh_a : IsFresh log_a
  pub fresh_b : IsFresh log_b

abbrev pub begins_at : Who → Op → Bool
begins_at x (Begin handle group header) = is_home x handle
begins_at x _ = false

abbrev pub is_ready_entry : Who → Entry → Bool
is_ready_entry x (Defined ddl) = true
is_ready_entry x (QueueSet queue on) = true
is_ready_entry x (Txn tx ops) = list_all (begins_at x) ops
is_ready_entry x _ = false

-- a log that is made by hand: definitions, and dialogs that the instance began and in which nothing was said
pub record IsReady (x : Who) (log : List Entry) : Type 0 where
  pub only : IsTrue (list_all (is_ready_entry x) log)
  pub formed : WellFormed log
  pub fresh : IsFresh log
