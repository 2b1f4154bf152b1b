-- What a catalog learns of an entry.
use Rattle.std.specs.Prelude.{Bool, true, List, None, is_some}
use Rattle.sb_log.specs.declared.entries.Entry.{Entry}
use Rattle.sb_log.specs.declared.entries.Entry.TheVariants.{Defined, QueueSet}
use Rattle.sb_model.specs.Catalog.{find_queue}
use Rattle.sb_model.specs.Logs.{WellFormed}
use Rattle.sb_catalog.specs.Known.{Known, defined, is_new, log_of, ready_for, told}
use Rattle.sb_instance.specs.declared.unready.Unready.{Unready}
use Rattle.sb_instance.specs.declared.unready.Unready.TheVariants as unready

-- a definition has a name that is new in its kind, and a queue that is set is there
abbrev pub may_learn : Known → Entry → Bool
may_learn k (Defined ddl) = is_new (log_of k) ddl
may_learn k (QueueSet queue on) = is_some (find_queue (log_of k) queue)
may_learn k _ = true

-- what is known with the entry
abbrev pub with_entry : Known → Entry → Known
with_entry k (Defined ddl) = defined (ready_for k None) ddl
with_entry k (QueueSet queue on) = told k queue on
with_entry k _ = k

-- a log is called bad only where it isn't well formed
abbrev pub IsBad : List Entry → Unready → Type 0
IsBad log unready.OutOfMemory = Unit {0}
IsBad log unready.BadLog = WellFormed log → ⊥
