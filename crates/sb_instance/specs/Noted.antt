-- What an instance notes, so that the log isn't asked again.
use Rattle.std.specs.Prelude.{◌<◌, ◌^◌, ℕ, List, Option, IfSome}
use Rattle.sb_log.specs.declared.entries.Entry.{Entry}
use Rattle.sb_log.specs.declared.identifiers.Who.{Who}
use Rattle.sb_catalog.specs.Known.{Known}
use Rattle.sb_catalog.specs.Of.{IsOf}
use Rattle.sb_instance.specs.Carrying.{IsCarried}
use Rattle.sb_instance.specs.Sending.{AreSending}
use Rattle.sb_instance.specs.Waiting.{IsWaiting}
use Rattle.sb_instance.specs.declared.carrying.Carrying.{Carrying}
use Rattle.sb_instance.specs.declared.sending.Sending.{Sending}
use Rattle.sb_instance.specs.declared.waiting.Waiting.{Waiting}

-- the next handle is a low half, and what is noted is so
pub record IsSound (who : Who) (log : List Entry) (next_handle : ℕ) (carrying : Option Carrying) (sending : List Sending) (waiting : Option Waiting) : Type 0 where
  pub small : next_handle < 2 ^ 64
  pub carrying_so : IfSome carrying (IsCarried who log)
  pub sending_so : AreSending log sending
  pub waiting_so : IfSome waiting (IsWaiting log)

-- what is noted is so, and the catalog knows what the log says
pub record IsOfLog (who : Who) (log : List Entry) (next_handle : ℕ) (carrying : Option Carrying) (sending : List Sending) (waiting : Option Waiting) (catalog : Known) : Type 0 where
  pub noted : IsSound who log next_handle carrying sending waiting
  pub catalog_so : IsOf log catalog
