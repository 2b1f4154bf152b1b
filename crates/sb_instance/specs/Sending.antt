-- A side that may send.
use Rattle.std.specs.Prelude.{◌≡◌, true, false, List, [], Some, flat_map}
use Rattle.std.specs.List.{All, list_any}
use Rattle.sb_log.specs.declared.entries.Entry.{Entry}
use Rattle.sb_log.specs.declared.entries.Op.{Op}
use Rattle.sb_log.specs.declared.identifiers.Handle.{Handle}
use Rattle.sb_log.specs.declared.identifiers.SideId.{SideId}
use Rattle.sb_model.specs.Groups.{group_moved}
use Rattle.sb_model.specs.Messages.{cleans, ends_side}
use Rattle.sb_model.specs.Replies.{live}
use Rattle.sb_model.specs.Sides.{made_by_op}
use Rattle.sb_model.specs.States.{may_send, state_of}
use Rattle.sb_instance.specs.Asked.{ask_of}
use Rattle.sb_instance.specs.declared.sending.Sending.{Sending}

-- the handle is that of a side that is there and isn't cleaned, and the side's state allows a SEND
pub record MaySend (log : List Entry) (handle : Handle) (side : SideId) : Type 0 where
  pub found : live (ask_of log) handle ≡ Some side
  pub allowed : may_send (state_of log side) ≡ true

-- each of these may send
abbrev pub AreSending : List Entry → List Sending → Type 0
AreSending log known = All (λ x. MaySend log x.handle x.side) known

-- the operations make, end, clean and move no side
pub record IsQuiet (ops : List Op) : Type 0 where
  pub makes : flat_map made_by_op ops ≡ []
  pub ends : (s : SideId) → list_any (ends_side s) ops ≡ false
  pub clean : (s : SideId) → list_any (cleans s) ops ≡ false
  pub moves : (s : SideId) → flat_map (group_moved s) ops ≡ []
