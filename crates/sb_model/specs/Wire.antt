-- The frames that were ever put on the link.
use Rattle.std.specs.Prelude.{ℕ, zero, suc, Bool, true, false, ◌+◌, List, [], ◌∷◌, Option, None, find, length, sum_by, slice_get}
use Rattle.sb_log.specs.declared.identifiers.Who.{Who}
use Rattle.sb_model.specs.Sides.{Bytes, same_name}
use Rattle.sb_log.specs.declared.messages.Frame.{Frame}
use Rattle.sb_log.specs.declared.steps.FrameLine.{FrameLine}
use Rattle.sb_model.specs.Frames.{Sent}
use Rattle.sb_model.specs.Sizes.{frame_size}
use Rattle.sb_model.specs.Spelling.{frame_bytes}

-- a frame that was put, and whether it waits
pub record Wired : Type 0 where
  pub from : Who
  pub to : Who
  pub frame : Frame
  pub waits : Bool

abbrev pub no_longer_waits : ℕ → List Wired → List Wired
no_longer_waits zero wire = wire
no_longer_waits (suc k) [] = []
no_longer_waits (suc zero) (f ∷ wire) = record f { waits = false } ∷ wire
no_longer_waits (suc (suc k)) (f ∷ wire) = f ∷ no_longer_waits (suc k) wire

-- frames are numbered from 1
abbrev pub wired : List Wired → ℕ → Option Wired
wired wire zero = None
wired wire (suc k) = slice_get wire k

-- the frame on the wire that these bytes spell
abbrev pub spelled_on : List Wired → Bytes → Option Wired
spelled_on wire bytes = find (λ g. same_name (frame_bytes g.frame) bytes) wire

abbrev pub wire_size : List Wired → ℕ
wire_size wire = sum_by (λ f. frame_size f.frame) wire

abbrev pub sent_size : List Sent → ℕ
sent_size sent = sum_by (λ f. frame_size f.frame) sent

abbrev pub put : Who → Sent → Wired
put x s = record { from = x; to = s.to; frame = s.frame; waits = true }

abbrev pub lines_from : ℕ → List Sent → List FrameLine
lines_from n [] = []
lines_from n (s ∷ sent) = record { number = n; to = s.to; frame = s.frame } ∷ lines_from (n + 1) sent
