-- The header that a side was made with.
use Rattle.std.specs.Prelude.{Bool, if◌then◌else◌, List, Option, find, option_map}
use Rattle.sb_log.specs.declared.identifiers.SideId.{SideId}
use Rattle.sb_log.specs.declared.entries.Entry.{Entry}
use Rattle.sb_log.specs.declared.messages.Header.{Header}
use Rattle.sb_model.specs.Sides.{Making, is_of, made, same_side}

-- a side with a header
pub record Headed : Type 0 where
  pub side : SideId
  pub header : Header

abbrev pub headed_of : SideId × Header → Headed
headed_of e = record { side = e.0; header = e.1 }

-- the header that is kept for the side
abbrev pub header_at : List Headed → SideId → Option Header
header_at headed s = option_map (λ k. k.header) (find (λ k. same_side s k.side) headed)

-- the header of the first making of the side among these
abbrev pub header_among : List Making → SideId → Option Header
header_among ms s = option_map (λ m. m.header) (find (is_of s) ms)

-- a side that was made before keeps its header
abbrev pub header_after : Bool → List Making → SideId → Option Header → Option Header
header_after was_made ms s found = if was_made then found else header_among ms s

-- the header of the side by this log
abbrev pub header_of : List Entry → SideId → Option Header
header_of log s = option_map (λ m. m.header) (made log s)
