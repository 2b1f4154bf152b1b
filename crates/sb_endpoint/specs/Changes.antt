-- What an entry says of the sides that it names, and what that makes of their facts.
use Rattle.std.specs.Prelude.{true, not, ◌||◌, ◌+◌, if◌then◌else◌, List, [], ◌∷◌, ◌++◌, Option, Some, None, flat_map, fold, max}
use Rattle.std.specs.Option.{option_or}
use Rattle.sb_log.specs.declared.identifiers.Handle.{Handle}
use Rattle.sb_log.specs.declared.identifiers.SideId.{SideId}
use Rattle.sb_log.specs.declared.entries.Entry.{Entry}
use Rattle.sb_log.specs.declared.entries.Entry.TheVariants.{Txn, Accepted, Acked, Expired}
use Rattle.sb_log.specs.declared.entries.Op.{Op}
use Rattle.sb_log.specs.declared.entries.Op.TheVariants.{Begin, Send, End, Cleanup, Move}
use Rattle.sb_log.specs.declared.entries.NewSide.{NewSide}
use Rattle.sb_log.specs.declared.messages.Content.{Content}
use Rattle.sb_model.specs.Sides.{same_side}
use Rattle.sb_model.specs.Messages.{final_content}
use Rattle.sb_model.specs.States.{is_empty, is_end_dialog, is_error}
use Rattle.sb_endpoint.specs.declared.change.Change.{Change}
use Rattle.sb_endpoint.specs.declared.change.Change.TheVariants as change
use Rattle.sb_endpoint.specs.declared.endpoint.Endpoint.{Endpoint}

-- a change, and the side that it is about
pub record Told : Type 0 where
  pub side : SideId
  pub change : Change

abbrev pub told : SideId → Change → Told
told side c = record { side = side; change = c }

-- the side that BEGIN DIALOG makes
abbrev pub begun : Handle → SideId
begun handle = record { conversation = handle; initiator = true }

abbrev pub told_making : SideId → Handle → Handle → Told
told_making side handle group = told side (change.Made (record { handle = handle; group = group }))

-- what an operation says
abbrev pub changes_of_op : Op → List Told
changes_of_op (Begin handle group header) = told_making (begun handle) handle group ∷ []
changes_of_op (Send side kind body) = told side change.Sent ∷ []
changes_of_op (End side last) = told side (change.Ended (not (is_empty (final_content last)))) ∷ []
changes_of_op (Cleanup side) = told side change.Cleaned ∷ []
changes_of_op (Move side group) = told side (change.Moved group) ∷ []
changes_of_op _ = []

abbrev pub changes_of_new : SideId → Option NewSide → List Told
changes_of_new side None = []
changes_of_new side (Some new) = told_making side new.handle new.group ∷ []

abbrev pub told_of_content : SideId → Content → Told
told_of_content side content = told side (change.Accepted (is_end_dialog content) (is_error content))

-- what an entry says, in turn
abbrev pub changes_of : Entry → List Told
changes_of (Txn tx ops) = flat_map changes_of_op ops
changes_of (Accepted side number new content) = changes_of_new side new ++ told_of_content side content ∷ []
changes_of (Acked side upto closed) = told side (change.Acked upto closed) ∷ []
changes_of (Expired side) = told side change.Expired ∷ []
changes_of _ = []

-- the first making counts, and the last move; counts rise, and nothing is taken back
abbrev pub changed : Change → Endpoint → Endpoint
changed (change.Made made) e = record e { made = option_or e.made (Some made) }
changed (change.Moved group) e = record e { moved = Some group }
changed change.Sent e = record e { sends = e.sends + 1 }
changed (change.Ended has_final) e = record e { ended = true; has_final = e.has_final || has_final }
changed change.Cleaned e = record e { cleaned = true }
changed change.Expired e = record e { expired = true }
changed (change.Accepted is_end is_error) e =
    record e { accepted = e.accepted + 1; got_end = e.got_end || is_end; got_error = e.got_error || is_error }
changed (change.Acked upto closed) e = record e { acked = max e.acked upto; closed = e.closed || closed }

-- a change of another side leaves this one as it was
abbrev pub endpoint_told : SideId → Endpoint → Told → Endpoint
endpoint_told s e t = if same_side t.side s then changed t.change e else e

-- what an entry makes of a side's facts
abbrev pub endpoint_after : SideId → Entry → Endpoint → Endpoint
endpoint_after s entry e = fold (endpoint_told s) e (changes_of entry)
