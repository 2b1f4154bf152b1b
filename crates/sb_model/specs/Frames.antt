-- The frames that an instance hands out at a pump.
use Rattle.std.specs.Prelude.{ℕ, Bool, ◌+◌, nat_le, if◌then◌else◌, List, [], ◌∷◌, ◌++◌, Option, Some, flat_map, find, take}
use Rattle.std.specs.Option.{option_map_or}
use Rattle.sb_log.specs.declared.identifiers.Handle.{Handle}
use Rattle.sb_log.specs.declared.identifiers.SideId.{SideId}
use Rattle.sb_log.specs.declared.identifiers.Who.{Who}
use Rattle.sb_log.specs.declared.entries.Entry.{Entry}
use Rattle.sb_log.specs.declared.messages.Frame.{Frame}
use Rattle.sb_log.specs.declared.messages.Header.{Header}
use Rattle.sb_log.specs.declared.messages.Content.{Content}
use Rattle.sb_model.specs.Sides.{same_side, partner, Making, sides}
use Rattle.sb_model.specs.Messages.{accepted, acked, is_closed, outgoing}
use Rattle.sb_model.specs.Groups.{level_of, far_service}
use Rattle.sb_model.specs.Routes.{route}
use Rattle.sb_model.specs.Sorting.{stable}
use Rattle.sb_model.specs.Acceptance.{instance_id}
use Rattle.sb_log.specs.declared.messages.Frame.TheVariants as frame

-- the header as the side sends it: a target's is turned round
abbrev pub sent_header : Who → Making → Header
sent_header who m =
    if m.side.initiator then m.header
    else record {
      from_service = m.header.to_service;
      to_service = m.header.from_service;
      contract = m.header.contract;
      from = instance_id who;
      to = Some m.header.from;
      expires = m.header.expires;
    }

-- the instance of the partner, where one is named
abbrev pub far_instance : Making → Option Handle
far_instance m = if m.side.initiator then m.header.to else Some m.header.from

-- where the side's frames go
abbrev pub destination : Who → List Entry → Making → Who
destination who log m = route log who (far_service m.side m.header) (far_instance m)

-- a frame on its way
pub record Sent : Type 0 where
  pub to : Who
  pub frame : Frame

-- a side's messages, numbered from n
abbrev pub data_from : Who → List Entry → Making → ℕ → List Content → List Sent
data_from who log m n [] = []
data_from who log m n (c ∷ cs) =
    record { to = destination who log m; frame = frame.Data (record { side = m.side; number = n; header = sent_header who m; content = c }) }
    ∷ data_from who log m (n + 1) cs

abbrev pub data_frames : Who → List Entry → Making → List Sent
data_frames who log m = data_from who log m (acked log m.side + 1) (take 64 (outgoing log m.side))

-- a side that owes an acknowledgement, and the instance that is to take it
pub record Owed : Type 0 where
  pub side : SideId
  pub to : Handle

-- the partner's side is acknowledged, by the route to the instance that sent
abbrev pub ack_of : Who → List Entry → Making → Owed → Sent
ack_of who log m o =
    record {
      to = route log who (far_service m.side m.header) (Some o.to);
      frame = frame.Ack (record { side = partner m.side; upto = accepted log m.side; closed = is_closed log m.side; to = o.to });
    }

abbrev pub ack_frame : Who → List Entry → List Owed → Making → List Sent
ack_frame who log owed m =
    option_map_or (λ o. ack_of who log m o ∷ []) (find (λ o. same_side o.side m.side) owed) []

-- by level, high first; sides of one level stay in the order in which the log made them
abbrev pub no_later : List Entry → Making → Making → Bool
no_later log a b = nat_le (level_of log b.side) (level_of log a.side)

abbrev pub by_level : List Entry → List Making
by_level log = stable (no_later log) (sides log)

-- the data frames by level, and then an acknowledgement for each side that owes one
abbrev pub frames_due : Who → List Entry → List Owed → List Sent
frames_due who log owed = flat_map (data_frames who log) (by_level log) ++ flat_map (ack_frame who log owed) (sides log)
