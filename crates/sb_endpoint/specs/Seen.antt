-- What contracts see of the endpoints: the facts of sides and the sides of handles, by look-ups.
use Rattle.std.specs.Prelude.{◌≡◌, ℕ, Bool, true, false, ◌+◌, ◌≤◌, if◌then◌else◌, List, [], Option, Some, None, find, fold, length, option_map, unwrap_or}
use Rattle.std.specs.Option.{option_or}
use Rattle.sb_log.specs.declared.identifiers.Handle.{Handle}
use Rattle.sb_log.specs.declared.identifiers.SideId.{SideId}
use Rattle.sb_log.specs.declared.identifiers.State.{State}
use Rattle.sb_log.specs.declared.entries.Entry.{Entry}
use Rattle.sb_log.specs.declared.messages.Header.{Header}
use Rattle.sb_model.specs.Sides.{Making, is_of, made_by, same_id, same_side, side_of}
use Rattle.sb_endpoint.specs.declared.endpoint.Endpoint.{Endpoint}
use Rattle.sb_endpoint.specs.Changes.{Told, changes_of, endpoint_after, endpoint_told}
use Rattle.sb_endpoint.specs.Endpoints.{endpoint_of, unknown}
use Rattle.sb_endpoint.specs.Handles.{side_after}
use Rattle.sb_endpoint.specs.Headers.{Headed, header_after, header_among, header_at, header_of}
use Rattle.sb_endpoint.specs.States.{is_made, state_by}

-- a side with its facts
pub record Known : Type 0 where
  pub side : SideId
  pub endpoint : Endpoint

-- a handle with the side that it names
pub record Named : Type 0 where
  pub handle : Handle
  pub side : SideId

-- sides, handles and headers in no order that matters, and how many more changes fit without memory
pub record SidesAndHandles : Type 0 where
  pub endpoints : List Known
  pub handles : List Named
  pub headers : List Headed
  pub spare : ℕ

-- one of the two parts, with its own room
pub record KnownSides : Type 0 where
  pub endpoints : List Known
  pub room : ℕ

pub record NamedSides : Type 0 where
  pub handles : List Named
  pub room : ℕ

abbrev pub known_of : SideId × Endpoint → Known
known_of e = record { side = e.0; endpoint = e.1 }

abbrev pub named_of : Handle × SideId → Named
named_of e = record { handle = e.0; side = e.1 }

abbrev pub nothing : SidesAndHandles
nothing = record { endpoints = []; handles = []; headers = []; spare = 0 }

-- the facts of the side, those of an unknown one where there are none
abbrev pub endpoint_in : List Known → SideId → Endpoint
endpoint_in known s = unwrap_or (option_map (λ k. k.endpoint) (find (λ k. same_side s k.side) known)) unknown

-- the side that the handle names
abbrev pub side_in : List Named → Handle → Option SideId
side_in named h = option_map (λ n. n.side) (find (λ n. same_id h n.handle) named)

abbrev pub is_made_in : List Known → SideId → Bool
is_made_in known s = is_made (endpoint_in known s)

-- the state of a side that was made
abbrev pub state_in : List Known → SideId → Option State
state_in known s = if is_made_in known s then Some (state_by s (endpoint_in known s)) else None

-- the header of a side that was made; one that is kept for a making to come doesn't count
abbrev pub header_in : SidesAndHandles → SideId → Option Header
header_in seen s = if is_made_in seen.endpoints s then header_at seen.headers s else None

-- there is room for the entry, and a header for each side that it is the first to make
pub record IsReady (seen : SidesAndHandles) (entry : Entry) : Type 0 where
  pub room : length (changes_of entry) ≤ seen.spare
  pub headers : (s : SideId) (m : Making) → is_made_in seen.endpoints s ≡ false → find (is_of s) (made_by entry) ≡ Some m → header_at seen.headers s ≡ Some m.header

-- look-ups tell what they told: at most headers of sides that weren't made are others
pub record Keeps (old new : SidesAndHandles) : Type 0 where
  pub endpoints : new.endpoints ≡ old.endpoints
  pub handles : new.handles ≡ old.handles
  pub spare : old.spare ≤ new.spare
  pub headers : (s : SideId) → is_made_in old.endpoints s ≡ true → header_at new.headers s ≡ header_at old.headers s

-- the headers of these makings are kept for the sides that weren't made
pub record Readies (old : SidesAndHandles) (makings : List Making) (new : SidesAndHandles) : Type 0 where
  pub headers : (s : SideId) → is_made_in old.endpoints s ≡ false → header_at new.headers s ≡ option_or (header_among makings s) (header_at old.headers s)

-- these changes and makings were taken up, in turn, and at most as much room was used
pub record Applies (old : SidesAndHandles) (changes : List Told) (makings : List Making) (new : SidesAndHandles) : Type 0 where
  pub endpoints : (s : SideId) → endpoint_in new.endpoints s ≡ fold (endpoint_told s) (endpoint_in old.endpoints s) changes
  pub handles : (h : Handle) → side_in new.handles h ≡ side_after (is_made_in old.endpoints) makings h (side_in old.handles h)
  pub headers : new.headers ≡ old.headers
  pub spare : old.spare ≤ new.spare + length changes

-- one more entry was taken up
pub record Takes (old : SidesAndHandles) (entry : Entry) (new : SidesAndHandles) : Type 0 where
  pub endpoints : (s : SideId) → endpoint_in new.endpoints s ≡ endpoint_after s entry (endpoint_in old.endpoints s)
  pub handles : (h : Handle) → side_in new.handles h ≡ side_after (is_made_in old.endpoints) (made_by entry) h (side_in old.handles h)
  pub headers : (s : SideId) → header_in new s ≡ header_after (is_made_in old.endpoints s) (made_by entry) s (header_in old s)

-- the facts, the handles and the headers are those of the log
pub record AreOf (log : List Entry) (seen : SidesAndHandles) : Type 0 where
  pub endpoints : (s : SideId) → endpoint_in seen.endpoints s ≡ endpoint_of log s
  pub handles : (h : Handle) → side_in seen.handles h ≡ side_of log h
  pub headers : (s : SideId) → header_in seen s ≡ header_of log s
