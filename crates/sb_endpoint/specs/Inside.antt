-- How the facts of sides are kept.
use Rattle.std.specs.Prelude.{ℕ, ◌+◌, ◌-◌, ◌<◌, ◌≤◌, ◌^◌, map, min}
use Rattle.indexmap.specs.IndexMap.{spare}
use Rattle.sb_log.specs.declared.identifiers.SideId.{SideId}
use Rattle.sb_endpoint.specs.declared.by_side.BySide.TheInside.{Inside}
use Rattle.sb_endpoint.specs.declared.endpoint.Endpoint.{Endpoint}
use Rattle.sb_endpoint.specs.Seen.{KnownSides, endpoint_in, known_of}

-- so many changes explain the counts of a side
pub record IsCounted (changes : ℕ) (e : Endpoint) : Type 0 where
  pub sends : e.sends ≤ changes
  pub accepted : e.accepted ≤ changes

abbrev pub known_sides : Inside → KnownSides
known_sides b = record { endpoints = map known_of b.endpoints.entries; room = min (spare b.endpoints) (2 ^ 64 - 2 - b.changes) }

-- no count is more than there were changes, and one more fits
pub record AreCounted (b : Inside) : Type 0 where
  pub fits : b.changes + 1 < 2 ^ 64
  pub counts : (s : SideId) → IsCounted b.changes (endpoint_in (map known_of b.endpoints.entries) s)
