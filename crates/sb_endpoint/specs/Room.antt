-- What the endpoints hold, and how it stands to what contracts see.
use Rattle.std.specs.Prelude.{◌≤◌}
use Rattle.sb_endpoint.specs.declared.endpoints.Endpoints.TheInside.{Inside}
use Rattle.sb_endpoint.specs.Seen.{SidesAndHandles}

abbrev pub sides_and_handles : Inside → SidesAndHandles
sides_and_handles t = record { endpoints = t.sides.endpoints; handles = t.handles.handles; headers = t.headers; spare = t.spare }

-- there is room for what is spare, among the sides and among the handles
pub record HasRoom (t : Inside) : Type 0 where
  pub sides : t.spare ≤ t.sides.room
  pub handles : t.spare ≤ t.handles.room
