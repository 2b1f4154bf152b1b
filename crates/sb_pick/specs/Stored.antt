-- Stored messages whose side is moved.
use Rattle.std.specs.Prelude.{if◌then◌else◌}
use Rattle.sb_log.specs.declared.identifiers.Handle.{Handle}
use Rattle.sb_log.specs.declared.identifiers.SideId.{SideId}
use Rattle.sb_model.specs.Sides.{same_side}
use Rattle.sb_pick.specs.declared.stored.Stored.{Stored}

abbrev pub with_group : Handle → Stored → Stored
with_group g stored = record { item = stored.item; handle = stored.handle; place = stored.place; group = g; level = stored.level }

-- a message of the side is in the group
abbrev pub with_group_of : SideId → Handle → Stored → Stored
with_group_of side g stored = if same_side stored.item.side side then with_group g stored else stored
