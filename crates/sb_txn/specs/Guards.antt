-- The guards of a transaction, and the groups that they name.
use Rattle.std.specs.Prelude.{◌≡◌, Bool, ◌==◌, if◌then◌else◌, List, Some, None, All}
use Rattle.std.specs.List.{IsDistinct, list_any}
use Rattle.sb_log.specs.declared.identifiers.Handle.{Handle}
use Rattle.sb_groups.specs.Holds.{Hold, holder_of, is_of}

-- a guard names the group
abbrev pub names : List Hold → Handle → Bool
names guards group = list_any (is_of group) guards

-- each guard's transaction holds its group
abbrev pub AreHeld : List Hold → List Hold → Type 0
AreHeld guards holds = All (λ guard. holder_of holds guard.group ≡ Some guard.tx) guards

abbrev pub same_group : Hold → Hold → Bool
same_group a b = a.group.0 == b.group.0

-- no two guards name one group
abbrev pub NameApart : List Hold → Type 0
NameApart guards = IsDistinct same_group guards

-- nobody holds the groups that the guards name now, and each other group has the holder it had
abbrev pub FreesGroups : List Hold → List Hold → List Hold → Type 0
FreesGroups guards old new =
    (group : Handle) → holder_of new group ≡ (if names guards group then None else holder_of old group)
