-- Which transaction holds which conversation group.
use Rattle.std.specs.Prelude.{◌≡◌, ℕ, Bool, ◌==◌, if◌then◌else◌, List, Option, None, find, map, option_map}
use Rattle.sb_log.specs.declared.identifiers.Handle.{Handle}

-- the transaction holds the group
pub record Hold : Type 0 where
  pub group : Handle
  pub tx : ℕ

-- what is held, and how many more fit without memory
pub record Held : Type 0 where
  pub holds : List Hold
  pub spare : ℕ

abbrev pub hold_of : Handle → ℕ → Hold
hold_of group tx = record { group = group; tx = tx }

-- the entries of a map from groups to transactions
abbrev pub holds_in : List (Handle × ℕ) → List Hold
holds_in entries = map (λ e. hold_of e.0 e.1) entries

abbrev pub is_of : Handle → Hold → Bool
is_of group h = group.0 == h.group.0

-- the transaction of the first hold of the group
abbrev pub holder_of : List Hold → Handle → Option ℕ
holder_of holds group = option_map (λ h. h.tx) (find (is_of group) holds)

-- nobody holds any group
abbrev pub HoldsNothing : List Hold → Type 0
HoldsNothing holds = (group : Handle) → holder_of holds group ≡ None

-- each group has the holder it had
abbrev pub KeepsHolders : List Hold → List Hold → Type 0
KeepsHolders old new = (group : Handle) → holder_of new group ≡ holder_of old group

-- the group has this holder now, and each other the holder it had
abbrev pub SetsHolder : List Hold → List Hold → Handle → Option ℕ → Type 0
SetsHolder old new group tx =
    (other : Handle) → holder_of new other ≡ (if group.0 == other.0 then tx else holder_of old other)
