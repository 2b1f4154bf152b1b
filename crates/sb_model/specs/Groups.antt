-- Conversation groups and priority levels.
use Rattle.std.specs.Prelude.{ℕ, Bool, not, nat_abs, ◌&&◌, ◌+◌, if◌then◌else◌, List, [], ◌∷◌, Option, Some, None, flat_map, filter, option_map, unwrap_or}
use Rattle.std.specs.Option.{option_eq}
use Rattle.std.specs.List.{list_any, last_or}
use Rattle.sb_log.specs.declared.identifiers.Handle.{Handle}
use Rattle.sb_log.specs.declared.identifiers.SideId.{SideId}
use Rattle.sb_log.specs.declared.identifiers.State.TheVariants.{CD}
use Rattle.sb_log.specs.declared.definitions.PriorityDef.{PriorityDef}
use Rattle.sb_log.specs.declared.entries.Entry.{Entry}
use Rattle.sb_log.specs.declared.entries.Op.{Op}
use Rattle.sb_log.specs.declared.entries.Op.TheVariants.{Move}
use Rattle.sb_log.specs.declared.messages.Header.{Header}
use Rattle.sb_model.specs.Sides.{Bytes, same_side, same_id, Making, ops_of, made, sides, before_made}
use Rattle.sb_model.specs.Catalog.{priorities}
use Rattle.sb_model.specs.Matches.{points, best_by, admits}
use Rattle.sb_model.specs.States.{state_of, same_state}

abbrev pub group_moved : SideId → Op → List Handle
group_moved s (Move side group) = if same_side side s then group ∷ [] else []
group_moved s _ = []

-- the group of the last move, else the one that the side was made with
abbrev pub group_of : List Entry → SideId → Option Handle
group_of log s = option_map (λ m. unwrap_or (last_or None (flat_map (group_moved s) (ops_of log))) m.group) (made log s)

-- a side that isn't CD has the group
abbrev pub keeps_group : List Entry → Handle → Making → Bool
keeps_group log g m = option_eq same_id (group_of log m.side) (Some g) && not (same_state (state_of log m.side) CD)

abbrev pub group_exists : List Entry → Handle → Bool
group_exists log g = list_any (keeps_group log g) (sides log)

-- CLR, CL, CR, C, LR, L, R, none: the more, the better
abbrev pub fit : PriorityDef → ℕ
fit p = points p.contract 4 + points p.local 2 + points p.remote 1

abbrev pub matches : Bytes → Bytes → Bytes → PriorityDef → Bool
matches contract local remote p = admits p.contract contract && admits p.local local && admits p.remote remote

abbrev pub priority_level : PriorityDef → ℕ
priority_level p = nat_abs p.level

-- the level among these priorities
abbrev pub level_among : List PriorityDef → Bytes → Bytes → Bytes → ℕ
level_among defs contract local remote = unwrap_or (option_map priority_level (best_by fit (filter (matches contract local remote) defs))) 5

abbrev pub own_service : SideId → Header → Bytes
own_service s header = if s.initiator then header.from_service else header.to_service

abbrev pub far_service : SideId → Header → Bytes
far_service s header = if s.initiator then header.to_service else header.from_service

abbrev pub level_made : List Entry → Making → ℕ
level_made log m =
    level_among (priorities (before_made log m.side)) m.header.contract (own_service m.side m.header) (far_service m.side m.header)

-- the level of a side, fixed when it was made
abbrev pub level_of : List Entry → SideId → ℕ
level_of log s = unwrap_or (option_map (level_made log) (made log s)) 5
