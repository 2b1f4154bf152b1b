-- Which route a message takes, and which level a dialog has, among definitions in order.
use Rattle.std.specs.Prelude.{◌≡◌, ℕ, Bool, true, nat_lt, List, ◌∷◌, Option, filter, option_and_then, option_map, unwrap_or}
use Rattle.std.specs.List.{list_all}
use Rattle.sb_log.specs.declared.identifiers.Handle.{Handle}
use Rattle.sb_log.specs.declared.identifiers.Who.{Who}
use Rattle.sb_log.specs.declared.definitions.Ddl.{Ddl}
use Rattle.sb_log.specs.declared.definitions.Ddl.TheVariants.{Route, Priority}
use Rattle.sb_log.specs.declared.definitions.RouteDef.{RouteDef}
use Rattle.sb_log.specs.declared.definitions.PriorityDef.{PriorityDef}
use Rattle.sb_model.specs.Sides.{Bytes}
use Rattle.sb_model.specs.Catalog.{auto_route, priority_def}
use Rattle.sb_model.specs.Groups.{fit, matches, priority_level}
use Rattle.sb_model.specs.Routes.{route_fit, route_fits}
use Rattle.sb_model.specs.Replies.{in_range}
use Rattle.sb_routes.specs.Best.{first_best}

-- an instance, its routes and priorities in the order in which they were defined, and how many more of each fit without memory
pub record Ways : Type 0 where
  pub who : Who
  pub routes : List RouteDef
  pub priorities : List PriorityDef
  pub route_room : ℕ
  pub priority_room : ℕ

-- the first of the best of these routes and AutoCreatedLocal, which stands before them
abbrev pub best_route : List RouteDef → Bytes → Option Handle → Option RouteDef
best_route defs service instance = first_best route_fit (filter (route_fits service instance) (auto_route ∷ defs))

-- where that route leads; one without an instance of its own leads to this one
abbrev pub destination : Who → List RouteDef → Bytes → Option Handle → Who
destination who defs service instance = unwrap_or (option_and_then (λ r. r.to) (best_route defs service instance)) who

-- the first of the best of these priorities
abbrev pub best_priority : List PriorityDef → Bytes → Bytes → Bytes → Option PriorityDef
best_priority defs contract local remote = first_best fit (filter (matches contract local remote) defs)

-- its level, and 5 where none matches
abbrev pub best_level : List PriorityDef → Bytes → Bytes → Bytes → ℕ
best_level defs contract local remote = unwrap_or (option_map priority_level (best_priority defs contract local remote)) 5

-- a level is one of 1 to 10
abbrev pub has_level : PriorityDef → Bool
has_level p = in_range p.level 1 10

-- so has each priority that is defined
abbrev pub levels_fit : Ddl → Bool
levels_fit ddl = list_all has_level (priority_def ddl)

-- the definition fits without memory
abbrev pub has_room : Ways → Ddl → Bool
has_room w (Route d) = nat_lt 0 w.route_room
has_room w (Priority d) = nat_lt 0 w.priority_room
has_room w _ = true

-- the same instance and definitions
abbrev pub KeepsDefinitions : Ways → Ways → Type 0
KeepsDefinitions old new = (new.who ≡ old.who) × (new.routes ≡ old.routes) × (new.priorities ≡ old.priorities)
