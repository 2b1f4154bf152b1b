-- Where messages for a service of an instance go.
use Rattle.std.specs.Prelude.{ℕ, Bool, ◌&&◌, ◌||◌, ◌+◌, List, Option, filter, option_and_then, is_none, unwrap_or}
use Rattle.std.specs.Option.{option_eq}
use Rattle.sb_log.specs.declared.identifiers.Handle.{Handle}
use Rattle.sb_log.specs.declared.identifiers.Who.{Who}
use Rattle.sb_log.specs.declared.definitions.RouteDef.{RouteDef}
use Rattle.sb_log.specs.declared.entries.Entry.{Entry}
use Rattle.sb_model.specs.Sides.{Bytes, same_id}
use Rattle.sb_model.specs.Catalog.{routes}
use Rattle.sb_model.specs.Matches.{points, best_by, admits}

abbrev pub route_fits : Bytes → Option Handle → RouteDef → Bool
route_fits service instance r = admits r.service service && (is_none r.instance || option_eq same_id r.instance instance)

abbrev pub route_fit : RouteDef → ℕ
route_fit r = points r.service 2 + points r.instance 1

-- where a message for this service of this instance goes, by the first of the best routes
abbrev pub route : List Entry → Who → Bytes → Option Handle → Who
route log who service instance =
    unwrap_or (option_and_then (λ r. r.to) (best_by route_fit (filter (route_fits service instance) (routes log)))) who
