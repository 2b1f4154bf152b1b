-- Routes and levels over a log's definitions are the log's.
use Rattle.std.proofs.Common.{◌≡◌, List, ap, sym}
use Rattle.std.specs.Prelude.{Option, filter, flat_map, option_and_then, option_map, unwrap_or}
use Rattle.sb_log.specs.declared.entries.Entry.{Entry}
use Rattle.sb_log.specs.declared.identifiers.Handle.{Handle}
use Rattle.sb_log.specs.declared.identifiers.Who.{Who}
use Rattle.sb_model.specs.Sides.{Bytes}
use Rattle.sb_model.specs.Catalog.{definitions, priorities, route_def, routes}
use Rattle.sb_model.specs.Groups.{fit, level_among, matches, priority_level}
use Rattle.sb_model.specs.Routes.{route, route_fit, route_fits}
use Rattle.sb_routes.specs.Ways.{best_level, destination}
use Rattle.sb_routes.proofs.Ranking.{best_is_first}

pub route_of_log : (log : List Entry) (who : Who) (service : Bytes) (instance : Option Handle)
    → destination who (flat_map route_def (definitions log)) service instance ≡ route log who service instance
route_of_log log who service instance =
    ap (λ o. unwrap_or (option_and_then (λ r. r.to) o) who) (sym (best_is_first route_fit (filter (route_fits service instance) (routes log))))

pub level_of_log : (log : List Entry) (contract local remote : Bytes)
    → best_level (priorities log) contract local remote ≡ level_among (priorities log) contract local remote
level_of_log log contract local remote =
    ap (λ o. unwrap_or (option_map priority_level o) 5) (sym (best_is_first fit (filter (matches contract local remote) (priorities log))))
