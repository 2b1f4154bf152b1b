use Rattle.std.proofs.Common.{◌≡◌, drop}
use Rattle.std.specs.Prelude.{flat_map, filter, fold, option_map}
use Rattle.sb_model.specs.Catalog.{definitions, route_def, routes}
use Rattle.sb_model.specs.Routes.{route_fit, route_fits}
use Rattle.sb_model.specs.Matches.{best_by, better}
use Rattle.sb_scan.specs.Seen.{route_seen}
use Rattle.sb_scan.proofs.routing.best_route.Given as goal

abbrev pub invariant-loop-entry : goal.invariant-loop-entry
invariant-loop-entry l = fold (better route_fit) (option_map route_seen l.best) (filter (route_fits l.service l.instance) (flat_map route_def (definitions (drop l.entry-index l.log))))
    ≡ best_by route_fit (filter (route_fits l.service l.instance) (routes l.log))
