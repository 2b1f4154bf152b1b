use Rattle.std.proofs.Common.{◌≡◌, ◌∷◌, drop}
use Rattle.std.specs.Prelude.{Some, filter, fold, option_copied}
use Rattle.sb_model.specs.Catalog.{auto_route}
use Rattle.sb_model.specs.Matches.{best_by, better}
use Rattle.sb_model.specs.Routes.{route_fit, route_fits}
use Rattle.sb_routes.specs.Taken.{or_auto}
use Rattle.sb_routes.proofs.routing.best_route.Given as goal

abbrev pub invariant-loop-route : goal.invariant-loop-route
invariant-loop-route l = fold (better route_fit) (Some (or_auto (option_copied l.best))) (filter (route_fits l.service l.instance) (drop l.route-index l.routes))
    ≡ best_by route_fit (filter (route_fits l.service l.instance) (auto_route ∷ l.routes))
