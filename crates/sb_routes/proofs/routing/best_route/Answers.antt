use Rattle.std.proofs.Common.{option_copied, filter, arith, ◌∙◌, ◌∷◌}
use Rattle.std.specs.Prelude.{Some}
use Rattle.sb_model.specs.Catalog.{auto_route}
use Rattle.sb_model.specs.Matches.{better}
use Rattle.sb_model.specs.Routes.{route_fit, route_fits}
use Rattle.sb_routes.specs.Taken.{or_auto}
use Rattle.sb_routes.proofs.Ranking.{best_is_first}
use Rattle.sb_routes.proofs.Lists.{pass_ends}
use Rattle.sb_routes.proofs.routing.best_route.Goals as goal

pub returns : goal.returns
returns c =
    let fits = route_fits c.args.service.now c.args.instance in
    pass_ends (better route_fit) (Some (or_auto (option_copied c.loop-route.best))) fits c.args.routes.now c.loop-route.route-index (omega arith)
    ∙ c.loop-route.invariant
    ∙ best_is_first route_fit (filter fits (auto_route ∷ c.args.routes.now))
