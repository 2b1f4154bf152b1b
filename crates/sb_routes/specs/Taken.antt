-- The best route so far: none that was defined stands for AutoCreatedLocal.
use Rattle.std.specs.Prelude.{Option, unwrap_or}
use Rattle.sb_log.specs.declared.definitions.RouteDef.{RouteDef}
use Rattle.sb_model.specs.Catalog.{auto_route}

abbrev pub or_auto : Option RouteDef → RouteDef
or_auto best = unwrap_or best auto_route
