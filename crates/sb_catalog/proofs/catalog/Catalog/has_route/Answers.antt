use Rattle.std.proofs.Common.{ap, ◌∙◌}
use Rattle.std.specs.Prelude.{find, is_some}
use Rattle.sb_model.specs.Sides.{same_name}
use Rattle.sb_model.specs.Catalog.{routes}
use Rattle.sb_catalog.specs.Known.{log_of}
use Rattle.sb_catalog.proofs.Finding.{route_found}
use Rattle.sb_catalog.proofs.catalog.Catalog.has_route.Goals as goal

pub returns : goal.returns
returns c = c.has.ensures ∙ ap is_some (route_found c.self.inside c.args.name.now c.self.invariant ∙ ap (λ k. find (λ r. same_name r.name c.args.name.now) (routes (log_of k))) c.self.view_is)
