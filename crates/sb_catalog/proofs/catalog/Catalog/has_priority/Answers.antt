use Rattle.std.proofs.Common.{ap, ◌∙◌}
use Rattle.std.specs.Prelude.{find, is_some}
use Rattle.sb_model.specs.Sides.{same_name}
use Rattle.sb_model.specs.Catalog.{priorities}
use Rattle.sb_catalog.specs.Known.{log_of}
use Rattle.sb_catalog.proofs.Finding.{priority_found}
use Rattle.sb_catalog.proofs.catalog.Catalog.has_priority.Goals as goal

pub returns : goal.returns
returns c = c.has.ensures ∙ ap is_some (priority_found c.self.inside c.args.name.now ∙ ap (λ k. find (λ r. same_name r.name c.args.name.now) (priorities (log_of k))) c.self.view_is)
