use Rattle.std.proofs.Common.{ap, ◌∙◌}
use Rattle.std.specs.Prelude.{is_some}
use Rattle.sb_model.specs.Catalog.{find_procedure}
use Rattle.sb_catalog.specs.Known.{log_of}
use Rattle.sb_catalog.proofs.Finding.{procedure_found}
use Rattle.sb_catalog.proofs.catalog.Catalog.has_procedure.Goals as goal

pub returns : goal.returns
returns c = c.has.ensures ∙ ap is_some (procedure_found c.self.inside c.args.name.now ∙ ap (λ k. find_procedure (log_of k) c.args.name.now) c.self.view_is)
