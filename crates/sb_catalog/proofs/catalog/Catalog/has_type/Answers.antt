use Rattle.std.proofs.Common.{ap, ◌∙◌}
use Rattle.std.specs.Prelude.{is_some}
use Rattle.sb_model.specs.Catalog.{find_message_type}
use Rattle.sb_catalog.specs.Known.{log_of}
use Rattle.sb_catalog.proofs.Finding.{type_found}
use Rattle.sb_catalog.proofs.catalog.Catalog.has_type.Goals as goal

pub returns : goal.returns
returns c = c.has.ensures ∙ ap is_some (type_found c.self.inside c.args.name.now c.self.invariant ∙ ap (λ k. find_message_type (log_of k) c.args.name.now) c.self.view_is)
