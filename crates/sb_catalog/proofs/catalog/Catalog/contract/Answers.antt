use Rattle.std.proofs.Common.{ap, ◌∙◌}
use Rattle.sb_model.specs.Catalog.{find_contract}
use Rattle.sb_catalog.specs.Known.{log_of}
use Rattle.sb_catalog.proofs.Finding.{contract_found}
use Rattle.sb_catalog.proofs.catalog.Catalog.contract.Goals as goal

pub returns : goal.returns
returns c = c.get.ensures ∙ contract_found c.self.inside c.args.name.now c.self.invariant ∙ ap (λ k. find_contract (log_of k) c.args.name.now) c.self.view_is
