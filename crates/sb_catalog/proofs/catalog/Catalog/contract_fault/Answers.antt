use Rattle.std.proofs.Common.{[], ap, map, ◌∙◌}
use Rattle.sb_model.specs.Catalog.{find_contract}
use Rattle.sb_model.specs.Definitions.{listed}
use Rattle.sb_catalog.specs.Known.{log_of}
use Rattle.sb_catalog.proofs.Finding.{contracts_listed, themselves}
use Rattle.sb_catalog.proofs.catalog.Catalog.contract_fault.Goals as goal

pub returns : goal.returns
returns c = λ refuse.
    c.first_fault.ensures refuse
    ∙ contracts_listed c.self.inside c.self.invariant refuse (map (λ d. d) c.args.names.now)
    ∙ ap (λ k. listed (find_contract (log_of k)) refuse [] (map (λ d. d) c.args.names.now)) c.self.view_is
    ∙ ap (listed (find_contract (log_of c.args.self.now)) refuse []) (themselves c.args.names.now)
