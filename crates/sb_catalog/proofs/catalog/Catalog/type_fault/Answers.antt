use Rattle.std.proofs.Common.{[], ap, map, ◌∙◌}
use Rattle.sb_model.specs.Catalog.{find_message_type}
use Rattle.sb_model.specs.Definitions.{listed}
use Rattle.sb_catalog.specs.Known.{log_of}
use Rattle.sb_catalog.proofs.Finding.{types_listed}
use Rattle.sb_catalog.proofs.catalog.Catalog.type_fault.Goals as goal

pub returns : goal.returns
returns c = λ refuse.
    c.first_fault.ensures refuse
    ∙ types_listed c.self.inside c.self.invariant refuse (map (λ sent. sent.kind) c.args.types.now)
    ∙ ap (λ k. listed (find_message_type (log_of k)) refuse [] (map (λ sent. sent.kind) c.args.types.now)) c.self.view_is
