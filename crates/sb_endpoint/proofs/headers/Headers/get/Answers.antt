use Rattle.std.proofs.Common.{ap, sym, ◌∙◌}
use Rattle.sb_endpoint.specs.Headers.{header_at}
use Rattle.sb_endpoint.proofs.Headed.{header_at-map}
use Rattle.sb_endpoint.proofs.headers.Headers.get.Goals as goal

pub returns : goal.returns
returns c =
    c.get.ensures.value
    ∙ sym (header_at-map c.self.inside.headers.entries c.args.side)
    ∙ ap (λ headed. header_at headed c.args.side) c.self.view_is
