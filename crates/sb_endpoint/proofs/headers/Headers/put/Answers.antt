use Rattle.std.proofs.Common.{ap, sym, ◌∙◌, Some, if◌then◌else◌}
use Rattle.std.specs.Map.{lookup}
use Rattle.sb_model.specs.Sides.{same_side}
use Rattle.sb_endpoint.specs.Headers.{header_at}
use Rattle.sb_endpoint.proofs.Headed.{header_at-map}
use Rattle.sb_endpoint.proofs.headers.Headers.put.Goals as goal

pub returns-in-Ok-clause-headers : goal.returns-in-Ok-clause-headers
returns-in-Ok-clause-headers c = λ s.
    let old = c.self.inside.headers.entries in
    header_at-map c.insert.new.self.entries s
    ∙ c.in-Ok.ensures.updates.0 s
    ∙ ap (λ header. if same_side c.args.side s then Some header else lookup (same_side s) old) c.in_ok-header.ensures
    ∙ ap (λ o. if same_side c.args.side s then Some c.args.header.now else o) (sym (header_at-map old s) ∙ ap (λ headed. header_at headed s) c.self.view_is)
