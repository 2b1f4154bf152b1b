use Rattle.std.proofs.Common.{ap, sym, ◌∙◌}
use Rattle.sb_endpoint.specs.Seen.{side_in}
use Rattle.sb_endpoint.proofs.Found.{side_in-map}
use Rattle.sb_endpoint.proofs.by_handle.ByHandle.get.Goals as goal

pub returns : goal.returns
returns c =
    c.copied.ensures
    ∙ c.get.ensures.value
    ∙ sym (side_in-map c.self.inside.sides.entries c.args.handle)
    ∙ ap (λ t. side_in t.handles c.args.handle) c.self.view_is
