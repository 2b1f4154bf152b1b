use Rattle.std.proofs.Common.{ap, sym, ◌∙◌, if◌then◌else◌, Some}
use Rattle.sb_model.specs.Sides.{same_id}
use Rattle.sb_endpoint.specs.Seen.{side_in}
use Rattle.sb_endpoint.proofs.Found.{side_in-map}
use Rattle.sb_endpoint.proofs.by_handle.ByHandle.put.Goals as goal

pub returns-clause-handles : goal.returns-clause-handles
returns-clause-handles c = λ h.
    side_in-map c.insert.new.self.entries h
    ∙ c.in-Ok.ensures.updates.0 h
    ∙ ap (λ o. if same_id c.args.handle h then Some c.args.side else o)
    (sym (side_in-map c.self.inside.sides.entries h) ∙ ap (λ t. side_in t.handles h) c.self.view_is)
