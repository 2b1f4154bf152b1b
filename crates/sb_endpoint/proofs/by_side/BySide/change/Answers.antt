use Rattle.std.proofs.Common.{ap, sym, ◌∙◌, cond, Some, arith}
use Rattle.std.specs.Map.{lookup}
use Rattle.sb_model.specs.Sides.{same_side}
use Rattle.sb_endpoint.specs.Changes.{changed, endpoint_told, told}
use Rattle.sb_endpoint.specs.Seen.{endpoint_in}
use Rattle.sb_endpoint.proofs.Found.{PutsChanged, counts_changed, endpoint_changed}
use Rattle.sb_endpoint.proofs.by_side.BySide.change.Goals as goal

pub invariant_of-self : goal.invariant_of-self
invariant_of-self c =
    let old = c.self.inside.endpoints.entries in
    let new = c.insert.new.self.entries in
    let puts : PutsChanged old new c.args.side c.args.change = λ s. c.in-Ok.ensures.updates.0 s
    ∙ ap (λ e. cond (same_side c.args.side s) (Some e) (lookup (same_side s) old)) (c.changed-endpoint.ensures ∙ ap (changed c.args.change) (c.get.ensures.facts ∙ ap (λ t. endpoint_in t.endpoints c.args.side) (sym c.self.view_is))) in
    record {
      fits = omega (arith, c.requires, ap (λ t. t.room) c.self.view_is, c.self.invariant.fits);
      counts = counts_changed old new c.args.side c.args.change c.self.inside.changes puts c.self.invariant.counts;
    }

pub returns-clause-endpoints : goal.returns-clause-endpoints
returns-clause-endpoints c = λ s.
    let old = c.self.inside.endpoints.entries in
    let new = c.insert.new.self.entries in
    let puts : PutsChanged old new c.args.side c.args.change = λ s. c.in-Ok.ensures.updates.0 s
    ∙ ap (λ e. cond (same_side c.args.side s) (Some e) (lookup (same_side s) old)) (c.changed-endpoint.ensures ∙ ap (changed c.args.change) (c.get.ensures.facts ∙ ap (λ t. endpoint_in t.endpoints c.args.side) (sym c.self.view_is))) in
    endpoint_changed old new c.args.side c.args.change puts s
    ∙ ap (λ t. endpoint_told s (endpoint_in t.endpoints s) (told c.args.side c.args.change)) c.self.view_is
