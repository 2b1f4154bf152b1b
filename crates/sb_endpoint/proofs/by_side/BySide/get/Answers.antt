use Rattle.std.proofs.Common.{◌≡◌, ap, sym, ◌∙◌, map, arith}
use Rattle.std.specs.Prelude.{unwrap_or}
use Rattle.sb_endpoint.specs.Endpoints.{unknown}
use Rattle.sb_endpoint.specs.Seen.{endpoint_in, known_of}
use Rattle.sb_endpoint.proofs.Found.{endpoint_in-map}
use Rattle.sb_endpoint.proofs.by_side.BySide.get.Goals as goal

pub returns-in-Some-clause-facts : goal.returns-in-Some-clause-facts
returns-in-Some-clause-facts c =
    ap (λ o. unwrap_or o unknown) c.in-Some.ensures.value
    ∙ sym (endpoint_in-map c.self.inside.endpoints.entries c.args.side)
    ∙ ap (λ t. endpoint_in t.endpoints c.args.side) c.self.view_is

pub returns-in-Some-clause-sends : goal.returns-in-Some-clause-sends
returns-in-Some-clause-sends c =
    let same : c.in-Some.endpoint.now ≡ endpoint_in (map known_of c.self.inside.endpoints.entries) c.args.side
    = ap (λ o. unwrap_or o unknown) c.in-Some.ensures.value ∙ sym (endpoint_in-map c.self.inside.endpoints.entries c.args.side) in
    omega (arith, c.self.invariant.fits, (c.self.invariant.counts c.args.side).sends, ap (λ e. e.sends) same)

pub returns-in-Some-clause-accepted : goal.returns-in-Some-clause-accepted
returns-in-Some-clause-accepted c =
    let same : c.in-Some.endpoint.now ≡ endpoint_in (map known_of c.self.inside.endpoints.entries) c.args.side
    = ap (λ o. unwrap_or o unknown) c.in-Some.ensures.value ∙ sym (endpoint_in-map c.self.inside.endpoints.entries c.args.side) in
    omega (arith, c.self.invariant.fits, (c.self.invariant.counts c.args.side).accepted, ap (λ e. e.accepted) same)

pub returns-in-None-clause-facts : goal.returns-in-None-clause-facts
returns-in-None-clause-facts c =
    c.unknown.ensures
    ∙ ap (λ o. unwrap_or o unknown) c.in-None.ensures.value
    ∙ sym (endpoint_in-map c.self.inside.endpoints.entries c.args.side)
    ∙ ap (λ t. endpoint_in t.endpoints c.args.side) c.self.view_is
