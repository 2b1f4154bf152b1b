use Rattle.std.proofs.Common.{◌≡◌, true, false, Some, refl, ap, sym, subst, ◌∙◌, arith}
use Rattle.sb_endpoint.specs.Headers.{header_at}
use Rattle.sb_endpoint.specs.Seen.{Keeps, SidesAndHandles, is_made_in}
use Rattle.sb_endpoint.specs.States.{is_made}
use Rattle.sb_endpoint.proofs.Headed.{put_keeps, put_nothing}
use Rattle.sb_endpoint.proofs.endpoints.Endpoints.prepare.Goals as goal

pub returns-then-is_made-clause-ready : goal.returns-then-is_made-clause-ready
returns-then-is_made-clause-ready c =
    let old = c.args.self.now in
    let made : is_made_in old.endpoints c.args.side ≡ true =
    ap (λ t. is_made_in t.endpoints c.args.side) (sym c.self.view_is) ∙ ap is_made (sym c.get.ensures.facts) ∙ sym c.is_made.ensures ∙ c.if-is_made.true in
    put_nothing (is_made_in old.endpoints) c.args.side (Some c.args.header.now) (header_at old.headers) made

pub returns-clause-kept : goal.returns-clause-kept
returns-clause-kept c =
    let sides = c.self.inside.sides.endpoints in
    let headers = c.self.inside.headers in
    let unmade : is_made_in sides c.args.side ≡ false = ap is_made (sym c.get.ensures.facts) ∙ sym c.is_made.ensures ∙ c.if-is_made.false in
    let new : SidesAndHandles = record { endpoints = sides; handles = c.self.inside.handles.handles; headers = c.put.new.self; spare = c.self.inside.spare } in
    subst (λ old. Keeps old new) c.self.view_is (record {
      endpoints = refl;
      handles = refl;
      spare = omega arith;
      headers = λ s made. c.in_ok-put.ensures.headers s ∙ put_keeps (is_made_in sides) c.args.side (Some c.args.header.now) (header_at headers) unmade s made;
    })
