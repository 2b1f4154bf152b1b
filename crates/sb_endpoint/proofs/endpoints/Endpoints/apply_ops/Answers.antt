use Rattle.std.proofs.Common.{◌+◌, ◌∷◌, drop, ap, sym, subst, ◌∙◌}
use Rattle.std.proofs.Math.ListN.{drop_of_length-le}
use Rattle.std.proofs.lemmas.List.{at_drop_more}
use Rattle.sb_endpoint.proofs.Applied.{Rest, rest_ends, rest_goes}
use Rattle.sb_endpoint.proofs.endpoints.Endpoints.apply_ops.Goals as goal

pub loop-op-preserved : goal.loop-op-preserved
loop-op-preserved c =
    let ops = c.args.ops.now in
    let i = c.loop-op.op-index in
    let op = c.op-item.result in
    let left = at_drop_more (λ xs. xs) ops i op c.loop-op-test.true ∙ ap (λ x. x ∷ drop (i + 1) ops) (sym c.op-item.is) in
    rest_goes c.args.self.now c.loop-op.self c.apply_op.new.self ops (drop (i + 1) ops) op
    (subst (Rest c.args.self.now c.loop-op.self ops) left c.loop-op.invariant)
    c.apply_op.ensures

pub returns : goal.returns
returns c =
    let ops = c.args.ops.now in
    rest_ends c.args.self.now c.loop-op.self ops
    (subst (Rest c.args.self.now c.loop-op.self ops) (drop_of_length-le ops c.loop-op-test.false) c.loop-op.invariant)
