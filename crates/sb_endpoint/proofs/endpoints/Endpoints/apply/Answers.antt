use Rattle.std.proofs.Common.{ap, sym, ◌∙◌}
use Rattle.std.specs.Prelude.{flat_map, fold}
use Rattle.sb_endpoint.specs.Changes.{changes_of_op, endpoint_after, endpoint_told}
use Rattle.sb_endpoint.specs.Seen.{endpoint_in}
use Rattle.sb_endpoint.proofs.Applied.{header_applied}
use Rattle.sb_endpoint.proofs.endpoints.Endpoints.apply.Goals as goal

pub returns-in-Txn-clause-headers : goal.returns-in-Txn-clause-headers
returns-in-Txn-clause-headers c =
    let old = c.args.self.now in
    header_applied old c.apply_ops.new.self c.args.entry.now c.requires c.apply_ops.ensures.headers (λ s.
    c.apply_ops.ensures.endpoints s
    ∙ ap (λ ops. fold (endpoint_told s) (endpoint_in old.endpoints s) (flat_map changes_of_op ops)) c.as_slice.ensures
    ∙ ap (λ e. endpoint_after s e (endpoint_in old.endpoints s)) (sym c.in-Txn.is))
