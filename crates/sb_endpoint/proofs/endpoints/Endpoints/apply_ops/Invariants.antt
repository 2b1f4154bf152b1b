use Rattle.std.proofs.Common.{drop}
use Rattle.sb_endpoint.proofs.Applied.{Rest}
use Rattle.sb_endpoint.proofs.endpoints.Endpoints.apply_ops.Given as goal

abbrev pub invariant-loop-op : goal.invariant-loop-op
invariant-loop-op l = Rest l.initial.self l.self l.ops (drop l.op-index l.ops)
