use Rattle.sb_endpoint.proofs.Headed.{Prepared}
use Rattle.sb_endpoint.proofs.endpoints.Endpoints.prepare_ops.Given as goal

abbrev pub invariant-loop-place : goal.invariant-loop-place
invariant-loop-place l = Prepared l.initial.self l.self l.ops l.place
