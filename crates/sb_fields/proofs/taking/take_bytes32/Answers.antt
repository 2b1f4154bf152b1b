use Rattle.std.proofs.Common.{arith}
use Rattle.sb_fields.proofs.Takings.{put_from, none_from, bytes32_exactly}
use Rattle.sb_fields.proofs.taking.take_bytes32.Goals as goal

pub returns-clause-put : goal.returns-clause-put
returns-clause-put c = put_from bytes32_exactly _ c.args.bytes.now c.bytes32_front.result (λ i. omega (arith, c.type_inv.bytes i)) c.bytes32_front.ensures

pub returns-clause-none : goal.returns-clause-none
returns-clause-none c = none_from bytes32_exactly _ c.args.bytes.now c.bytes32_front.result c.bytes32_front.ensures
