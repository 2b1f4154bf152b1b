use Rattle.std.proofs.Common.{arith}
use Rattle.sb_fields.proofs.Takings.{put_from, none_from, text16_exactly}
use Rattle.sb_fields.proofs.taking.take_text16.Goals as goal

pub returns-clause-put : goal.returns-clause-put
returns-clause-put c = put_from text16_exactly _ c.args.bytes.now c.text16_front.result (λ i. omega (arith, c.type_inv.bytes i)) c.text16_front.ensures

pub returns-clause-none : goal.returns-clause-none
returns-clause-none c = none_from text16_exactly _ c.args.bytes.now c.text16_front.result c.text16_front.ensures
