use Rattle.std.proofs.Common.{ℕ, List, ◌≡◌, ◌++◌, get_or, arith, rules}
use Rattle.sb_fields.specs.Spelling.{number}
use Rattle.sb_fields.proofs.Takings.{none_is, too_short, number_front}
use Rattle.sb_fields.proofs.taking.take_u16.Goals as goal

pub returns-in_err-front-clause-none : goal.returns-in_err-front-clause-none
returns-in_err-front-clause-none c = none_is c.from_residual.result _ (too_short 2 c.args.bytes.now c.in_err-front.ensures.cases)

pub returns-clause-put : goal.returns-clause-put
returns-clause-put c = number_front 2 c.args.bytes.now c.in_ok-front.front.now c.in_ok-front.rest.now c.read_u16.result (λ i. omega (arith, c.type_inv.bytes i)) (search rules) (search rules) (search rules) c.read_u16.ensures
