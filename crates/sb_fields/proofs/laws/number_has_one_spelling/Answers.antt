use Rattle.sb_fields.proofs.Takings.{one_from, number_exactly}
use Rattle.sb_fields.proofs.laws.number_has_one_spelling.Goals as goal

pub returns : goal.returns
returns c = λ width. one_from (number_exactly width)
