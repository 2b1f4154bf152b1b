use Rattle.sb_fields.proofs.Takings.{one_from, text16_exactly}
use Rattle.sb_fields.proofs.laws.text16_has_one_spelling.Goals as goal

pub returns : goal.returns
returns c = one_from text16_exactly
