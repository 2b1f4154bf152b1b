use Rattle.sb_fields.proofs.Takings.{one_from, bytes32_exactly}
use Rattle.sb_fields.proofs.laws.bytes32_has_one_spelling.Goals as goal

pub returns : goal.returns
returns c = one_from bytes32_exactly
