-- How long the fields are.
use Rattle.std.proofs.Common.{◌≡◌, ℕ, Bool, true, false, List, ◌++◌, length, ◌+◌, refl, arith}
use Rattle.std.proofs.lemmas.List.{length-append}
use Rattle.sb_fields.specs.Spelling.{number, flag}
use Rattle.sb_fields.proofs.Takings.{length-number}

pub length-flag : (b : Bool) → length (flag b) ≡ 1
unfolding flag
length-flag b = length-number 1 _

-- the length of what is put together, of a number and of a flag
pub ruleset lengths = (length-append, length-number, length-flag)
