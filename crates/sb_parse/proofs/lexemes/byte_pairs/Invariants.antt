use Rattle.std.proofs.Common.{◌≡◌, ◌++◌, length}
use Rattle.sb_parse.specs.Lexemes.{byte_pairs}
use Rattle.sb_parse.proofs.lexemes.byte_pairs.Given as goal

abbrev pub invariant-pairs : goal.invariant-pairs
invariant-pairs l = byte_pairs l.digits ≡ l.value ++ byte_pairs l.rest

abbrev pub decreases-pairs : goal.decreases-pairs
decreases-pairs l = length l.rest
