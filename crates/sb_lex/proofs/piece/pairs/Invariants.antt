use Rattle.std.proofs.Common.{◌≡◌, ◌+◌, ◌≤◌, length}
use Rattle.sb_lex.specs.Lex.{pairs}
use Rattle.sb_lex.proofs.piece.pairs.Given as goal

abbrev pub invariant-loop-z : goal.invariant-loop-z
invariant-loop-z l = (pairs l.at l.z ≡ pairs l.initial.at l.initial.z) × (l.at + length l.z ≡ l.initial.at + length l.initial.z) × (l.initial.at ≤ l.at)

abbrev pub decreases-loop-z : goal.decreases-loop-z
decreases-loop-z l = length l.z
