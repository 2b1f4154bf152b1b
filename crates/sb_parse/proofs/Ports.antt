-- A port that has a digit.
use Rattle.std.proofs.Common.{◌≡◌, ℕ, ◌≤◌, List, length, true, arith}
use Rattle.std.specs.Prelude.{nat_lt}
use Rattle.std.proofs.lemmas.Bool.Decides.{Decides-ltb}

pub some_port : (z : List ℕ) → 1 ≤ length z → nat_lt 0 (length z) ≡ true
some_port z h = (Decides-ltb 0 (length z)).1 (omega arith)
