use Rattle.std.proofs.Common.{◌≡◌, ℕ, drop, ◌<◌, ◌==◌, ◌||◌, false, length, get_or}
use Rattle.std.specs.List.{list_any}
use Rattle.sb_model.specs.Items.{taken}
use Rattle.sb_instance.proofs.marks.marks.Given as goal

abbrev pub invariant-loop-entry : goal.invariant-loop-entry
invariant-loop-entry l = (n : ℕ) → n < length l.slice → (get_or l.slice n false || list_any (λ m. m == n) (taken (drop l.entry-index l.log))) ≡ list_any (λ m. m == n) (taken l.log)
