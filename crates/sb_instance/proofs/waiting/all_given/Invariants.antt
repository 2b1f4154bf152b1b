use Rattle.std.proofs.Common.{◌≡◌, ◌++◌, drop, map}
use Rattle.sb_instance.specs.Candidates.{given, placed_seen}
use Rattle.sb_instance.proofs.waiting.all_given.Given as goal

abbrev pub invariant-loop-candidate : goal.invariant-loop-candidate
invariant-loop-candidate l =
    l.rest.items ++ map given (map placed_seen (drop l.candidate-index l.sorted)) ≡ map given (map placed_seen l.sorted)
