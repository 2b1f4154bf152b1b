use Rattle.std.proofs.Common.{◌≡◌, ◌++◌, drop, map}
use Rattle.std.specs.Prelude.{filter}
use Rattle.sb_instance.specs.Candidates.{given, placed_seen}
use Rattle.sb_instance.specs.Giving.{is_of_group, up_to}
use Rattle.sb_instance.proofs.receiving.of_group.Given as goal

abbrev pub invariant-loop-candidate : goal.invariant-loop-candidate
invariant-loop-candidate l =
    l.items.items ++ map given (up_to l.left (filter (is_of_group l.group) (map placed_seen (drop l.candidate-index l.sorted))))
    ≡ map given (up_to l.initial.left (filter (is_of_group l.group) (map placed_seen l.sorted)))
