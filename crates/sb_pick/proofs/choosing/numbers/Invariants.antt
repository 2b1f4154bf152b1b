use Rattle.std.proofs.Common.{◌≡◌, ◌++◌, drop, map}
use Rattle.std.specs.Prelude.{filter}
use Rattle.sb_pick.specs.Offered.{is_of_group}
use Rattle.sb_pick.specs.Picked.{up_to}
use Rattle.sb_pick.proofs.choosing.numbers.Given as goal

abbrev pub invariant-loop-candidate : goal.invariant-loop-candidate
invariant-loop-candidate l =
    l.numbers.items ++ map (λ c. c.number) (up_to l.left (filter (is_of_group l.group) (drop l.candidate-index l.sorted)))
    ≡ map (λ c. c.number) (up_to l.initial.left (filter (is_of_group l.group) l.sorted))
