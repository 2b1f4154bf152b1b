use Rattle.std.proofs.Common.{◌≡◌, ◌++◌, length, option_map}
use Rattle.sb_value.specs.Values as says
use Rattle.sb_value.proofs.convert.units.Given as goal

abbrev pub invariant-pairs : goal.invariant-pairs
invariant-pairs l = says.units l.bytes ≡ option_map (λ more. l.units.items ++ more) (says.units l.rest)

abbrev pub decreases-pairs : goal.decreases-pairs
decreases-pairs l = length l.rest
