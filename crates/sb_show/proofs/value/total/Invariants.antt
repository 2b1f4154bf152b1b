use Rattle.std.proofs.Common.{◌≡◌, sum, take}
use Rattle.sb_show.specs.Values.{capped}
use Rattle.sb_show.proofs.value.total.Given as goal

abbrev pub invariant-loop-part : goal.invariant-loop-part
invariant-loop-part l = l.total ≡ capped (sum (take l.part-index l.parts))
