use Rattle.std.proofs.Common.{◌≡◌, ◌++◌, drop}
use Rattle.std.specs.List.{flat_map}
use Rattle.sb_show.specs.Refusals as says
use Rattle.sb_show.proofs.refusal.push_next_numbers.Given as goal

abbrev pub invariant-loop-number : goal.invariant-loop-number
invariant-loop-number l = l.out.items ++ flat_map says.next_number_text (drop l.number-index l.numbers) ≡ l.fn.out.items ++ flat_map says.next_number_text l.numbers
