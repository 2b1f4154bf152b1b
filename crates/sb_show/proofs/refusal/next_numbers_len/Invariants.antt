use Rattle.std.proofs.Common.{◌≡◌, length, take}
use Rattle.std.specs.List.{flat_map}
use Rattle.sb_show.specs.Values.{capped}
use Rattle.sb_show.specs.Refusals.{next_number_text}
use Rattle.sb_show.proofs.refusal.next_numbers_len.Given as goal

abbrev pub invariant-loop-number : goal.invariant-loop-number
invariant-loop-number l = l.sum ≡ capped (length (flat_map next_number_text (take l.number-index l.numbers)))
