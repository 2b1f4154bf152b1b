use Rattle.std.proofs.Common.{◌≡◌, ◌^◌, ◌≤◌, min, take}
use Rattle.std.specs.Prelude.{fold}
use Rattle.sb_grammar.specs.Values.{with_digit}
use Rattle.sb_parse.proofs.value.capped_value.Given as goal

abbrev pub invariant-loop-digit : goal.invariant-loop-digit
invariant-loop-digit l = (l.value ≡ min (fold with_digit 0 (take l.digit-index l.digits)) (2 ^ 63)) × (l.value ≤ 2 ^ 63)
