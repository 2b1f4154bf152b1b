use Rattle.std.proofs.Common.{◌≡◌, ◌+◌, length, drop}
use Rattle.std.specs.Str.{chars}
use Rattle.sb_show.specs.Values.{capped}
use Rattle.sb_show.proofs.Units.{shown_units}
use Rattle.sb_show.proofs.value.utf16_len.Given as goal

abbrev pub invariant-loop-character : goal.invariant-loop-character
invariant-loop-character l =
    (capped (l.total + length (shown_units (drop (length l.yielded) (chars l.text)))) ≡ capped (length (shown_units (chars l.text)))) × (capped l.total ≡ l.total)
