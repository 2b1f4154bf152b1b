use Rattle.std.proofs.Common.{◌≡◌, ◌++◌, length, drop}
use Rattle.std.specs.Str.{chars}
use Rattle.sb_show.proofs.Units.{shown_units}
use Rattle.sb_show.proofs.value.push_utf16.Given as goal

abbrev pub invariant-loop-character : goal.invariant-loop-character
invariant-loop-character l = l.out.items ++ shown_units (drop (length l.yielded) (chars l.text)) ≡ l.fn.out.items ++ shown_units (chars l.text)
