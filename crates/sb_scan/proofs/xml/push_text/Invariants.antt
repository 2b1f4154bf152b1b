use Rattle.std.proofs.Common.{◌≡◌, ◌++◌, length, drop}
use Rattle.std.specs.Str.{chars}
use Rattle.sb_scan.proofs.Texts.{escaped_units}
use Rattle.sb_scan.proofs.xml.push_text.Given as goal

abbrev pub invariant-loop-character : goal.invariant-loop-character
invariant-loop-character l = l.body.items ++ escaped_units (drop (length l.yielded) (chars l.text)) ≡ l.fn.body.items ++ escaped_units (chars l.text)
