use Rattle.std.proofs.Common.{◌≡◌, ◌++◌, length, drop}
use Rattle.std.specs.Prelude.{flat_map}
use Rattle.std.specs.Str.{chars}
use Rattle.sb_model.specs.ErrorBody.{utf16_of}
use Rattle.sb_scan.proofs.xml.utf16.Given as goal

abbrev pub invariant-loop-character : goal.invariant-loop-character
invariant-loop-character l = l.body.items ++ flat_map utf16_of (drop (length l.yielded) (chars l.text)) ≡ flat_map utf16_of (chars l.text)
