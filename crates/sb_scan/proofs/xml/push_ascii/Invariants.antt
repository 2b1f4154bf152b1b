use Rattle.std.proofs.Common.{◌≡◌, drop, ◌++◌, ◌+◌}
use Rattle.std.specs.Prelude.{flat_map}
use Rattle.sb_model.specs.ErrorBody.{utf16_of}
use Rattle.sb_scan.proofs.xml.push_ascii.Given as goal

abbrev pub invariant-loop-byte : goal.invariant-loop-byte
invariant-loop-byte l = l.body.items ++ flat_map utf16_of (drop l.byte-index l.bytes) ≡ l.fn.body.items ++ flat_map utf16_of l.bytes
