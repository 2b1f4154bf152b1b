use Rattle.std.proofs.Common.{◌≡◌, ◌≤◌, ◌+◌, min, drop}
use Rattle.sb_script.specs.Commands as says
use Rattle.sb_script.proofs.commands.capped.Given as goal

abbrev pub invariant-loop-byte : goal.invariant-loop-byte
invariant-loop-byte l = record {
  same : min (says.decimal_from l.number (drop l.byte-index l.text)) (says.most + 1) ≡ min (says.decimal l.text) (says.most + 1);
  within : l.number ≤ says.most + 1;
}
