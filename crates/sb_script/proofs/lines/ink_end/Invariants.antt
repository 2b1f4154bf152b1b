use Rattle.std.proofs.Common.{◌≡◌, ◌≤◌, drop}
use Rattle.sb_script.specs.Lines as says
use Rattle.sb_script.proofs.lines.ink_end.Given as goal

abbrev pub invariant-loop-i : goal.invariant-loop-i
invariant-loop-i l = record {
  same : says.ink_end_from l.i l.end (drop l.i l.text) ≡ says.ink_end l.text;
  within : l.end ≤ l.i;
}
