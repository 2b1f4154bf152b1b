use Rattle.std.proofs.Common.{◌≡◌, ◌≤◌, ◌+◌, [], length, drop}
use Rattle.std.specs.Str.Lines.{lines}
use Rattle.sb_script.specs.Script as says
use Rattle.sb_script.specs.Reading as reads
use Rattle.sb_script.proofs.reading.read.Given as goal

abbrev pub invariant-loop-line : goal.invariant-loop-line
invariant-loop-line l = record {
  goes_on : reads.GoesOn (says.pieces_of l.text) [] (reads.left l.reading (drop (length l.yielded) (lines l.text))) l.reading.commands.items;
  number : l.reading.number ≡ length l.yielded + 1;
  first : l.reading.first ≤ l.reading.number;
}
