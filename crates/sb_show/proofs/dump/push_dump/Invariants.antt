use Rattle.std.proofs.Common.{◌≡◌, ◌++◌, drop}
use Rattle.std.specs.List.{flat_map}
use Rattle.sb_show.specs.Answers as says
use Rattle.sb_show.proofs.dump.push_dump.Given as goal

abbrev pub invariant-loop-line : goal.invariant-loop-line
invariant-loop-line l = l.out.items ++ flat_map says.dump_line (drop l.line-index l.lines) ≡ l.fn.out.items ++ flat_map says.dump_line l.lines
