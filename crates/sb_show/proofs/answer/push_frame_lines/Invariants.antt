use Rattle.std.proofs.Common.{◌≡◌, ◌++◌, drop}
use Rattle.std.specs.List.{flat_map}
use Rattle.sb_show.specs.Answers as says
use Rattle.sb_show.proofs.answer.push_frame_lines.Given as goal

abbrev pub invariant-loop-line : goal.invariant-loop-line
invariant-loop-line l = l.out.items ++ flat_map says.frame_line (drop l.line-index l.lines) ≡ l.fn.out.items ++ flat_map says.frame_line l.lines
