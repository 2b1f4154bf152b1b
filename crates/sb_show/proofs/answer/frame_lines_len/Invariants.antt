use Rattle.std.proofs.Common.{◌≡◌, length, take}
use Rattle.std.specs.List.{flat_map}
use Rattle.sb_show.specs.Values.{capped}
use Rattle.sb_show.specs.Answers.{frame_line}
use Rattle.sb_show.proofs.answer.frame_lines_len.Given as goal

abbrev pub invariant-loop-line : goal.invariant-loop-line
invariant-loop-line l = l.sum ≡ capped (length (flat_map frame_line (take l.line-index l.lines)))
