use Rattle.std.proofs.Common.{◌≤◌, ◌-◌, length, take}
use Rattle.std.specs.Io.KnownBytes.{Appends}
use Rattle.sb_show.specs.Transcript.{transcript}
use Rattle.sb_top.proofs.output.write_steps.Given as goal

abbrev pub invariant-loop-whole : goal.invariant-loop-whole
invariant-loop-whole g l = record {
  within : l.whole ≤ length l.steps;
  so_far : Appends (g.K.Sink.written l.fn.sink) (g.K.Sink.written l.sink) (transcript (take l.whole l.steps));
  later : g.K.Sink.faults l.fn.sink ≤ g.K.Sink.faults l.sink;
}

abbrev pub decreases-loop-whole : goal.decreases-loop-whole
decreases-loop-whole g l = length l.steps - l.whole
