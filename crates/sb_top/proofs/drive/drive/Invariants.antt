use Rattle.std.proofs.Common.{◌≤◌, [], drop, length}
use Rattle.std.specs.Io.KnownBytes.{Appends}
use Rattle.sb_top.specs.Following.{DoesAll, Follows}
use Rattle.sb_top.specs.Runs.{GoesBefore, GoesOn, world_of}
use Rattle.sb_show.specs.Transcript.{transcript}
use Rattle.sb_top.proofs.drive.drive.Given as goal

abbrev pub invariant-loop-command : goal.invariant-loop-command
invariant-loop-command g l = record {
  goes : GoesOn l.fn.instance [] l.instance l.history.steps
      (GoesBefore (DoesAll (world_of l.instance) l.variables (drop (length l.yielded) l.fn.commands.items)) (Follows l.fn.commands.items));
  so_far : Appends (g.K.Sink.written l.fn.sink) (g.K.Sink.written l.sink) (transcript l.history.steps);
  later : g.K.Sink.faults l.fn.sink ≤ g.K.Sink.faults l.sink;
}
