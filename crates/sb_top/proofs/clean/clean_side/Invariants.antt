use Rattle.std.proofs.Common.{◌+◌, ◌-◌}
use Rattle.sb_top.specs.Following.{HandsOver}
use Rattle.sb_top.specs.Runs.{GoesBefore, GoesOn, Keeps}
use Rattle.sb_top.proofs.clean.clean_side.Given as goal

abbrev pub invariant-loop-place : goal.invariant-loop-place
invariant-loop-place l = record {
  goes : GoesOn l.fn.instance l.fn.history.steps l.instance l.history.steps
      (GoesBefore (HandsOver l.pending.side (l.place + 1) (l.pending.numbered - l.place)) (HandsOver l.pending.side (l.pending.accepted + 1) (l.pending.numbered - l.pending.accepted)));
  keeps : Keeps l.fn.instance l.instance;
}
