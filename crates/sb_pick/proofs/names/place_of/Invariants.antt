use Rattle.std.proofs.Common.{◌≡◌, true, drop}
use Rattle.sb_pick.specs.Waiting.{is_known}
use Rattle.sb_pick.proofs.names.place_of.Given as goal

abbrev pub invariant-loop-place : goal.invariant-loop-place
invariant-loop-place l = is_known (drop l.place l.names) l.queue ≡ true
