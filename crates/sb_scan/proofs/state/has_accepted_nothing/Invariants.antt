use Rattle.std.proofs.Common.{◌≡◌, drop}
use Rattle.sb_model.specs.Messages.{contents_accepted}
use Rattle.sb_model.specs.States.{is_empty}
use Rattle.sb_scan.proofs.state.has_accepted_nothing.Given as goal

abbrev pub invariant-loop-entry : goal.invariant-loop-entry
invariant-loop-entry l = is_empty (contents_accepted (drop l.entry-index l.log) l.side) ≡ is_empty (contents_accepted l.log l.side)
