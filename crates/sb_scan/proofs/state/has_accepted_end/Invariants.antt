use Rattle.std.proofs.Common.{◌≡◌, drop}
use Rattle.std.specs.List.{list_any}
use Rattle.sb_model.specs.Messages.{contents_accepted}
use Rattle.sb_model.specs.States.{is_end_dialog}
use Rattle.sb_scan.proofs.state.has_accepted_end.Given as goal

abbrev pub invariant-loop-entry : goal.invariant-loop-entry
invariant-loop-entry l = list_any is_end_dialog (contents_accepted (drop l.entry-index l.log) l.side) ≡ list_any is_end_dialog (contents_accepted l.log l.side)
