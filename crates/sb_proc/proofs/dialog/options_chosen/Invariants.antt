use Rattle.std.proofs.Common.{◌≡◌, drop}
use Rattle.sb_proc.specs.Folds.{try_fold}
use Rattle.sb_proc.specs.Requests.{with_option, chosen}
use Rattle.sb_proc.specs.Seen.{scope_of}
use Rattle.sb_proc.proofs.dialog.options_chosen.Given as goal

abbrev pub invariant-loop-option : goal.invariant-loop-option
invariant-loop-option l = try_fold (with_option (scope_of l.seen)) l.chosen (drop l.option-index l.options) ≡ chosen (scope_of l.seen) l.options
