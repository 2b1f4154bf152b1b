use Rattle.std.proofs.Common.{◌≡◌, drop}
use Rattle.sb_proc.specs.Folds.{try_fold}
use Rattle.sb_proc.specs.Turns.{and_declared, all_new}
use Rattle.sb_proc.proofs.declaring.all_new.Given as goal

abbrev pub invariant-loop-declaration : goal.invariant-loop-declaration
invariant-loop-declaration l =
    try_fold (and_declared l.variables) l.new.items (drop l.declaration-index l.declarations) ≡ all_new l.variables l.declarations
