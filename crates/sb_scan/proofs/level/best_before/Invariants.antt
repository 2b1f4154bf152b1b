use Rattle.std.proofs.Common.{◌≡◌, drop}
use Rattle.std.specs.Prelude.{filter, fold, option_copied}
use Rattle.sb_model.specs.Sides.{before_made}
use Rattle.sb_model.specs.Catalog.{priorities}
use Rattle.sb_model.specs.Groups.{fit, matches}
use Rattle.sb_model.specs.Matches.{best_by, better}
use Rattle.sb_scan.proofs.level.best_before.Given as goal

abbrev pub invariant-loop-entry : goal.invariant-loop-entry
invariant-loop-entry l = fold (better fit) (option_copied l.best) (filter (matches l.contract l.local l.remote) (priorities (before_made (drop l.entry-index l.log) l.side)))
    ≡ best_by fit (filter (matches l.contract l.local l.remote) (priorities (before_made l.log l.side)))
