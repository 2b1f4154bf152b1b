use Rattle.std.proofs.Common.{◌≡◌, drop}
use Rattle.std.specs.Prelude.{filter, fold, option_copied}
use Rattle.sb_model.specs.Matches.{best_by, better}
use Rattle.sb_model.specs.Groups.{fit, matches}
use Rattle.sb_routes.proofs.levels.best_priority.Given as goal

abbrev pub invariant-loop-def : goal.invariant-loop-def
invariant-loop-def l = fold (better fit) (option_copied l.best) (filter (matches l.contract l.local l.remote) (drop l.def-index l.priorities))
    ≡ best_by fit (filter (matches l.contract l.local l.remote) l.priorities)
