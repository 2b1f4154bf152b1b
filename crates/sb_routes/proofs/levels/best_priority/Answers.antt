use Rattle.std.proofs.Common.{option_copied, filter, arith, ◌∙◌}
use Rattle.sb_model.specs.Matches.{better}
use Rattle.sb_model.specs.Groups.{fit, matches}
use Rattle.sb_routes.proofs.Ranking.{best_is_first}
use Rattle.sb_routes.proofs.Lists.{pass_ends}
use Rattle.sb_routes.proofs.levels.best_priority.Goals as goal

pub returns : goal.returns
returns c =
    let fits = matches c.args.contract.now c.args.local.now c.args.remote.now in
    pass_ends (better fit) (option_copied c.loop-def.best) fits c.args.priorities.now c.loop-def.def-index (omega arith)
    ∙ c.loop-def.invariant
    ∙ best_is_first fit (filter fits c.args.priorities.now)
