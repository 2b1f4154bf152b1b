use Rattle.std.proofs.Common.{option_copied, ap, sym, ◌∙◌}
use Rattle.sb_model.specs.Groups.{fit, matches}
use Rattle.sb_routes.specs.Ways.{best_priority, has_level}
use Rattle.sb_routes.proofs.Lists.{first_passes}
use Rattle.sb_routes.proofs.ways.Routes.level.Goals as goal

pub level_number-requires : goal.level_number-requires
level_number-requires c =
    let contract = c.args.contract.now in
    let local = c.args.local.now in
    let remote = c.args.remote.now in
    first_passes fit (matches contract local remote) has_level c.self.inside.priorities.items c.in-Some.def.now c.self.invariant
    (sym (ap option_copied c.in-Some.is) ∙ c.best_priority.ensures ∙ ap (λ defs. best_priority defs contract local remote) c.as_slice.ensures.value)
