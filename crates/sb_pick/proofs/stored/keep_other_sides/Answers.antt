use Rattle.std.proofs.Common.{not, rules, tests}
use Rattle.std.proofs.lemmas.Fn.{filter_same}
use Rattle.sb_model.specs.Sides.{same_side}
use Rattle.sb_pick.proofs.stored.keep_other_sides.Goals as goal

pub returns-clause-items : goal.returns-clause-items
returns-clause-items c =
    filter_same _ (λ stored. not (same_side stored.item.side c.args.side)) _ (λ x b g h. search (rules, tests)) _ _ c.retain.ensures.filtered
