use Rattle.std.proofs.Common.{not, ◌==◌, rules, tests}
use Rattle.std.proofs.lemmas.Fn.{filter_same}
use Rattle.sb_pick.proofs.stored.keep_others.Goals as goal

pub returns-clause-items : goal.returns-clause-items
returns-clause-items c =
    filter_same _ (λ stored. not (stored.item.number == c.args.number)) _ (λ x b g h. search (rules, tests)) _ _ c.retain.ensures.filtered
