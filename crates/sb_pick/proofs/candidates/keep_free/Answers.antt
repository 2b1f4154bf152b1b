use Rattle.std.proofs.Common.{rules, tests}
use Rattle.std.proofs.lemmas.Fn.{filter_same}
use Rattle.sb_pick.specs.Offered.{is_free}
use Rattle.sb_pick.proofs.candidates.keep_free.Goals as goal

pub returns : goal.returns
returns g c =
    filter_same _ (is_free (g.H.Held.held_by c.args.locks.now) c.args.tx) _ (λ x b f h. search (rules, tests)) _ _ c.retain.ensures.filtered
