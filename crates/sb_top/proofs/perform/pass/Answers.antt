use Rattle.std.proofs.Common.{sym, ap, ◌∙◌}
use Rattle.std.specs.Prelude.{option_map}
use Rattle.sb_top.specs.Following.{unbuilt}
use Rattle.sb_top.proofs.Follows.{made_of_refused}
use Rattle.sb_top.proofs.Histories.{goes_on_so}
use Rattle.sb_top.proofs.perform.pass.Goals as goal

pub returns-in-Some-clause-goes : goal.returns-in-Some-clause-goes
returns-in-Some-clause-goes c =
    goes_on_so _ _ _ _ _ _ c.refuse_unbuilt.ensures.goes
    (λ xs h. made_of_refused c.refuse_unbuilt.result (unbuilt c.args.command.now) c.in-Some.word.now xs (sym c.unbuilt.ensures ∙ ap (λ o. option_map (λ w. w.now) o) c.in-Some.is) h)
