use Rattle.std.proofs.Common.{not, [], ◌∷◌, ◌++◌, ap, ◌∙◌, rules, tests}
use Rattle.sb_proc.specs.Scopes.{is_named}
use Rattle.sb_proc.proofs.Kept.{kept_by}
use Rattle.sb_proc.proofs.variables.declare.Goals as goal

pub returns : goal.returns
returns c =
    c.in_ok-push.ensures.items
    ∙ ap (λ others. others ++ c.args.variable ∷ [])
    (kept_by _ (λ y. not (is_named c.args.variable.name y)) _ (λ x b g h. search (rules, tests)) _ _ c.retain.ensures.filtered)
