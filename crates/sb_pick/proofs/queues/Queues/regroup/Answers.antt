use Rattle.std.proofs.Common.{◌<◌, length, map, ap, ◌∙◌}
use Rattle.std.proofs.lemmas.List.Elements.{All-same}
use Rattle.sb_pick.specs.Inside.{seen}
use Rattle.sb_pick.specs.Waiting.{regrouped}
use Rattle.sb_pick.proofs.Seen.{placed_regrouped, seen_regrouped}
use Rattle.sb_pick.proofs.queues.Queues.regroup.Goals as goal

pub invariant_of-self : goal.invariant_of-self
invariant_of-self c =
    All-same (λ s. s.place < length c.self.inside.names.items) _ _ c.regroup.ensures.items (placed_regrouped c.self.inside.names.items c.args.side c.args.group c.self.inside.waiting.items c.self.invariant)

pub returns-clause-waiting : goal.returns-clause-waiting
returns-clause-waiting c =
    ap (map (seen c.self.inside.names.items)) c.regroup.ensures.items
    ∙ seen_regrouped c.self.inside.names.items c.args.side c.args.group c.self.inside.waiting.items
    ∙ ap (λ t. regrouped c.args.side c.args.group t.waiting) c.self.view_is
