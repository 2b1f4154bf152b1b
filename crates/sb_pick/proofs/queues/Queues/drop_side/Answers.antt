use Rattle.std.proofs.Common.{not, ◌<◌, length, map, ap, sym, ◌∙◌}
use Rattle.std.proofs.lemmas.List.Elements.{All-filter, All-same}
use Rattle.sb_model.specs.Sides.{same_side}
use Rattle.sb_pick.specs.Inside.{seen}
use Rattle.sb_pick.specs.Waiting.{without_side}
use Rattle.sb_pick.proofs.Lists.{filter-map}
use Rattle.sb_pick.proofs.queues.Queues.drop_side.Goals as goal

pub invariant_of-self : goal.invariant_of-self
invariant_of-self c =
    All-same (λ s. s.place < length c.self.inside.names.items) _ _ c.keep_other_sides.ensures.items
    (All-filter (λ s. not (same_side s.item.side c.args.side)) (λ s. s.place < length c.self.inside.names.items) c.self.inside.waiting.items c.self.invariant)

pub returns-clause-waiting : goal.returns-clause-waiting
returns-clause-waiting c =
    ap (map (seen c.self.inside.names.items)) c.keep_other_sides.ensures.items
    ∙ sym (filter-map (seen c.self.inside.names.items) (λ w. not (same_side w.item.side c.args.side)) c.self.inside.waiting.items)
    ∙ ap (λ t. without_side c.args.side t.waiting) c.self.view_is
