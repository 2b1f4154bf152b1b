use Rattle.std.proofs.Common.{ap, map, ◌∙◌}
use Rattle.sb_pick.specs.Inside.{seen}
use Rattle.sb_pick.proofs.Seen.{seen_kept}
use Rattle.sb_pick.proofs.queues.Queues.reserve.Goals as goal

pub returns-in-Some-clause-waiting : goal.returns-in-Some-clause-waiting
returns-in-Some-clause-waiting c =
    ap (map (seen c.learn.new.names.items)) c.reserve.ensures.items
    ∙ seen_kept c.self.inside.names.items c.learn.new.names.items c.self.inside.waiting.items c.learn.ensures.places c.self.invariant
    ∙ ap (λ t. t.waiting) c.self.view_is
