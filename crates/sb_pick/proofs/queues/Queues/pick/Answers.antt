use Rattle.std.proofs.Common.{◌≡◌, ◌∙◌, ap, map}
use Rattle.std.proofs.lemmas.Result.{IfOk-weaker}
use Rattle.sb_pick.specs.Inside.{seen}
use Rattle.sb_pick.specs.Offered.{chosen}
use Rattle.sb_pick.specs.Picked.{picked}
use Rattle.sb_pick.proofs.Offering.{picks}
use Rattle.sb_pick.proofs.Seen.{seen_lent}
use Rattle.sb_pick.proofs.queues.Queues.pick.Goals as goal

pub returns : goal.returns
returns g c =
    let holder = g.H.Held.held_by c.args.locks.now in
    let names = c.as_slice-names.result.now in
    let waiting = c.as_slice-waiting.result.now in
    let are_seen : map (seen names) waiting ≡ c.args.self.now.waiting = seen_lent c.self.inside.names.items names c.self.inside.waiting.items waiting c.args.self.now.waiting
    c.as_slice-names.ensures.value c.as_slice-waiting.ensures.value (ap (λ t. t.waiting) c.self.view_is) in
    IfOk-weaker c.choose.result
    (λ it. it ≡ chosen c.args.top c.as_slice.result.now)
    (λ it. it ≡ picked c.args.queue.now c.args.top c.args.filter.now c.args.taken.now holder c.args.tx c.args.self.now.waiting)
    (λ it is. is ∙ picks c.args.queue.now c.args.top c.args.filter.now c.args.taken.now holder c.args.tx c.args.self.now.waiting (map (seen names) waiting)
    c.in_ok-found.found.items c.keep_free.new.found.items c.in_ok-sorted.sorted.items c.as_slice.result.now
    are_seen c.in_ok-found.ensures c.keep_free.ensures c.in_ok-sorted.ensures c.as_slice.ensures.value)
    c.choose.ensures
