use Rattle.std.proofs.Common.{◌<◌, ◌^◌, []}
use Rattle.std.specs.Prelude.{nat_abs, option_map}
use Rattle.sb_model.specs.Pick.{pick}
use Rattle.sb_model.specs.Replies.{received}
use Rattle.sb_instance.specs.Asked.{ask_of}
use Rattle.sb_instance.proofs.Taking.{receive_commits_at, receive_refuses_at}
use Rattle.sb_instance.proofs.instance.Instance.receive_any.Goals as goal

pub returns-in-Err : goal.returns-in-Err
returns-in-Err c session now =
    receive_refuses_at c.args.self.now c.self.inside.who c.self.inside.log.items c.as_slice-log.result.now c.self.inside.next_handle c.self.inside.next_tx
    session now c.args.queue.now c.args.top c.args.filter
    (received (ask_of c.as_slice-log.result.now) c.args.queue.now (pick c.as_slice-log.result.now [] 0 c.args.queue.now (option_map nat_abs c.args.top) c.args.filter))
    c.in-Err.stopped c.refuse.result c.refuse.new.self c.self.view_is c.as_slice-log.ensures.value c.in-Err.ensures c.refuse.ensures

pub returns-in-Ok-picked : goal.returns-in-Ok-picked
returns-in-Ok-picked c session now =
    let fits : c.self.inside.next_handle < 2 ^ 64 = c.self.invariant.noted.small in
    receive_commits_at c.args.self.now c.self.inside.who c.self.inside.log.items c.as_slice-log.result.now c.self.inside.next_handle c.self.inside.next_tx
    session now c.args.queue.now c.args.top c.args.filter c.in-Ok-picked.items.items c.take.result c.take.new.self
    c.self.view_is c.as_slice-log.ensures.value fits c.in-Ok.ensures c.in-Ok-picked.ensures c.take.ensures
