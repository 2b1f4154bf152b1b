use Rattle.std.proofs.Common.{◌<◌, ◌^◌, sym, subst}
use Rattle.sb_log.specs.declared.requests.Reply.TheVariants as reply
use Rattle.sb_model.specs.Instance.{Part}
use Rattle.sb_instance.specs.Running.{Commits}
use Rattle.sb_instance.specs.Sending.{IsQuiet}
use Rattle.sb_instance.proofs.Noted.{sound_more}
use Rattle.sb_instance.proofs.Sent.{quiet_send}
use Rattle.sb_instance.proofs.Stepping.{send_commits_at, send_refuses_at}
use Rattle.sb_instance.proofs.instance.Instance.send.Goals as goal

pub check_send-requires : goal.check_send-requires
check_send-requires c = rw (c.as_slice.ensures.value, c.as_slice-2.ensures.value) c.self.invariant.noted.sending_so

pub commit_sent-requires-clause-quiet : goal.commit_sent-requires-clause-quiet
commit_sent-requires-clause-quiet c = subst IsQuiet (sym c.in-Ok-send_ops.ensures) (quiet_send c.in-Ok-check_send.side c.in-Ok.kind c.args.body.now)

pub invariant_of-self : goal.invariant_of-self
invariant_of-self c =
    record {
      noted = sound_more c.self.inside.who c.self.inside.log.items c.as_slice.result.now c.self.inside.next_handle c.self.inside.carrying c.self.inside.sending.items c.note.new.known.items
          (record { handle = c.args.handle; side = c.in-Ok-check_send.side }) c.self.inside.waiting c.self.invariant.noted c.as_slice.ensures.value c.in-Ok-check_send.ensures.may c.note.ensures;
      catalog_so = c.self.invariant.catalog_so;
    }

pub returns-in-Err : goal.returns-in-Err
returns-in-Err c session now =
    send_refuses_at c.args.self.now c.self.inside.who c.self.inside.log.items c.as_slice.result.now c.self.inside.next_handle c.self.inside.next_tx
    session now c.args.handle c.args.kind.now c.args.body.now c.in-Ok.kind c.in-Err.stopped c.refuse.result c.refuse.new.self
    (sym c.self.view_is) c.as_slice.ensures.value c.in-Ok.ensures c.in-Err.ensures.sent c.refuse.ensures

pub returns-in-Ok-send_ops : goal.returns-in-Ok-send_ops
returns-in-Ok-send_ops c session now =
    let fits : c.self.inside.next_handle < 2 ^ 64 = c.self.invariant.noted.small in
    send_commits_at c.args.self.now c.self.inside.who c.self.inside.log.items c.as_slice.result.now c.self.inside.next_handle c.self.inside.next_tx
    session now c.args.handle c.args.kind.now c.args.body.now c.in-Ok.kind c.in-Ok-check_send.side c.in-Ok-send_ops.ops.items c.commit_sent.result c.commit_sent.new.self
    (sym c.self.view_is) c.as_slice.ensures.value fits c.in-Ok.ensures c.in-Ok-check_send.ensures.sent c.in-Ok-send_ops.ensures
    (subst (λ (p : Part). Commits p c.in-Ok-send_ops.ops.items reply.Done c.commit_sent.result c.commit_sent.new.self) c.self.view_is c.commit_sent.ensures)
