use Rattle.std.proofs.Common.{refl, sym, subst}
use Rattle.std.specs.Prelude.{IfSome}
use Rattle.sb_log.specs.declared.requests.Reply.TheVariants as reply
use Rattle.sb_instance.specs.Running.{running}
use Rattle.sb_instance.specs.Waiting.{IsWaiting}
use Rattle.sb_instance.proofs.Noted.{sound_waiting}
use Rattle.sb_instance.proofs.Waited.{kept_committed}
use Rattle.sb_instance.proofs.instance.Instance.commit_sent.Goals as goal

pub invariant_of-self-2 : goal.invariant_of-self-2
invariant_of-self-2 c =
    record {
      noted = sound_waiting c.self-2.inside.who c.self-2.inside.log.items c.self-2.inside.next_handle c.self-2.inside.carrying c.self-2.inside.sending.items c.self-2.inside.waiting c.take-waiting.result c.self-2.invariant.noted
          (kept_committed (running c.self.inside.who c.self.inside.log.items c.self.inside.next_handle c.self.inside.next_tx) c.commit-result.new.self
          c.self.inside.who c.self.inside.log.items c.self.inside.next_handle c.self.inside.next_tx
          c.self-2.inside.who c.self-2.inside.log.items c.self-2.inside.next_handle c.self-2.inside.next_tx c.args.ops.items reply.Done c.commit-result.result c.take-waiting.result
          refl c.self-2.view_is c.commit-result.ensures c.requires.quiet c.requires.none
          (subst (λ w. IfSome w (IsWaiting c.self.inside.log.items)) (sym c.take-waiting.ensures.value) c.self.invariant.noted.waiting_so));
      catalog_so = c.self-2.invariant.catalog_so;
    }
