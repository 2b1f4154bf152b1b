use Rattle.sb_instance.proofs.Learned.{transaction_taken}
use Rattle.sb_instance.proofs.Noted.{sound_committed}
use Rattle.sb_instance.proofs.instance.Instance.commit.Goals as goal

pub invariant_of-self-in-Ok : goal.invariant_of-self-in-Ok
invariant_of-self-in-Ok c =
    record {
      noted = sound_committed c.self.inside.who c.self.inside.log.items c.push_transaction.new.log.items c.self.inside.next_handle c.self.inside.next_tx c.args.ops.items
          c.self.inside.carrying c.self.inside.sending.items c.self.inside.waiting c.self.invariant.noted c.requires c.in-Ok.ensures.written;
      catalog_so = transaction_taken c.self.inside.log.items c.push_transaction.new.log.items c.self.inside.catalog c.self.inside.next_tx c.args.ops.items c.self.invariant.catalog_so c.in-Ok.ensures.written;
    }
