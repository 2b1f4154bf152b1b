use Rattle.sb_instance.proofs.Learned.{setting_taken}
use Rattle.sb_instance.proofs.Noted.{sound_cleared}
use Rattle.sb_instance.proofs.Writing.{queue_inside}
use Rattle.sb_instance.proofs.instance.Instance.write_setting.Goals as goal

pub invariant_of-self-in-Ok : goal.invariant_of-self-in-Ok
invariant_of-self-in-Ok c = record {
  noted = sound_cleared c.self.inside.who c.push_setting.new.log.items c.self.inside.next_handle c.clear.new.self.items c.self.invariant.noted.small c.clear.ensures.items;
  catalog_so = setting_taken c.self.inside.log.items c.push_setting.new.log.items c.self.inside.catalog c.set_queue.new.self c.args.queue.now c.args.on c.self.invariant.catalog_so
      (queue_inside c.args.self.now c.self.inside.who c.self.inside.log.items c.self.inside.next_handle c.self.inside.next_tx c.args.queue.now c.self.view_is c.requires)
      c.in-Ok.ensures.written c.set_queue.ensures;
}
