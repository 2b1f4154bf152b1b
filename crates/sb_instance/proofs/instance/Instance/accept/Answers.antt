use Rattle.std.proofs.Common.{ap}
use Rattle.sb_model.specs.Catalog.{ddl_of, setting}
use Rattle.sb_instance.proofs.Handed.{entry_accepted}
use Rattle.sb_instance.proofs.Learned.{other_taken}
use Rattle.sb_instance.proofs.Noted.{sound_cleared}
use Rattle.sb_instance.proofs.instance.Instance.accept.Goals as goal

pub invariant_of-self-2 : goal.invariant_of-self-2
invariant_of-self-2 c = record {
  noted = sound_cleared c.self.inside.who c.push.new.self.items c.self.inside.next_handle c.clear.new.self.items c.self.invariant.noted.small c.clear.ensures.items;
  catalog_so = other_taken c.self.inside.log.items c.push.new.self.items c.self.inside.catalog c.in_ok-entry.entry c.self.invariant.catalog_so
      (ap ddl_of c.in_ok-entry.ensures) (λ q. ap (setting q) c.in_ok-entry.ensures) c.in_ok-push.ensures.items;
}

pub returns-clause-taken : goal.returns-clause-taken
returns-clause-taken c =
    entry_accepted c.args.self.now c.self.inside.who c.self.inside.log.items c.as_slice.result.now c.push.new.self.items c.self.inside.next_handle c.self.inside.next_tx c.args.message c.in_ok-entry.entry
    c.self.view_is c.as_slice.ensures.value c.self.invariant.noted.small c.in_ok-entry.ensures c.in_ok-push.ensures.items
