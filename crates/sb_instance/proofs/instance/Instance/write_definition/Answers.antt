use Rattle.std.proofs.Common.{Some}
use Rattle.sb_catalog.specs.Kinds.{kind_of, name_of}
use Rattle.sb_instance.proofs.Learned.{definition_taken, new_with_room}
use Rattle.sb_instance.proofs.Noted.{sound_cleared}
use Rattle.sb_instance.proofs.Writing.{new_inside}
use Rattle.sb_instance.proofs.instance.Instance.write_definition.Goals as goal

pub apply-requires-clause-new : goal.apply-requires-clause-new
apply-requires-clause-new c =
    new_with_room c.self.inside.log.items c.self.inside.catalog c.reserve.new.self c.args.ddl.now c.in-Ok-copied.copy (Some (kind_of c.args.ddl.now, name_of c.args.ddl.now))
    c.self.invariant.catalog_so
    (new_inside c.args.self.now c.self.inside.who c.self.inside.log.items c.self.inside.next_handle c.self.inside.next_tx c.args.ddl.now c.self.view_is c.requires)
    c.in-Ok.ensures.ready c.in-Ok-copied.ensures

pub invariant_of-self-in-Ok-push_definition : goal.invariant_of-self-in-Ok-push_definition
invariant_of-self-in-Ok-push_definition c = record {
  noted = sound_cleared c.self.inside.who c.push_definition.new.log.items c.self.inside.next_handle c.clear.new.self.items c.self.invariant.noted.small c.clear.ensures.items;
  catalog_so = definition_taken c.self.inside.log.items c.push_definition.new.log.items c.self.inside.catalog c.reserve.new.self c.apply.new.self c.args.ddl.now c.in-Ok-copied.copy
      (Some (kind_of c.args.ddl.now, name_of c.args.ddl.now)) c.self.invariant.catalog_so
      (new_inside c.args.self.now c.self.inside.who c.self.inside.log.items c.self.inside.next_handle c.self.inside.next_tx c.args.ddl.now c.self.view_is c.requires)
      c.in-Ok-push_definition.ensures.written c.in-Ok.ensures.ready c.in-Ok-copied.ensures c.apply.ensures;
}
