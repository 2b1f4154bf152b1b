use Rattle.sb_instance.proofs.Writing.{accepted_here, define_refuses, define_writes, refused_here}
use Rattle.std.proofs.Common.{refl, ap, ◌∙◌}
use Rattle.sb_model.specs.Definitions.{define_refusal}
use Rattle.sb_model.specs.Instance.{Part}
use Rattle.sb_instance.proofs.instance.Instance.define.Goals as goal

pub write_definition-requires : goal.write_definition-requires
write_definition-requires c =
    accepted_here c.args.self.now c.self.inside.who c.self.inside.log.items c.self.inside.next_handle c.self.inside.next_tx c.self.inside.catalog c.args.ddl.now c.self.view_is
    c.self.invariant.catalog_so c.in-Ok.ensures.accepted

pub returns-in-Err : goal.returns-in-Err
returns-in-Err c session now =
    define_refuses c.args.self.now c.self.inside.who c.self.inside.log.items c.self.inside.next_handle c.self.inside.next_tx session now c.args.ddl.now c.in-Err.why _ c.self.view_is refl
    (refused_here c.self.inside.log.items c.self.inside.catalog c.args.ddl.now c.in-Err.why c.self.invariant.catalog_so c.in-Err.ensures.refused)

pub returns-in-Ok : goal.returns-in-Ok
returns-in-Ok c session now =
    define_writes c.args.self.now c.self.inside.who c.self.inside.log.items c.self.inside.next_handle c.self.inside.next_tx session now c.args.ddl.now c.write_definition.result c.write_definition.new.self
    c.self.view_is
    (ap (λ (p : Part). define_refusal p.log c.args.ddl.now) c.self.view_is
    ∙ accepted_here c.args.self.now c.self.inside.who c.self.inside.log.items c.self.inside.next_handle c.self.inside.next_tx c.self.inside.catalog c.args.ddl.now c.self.view_is
    c.self.invariant.catalog_so c.in-Ok.ensures.accepted)
    c.write_definition.ensures
