use Rattle.std.proofs.Common.{◌≡◌, Some, ◌∙◌}
use Rattle.sb_instance.specs.Handing.{carried}
use Rattle.sb_instance.specs.Running.{running}
use Rattle.sb_instance.proofs.Carried.{noted_first}
use Rattle.sb_instance.proofs.Handed.{hands_over}
use Rattle.sb_instance.proofs.Noted.{sound_carrying}
use Rattle.sb_instance.proofs.instance.Instance.carry_first.Goals as goal

pub invariant_of-self : goal.invariant_of-self
invariant_of-self c =
    let found : Some c.in-Some.message ≡ carried c.self.inside.who c.as_slice-log.result.now c.args.side c.args.number = cc (c.in_ok-message.ensures, c.in-Some.is) in
    record {
      noted = sound_carrying c.self-2.inside.who c.self-2.inside.log.items c.self-2.inside.next_handle c.self-2.inside.carrying c.behind-known.result c.self-2.inside.sending.items c.self-2.inside.waiting c.self-2.invariant.noted
          (noted_first c.args.self.now c.take_in.new.self c.self.inside.who c.self.inside.log.items c.as_slice-log.result.now c.self.inside.next_handle c.self.inside.next_tx
          c.self-2.inside.who c.self-2.inside.log.items c.self-2.inside.next_handle c.self-2.inside.next_tx c.args.side c.args.number c.in-Some.message c.verdict-given.result c.behind-known.result
          c.self.view_is c.as_slice-log.ensures.value found c.verdict-given.ensures c.in_ok-take_in.ensures.taken c.self-2.view_is c.behind-known.ensures.next c.behind-known.ensures.known);
      catalog_so = c.self-2.invariant.catalog_so;
    }

pub returns-clause-handed : goal.returns-clause-handed
returns-clause-handed c =
    let found : Some c.in-Some.message ≡ carried c.self.inside.who c.as_slice-log.result.now c.args.side c.args.number = cc (c.in_ok-message.ensures, c.in-Some.is) in
    hands_over c.args.self.now c.self.inside.who c.self.inside.log.items c.as_slice-log.result.now c.self.inside.next_handle c.self.inside.next_tx
    c.args.side c.args.number c.in-Some.message c.verdict-given.result (running c.self-2.inside.who c.self-2.inside.log.items c.self-2.inside.next_handle c.self-2.inside.next_tx)
    c.self.view_is c.as_slice-log.ensures.value found c.verdict-given.ensures (c.self-2.view_is ∙ c.in_ok-take_in.ensures.taken)
