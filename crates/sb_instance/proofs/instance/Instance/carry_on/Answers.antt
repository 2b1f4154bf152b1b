use Rattle.std.proofs.Common.{◌≡◌, ◌++◌, ◌∷◌, [], None, Some, refl, sym, ap, ◌∙◌}
use Rattle.sb_log.specs.declared.entries.Entry.TheVariants.{Accepted}
use Rattle.sb_instance.specs.Running.{running}
use Rattle.sb_instance.proofs.Carried.{hands_next, longer, noted_next, refuses_next}
use Rattle.sb_instance.proofs.Learned.{other_taken}
use Rattle.sb_instance.proofs.Noted.{sound_carrying, sound_cleared}
use Rattle.sb_model.specs.Sides.{partner}
use Rattle.sb_instance.proofs.instance.Instance.carry_on.Goals as goal

pub returns-then-is_type_refused-clause-handed : goal.returns-then-is_type_refused-clause-handed
returns-then-is_type_refused-clause-handed c =
    refuses_next c.args.self.now _ c.self.inside.who c.self.inside.log.items c.as_slice.result.now c.self.inside.next_handle c.self.inside.next_tx
    c.args.known c.args.number c.in-Some.content c.pop_front.new.self.items c.self.view_is c.as_slice.ensures.value c.requires.known c.requires.next c.in-Some.ensures.items
    (sym c.is_type_refused.ensures ∙ c.if-is_type_refused.true) refl

pub invariant_of-self-2 : goal.invariant_of-self-2
invariant_of-self-2 c =
    let longer_is : c.push.new.self.items ≡ longer c.self.inside.log.items (partner c.args.known.side) c.args.number c.in-Some.content =
    c.in_ok-push.ensures.items ∙ ap (λ r. c.self.inside.log.items ++ Accepted r c.args.number None c.in-Some.content ∷ []) c.partner.ensures in
    record {
      noted = sound_carrying c.self.inside.who c.push.new.self.items c.self.inside.next_handle None (Some _) c.clear.new.self.items None
          (sound_cleared c.self.inside.who c.push.new.self.items c.self.inside.next_handle c.clear.new.self.items c.self.invariant.noted.small c.clear.ensures.items)
          (noted_next c.args.self.now c.self.inside.who c.self.inside.log.items c.as_slice.result.now c.push.new.self.items c.self.inside.next_handle c.self.inside.next_tx
          c.args.known _ c.args.number c.in-Some.content c.pop_front.new.self.items c.self.view_is c.as_slice.ensures.value c.requires.known c.requires.next c.in-Some.ensures.items
          (sym c.is_type_refused.ensures ∙ c.if-is_type_refused.false) longer_is refl refl refl refl);
      catalog_so = other_taken c.self.inside.log.items c.push.new.self.items c.self.inside.catalog (Accepted (partner c.args.known.side) c.args.number None c.in-Some.content) c.self.invariant.catalog_so refl (λ q. refl) longer_is;
    }

pub returns-clause-handed : goal.returns-clause-handed
returns-clause-handed c =
    let longer_is : c.push.new.self.items ≡ longer c.self.inside.log.items (partner c.args.known.side) c.args.number c.in-Some.content =
    c.in_ok-push.ensures.items ∙ ap (λ r. c.self.inside.log.items ++ Accepted r c.args.number None c.in-Some.content ∷ []) c.partner.ensures in
    hands_next c.args.self.now (running c.self.inside.who c.push.new.self.items c.self.inside.next_handle c.self.inside.next_tx) c.self.inside.who c.self.inside.log.items c.as_slice.result.now
    c.self.inside.next_handle c.self.inside.next_tx c.args.known c.args.number c.in-Some.content c.pop_front.new.self.items
    c.self.view_is c.as_slice.ensures.value c.requires.known c.requires.next c.in-Some.ensures.items (sym c.is_type_refused.ensures ∙ c.if-is_type_refused.false)
    (ap (λ l. running c.self.inside.who l c.self.inside.next_handle c.self.inside.next_tx) longer_is)
