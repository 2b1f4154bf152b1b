use Rattle.std.proofs.Common.{◌+◌, length, drop, ap, ◌∙◌, arith}
use Rattle.std.specs.Prelude.{flat_map}
use Rattle.std.proofs.lemmas.Iterator.{YieldsList-from_chars}
use Rattle.std.proofs.lemmas.List.{at_drop_all, length_push, length-append}
use Rattle.std.proofs.lemmas.Iterator.Consumers.{YieldsList-turn, YieldsList-end}
use Rattle.std.specs.Str.{chars}
use Rattle.sb_model.specs.ErrorBody.{utf16_of}
use Rattle.sb_show.specs.Values.{byte_text, capped}
use Rattle.sb_show.proofs.Units.{shown_units, shown_step}
use Rattle.sb_show.proofs.value.utf16_len.Goals as goal

pub loop-character-preserved : goal.loop-character-preserved
loop-character-preserved c =
    let t = YieldsList-turn (YieldsList-from_chars c.args.text.now c.utf8.text cc) c.loop-character.yielded _ c.loop-character.yielded_by _ _ c.in-Some.character c.in-Some.is c.next.ensures.steps in
    let step = ap length (shown_step (chars c.args.text.now) (length c.loop-character.yielded) c.in-Some.character t) in
    let parts = length-append (flat_map byte_text (utf16_of c.in-Some.character)) (shown_units (drop (length c.loop-character.yielded + 1) (chars c.args.text.now))) in
    let before = c.loop-character.invariant.0 in
    let one = c.character_len.ensures in (
      ap (λ n. capped (c.saturating_add-total.result + length (shown_units (drop n (chars c.args.text.now))))) (length_push c.loop-character.yielded c.in-Some.character)
          ∙ omega (arith, step, parts, one, before, c.saturating_add-total.ensures),
      omega (arith, c.saturating_add-total.ensures),
    )

pub returns : goal.returns
returns c =
    let t = YieldsList-end (YieldsList-from_chars c.args.text.now c.utf8.text cc) c.loop-character.yielded _ c.loop-character.yielded_by _ _ c.in-None.is c.next.ensures.steps in
    let none = ap length (at_drop_all shown_units (chars c.args.text.now) (length c.loop-character.yielded) (omega (arith, t.1))) in
    let before = c.loop-character.invariant.0 in
    let small = c.loop-character.invariant.1 in
    omega (arith, none, before, small)
