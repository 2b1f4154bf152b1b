use Rattle.std.proofs.Common.{◌++◌, ◌+◌, length, drop, sym, ap, ◌∙◌, arith, append_assoc}
use Rattle.std.specs.Prelude.{flat_map}
use Rattle.std.proofs.lemmas.Iterator.{YieldsList-from_chars}
use Rattle.std.proofs.lemmas.List.{at_drop_all, length_push}
use Rattle.std.proofs.lemmas.Iterator.Consumers.{YieldsList-turn, YieldsList-end}
use Rattle.std.specs.Str.{chars}
use Rattle.sb_model.specs.ErrorBody.{utf16_of}
use Rattle.sb_show.specs.Values.{byte_text}
use Rattle.sb_show.proofs.Units.{shown_units, shown_step, append_none}
use Rattle.sb_show.proofs.value.push_utf16.Goals as goal

pub loop-character-preserved : goal.loop-character-preserved
loop-character-preserved c =
    let t = YieldsList-turn (YieldsList-from_chars c.args.text.now c.utf8.text cc) c.loop-character.yielded _ c.loop-character.yielded_by _ _ c.in-Some.character c.in-Some.is c.next.ensures.steps in
    ap (λ n. c.push_character.new.out.items ++ shown_units (drop n (chars c.args.text.now))) (length_push c.loop-character.yielded c.in-Some.character)
    ∙ ap (λ b. b ++ shown_units (drop (length c.loop-character.yielded + 1) (chars c.args.text.now))) c.in_ok-push_character.ensures
    ∙ append_assoc c.loop-character.out.items (flat_map byte_text (utf16_of c.in-Some.character)) (shown_units (drop (length c.loop-character.yielded + 1) (chars c.args.text.now)))
    ∙ ap (λ u. c.loop-character.out.items ++ u) (sym (shown_step (chars c.args.text.now) (length c.loop-character.yielded) c.in-Some.character t))
    ∙ c.loop-character.invariant

pub returns : goal.returns
returns c =
    let t = YieldsList-end (YieldsList-from_chars c.args.text.now c.utf8.text cc) c.loop-character.yielded _ c.loop-character.yielded_by _ _ c.in-None.is c.next.ensures.steps in
    sym (append_none c.loop-character.out.items)
    ∙ ap (λ u. c.loop-character.out.items ++ u) (sym (at_drop_all shown_units (chars c.args.text.now) (length c.loop-character.yielded) (omega (arith, t.1))))
    ∙ c.loop-character.invariant
