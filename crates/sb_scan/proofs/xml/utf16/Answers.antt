use Rattle.std.proofs.Common.{◌++◌, ◌+◌, length, drop, sym, ap, ◌∙◌, arith, append_assoc}
use Rattle.std.specs.Prelude.{flat_map}
use Rattle.std.proofs.lemmas.Iterator.{YieldsList-from_chars}
use Rattle.std.proofs.lemmas.List.{at_drop_all, length_push}
use Rattle.std.proofs.lemmas.Iterator.Consumers.{YieldsList-turn, YieldsList-end}
use Rattle.std.specs.Str.{chars}
use Rattle.sb_model.specs.ErrorBody.{utf16_of}
use Rattle.sb_scan.proofs.Texts.{units_step, append_none}
use Rattle.sb_scan.proofs.xml.utf16.Goals as goal

pub loop-character-preserved : goal.loop-character-preserved
loop-character-preserved c =
    let t = YieldsList-turn (YieldsList-from_chars c.args.text.now c.utf8.text cc) c.loop-character.yielded _ c.loop-character.yielded_by _ _ c.in-Some.character c.in-Some.is c.next.ensures.steps in
    ap (λ n. c.push_character.new.body.items ++ flat_map utf16_of (drop n (chars c.args.text.now))) (length_push c.loop-character.yielded c.in-Some.character)
    ∙ ap (λ b. b ++ flat_map utf16_of (drop (length c.loop-character.yielded + 1) (chars c.args.text.now))) c.in_ok-push_character.ensures
    ∙ append_assoc c.loop-character.body.items (utf16_of c.in-Some.character) (flat_map utf16_of (drop (length c.loop-character.yielded + 1) (chars c.args.text.now)))
    ∙ ap (λ u. c.loop-character.body.items ++ u) (sym (units_step (chars c.args.text.now) (length c.loop-character.yielded) c.in-Some.character t))
    ∙ c.loop-character.invariant

pub returns : goal.returns
returns c =
    let t = YieldsList-end (YieldsList-from_chars c.args.text.now c.utf8.text cc) c.loop-character.yielded _ c.loop-character.yielded_by _ _ c.in-None.is c.next.ensures.steps in
    c.from_vec.ensures
    ∙ sym (append_none c.loop-character.body.items)
    ∙ ap (λ u. c.loop-character.body.items ++ u) (sym (at_drop_all (flat_map utf16_of) (chars c.args.text.now) (length c.loop-character.yielded) (omega (arith, t.1))))
    ∙ c.loop-character.invariant
