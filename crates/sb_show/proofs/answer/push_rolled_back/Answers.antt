use Rattle.std.proofs.Common.{◌++◌, ap, ◌∙◌, append_assoc}
use Rattle.std.specs.Prelude.{codes, flat_map}
use Rattle.std.proofs.lemmas.Result.{on_ok_weaker}
use Rattle.sb_show.specs.Values.{numbered}
use Rattle.sb_show.specs.Answers.{off_text, rolled_back_words}
use Rattle.sb_show.proofs.answer.push_rolled_back.Goals as goal

pub returns : goal.returns
unfolding rolled_back_words
returns c =
    on_ok_weaker c.push_all_off.result
    (λ e.
    e ∙ ap (λ xs. xs ++ flat_map off_text c.args.off.now) c.in_ok-push_numbered.ensures
    ∙ append_assoc c.args.out.now.items (numbered (codes "rolled back ") c.args.tx) (flat_map off_text c.args.off.now))
    c.push_all_off.ensures
