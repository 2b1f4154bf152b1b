use Rattle.std.proofs.Common.{◌≡◌, ◌++◌, ◌∷◌, [], refl}
use Rattle.sb_model.specs.Steps.{verdict_told}
use Rattle.sb_top.specs.Following.{handed_over}
use Rattle.sb_top.proofs.Handing.{handed_step}
use Rattle.sb_top.proofs.Histories.{goes_on_one}
use Rattle.sb_top.proofs.clean.hand_over.Goals as goal

pub returns-clause-goes : goal.returns-clause-goes
returns-clause-goes c =
    let handed = handed_step c.args.instance.now c.args.side c.args.number c.in_ok-verdict.verdict c.hand_over.new.self c.requires.plain c.in_ok-verdict.ensures.handed in
    let longer : c.push.new.self.steps ≡ c.args.history.now.steps ++ handed_over c.args.side c.args.number (verdict_told c.in_ok-verdict.verdict) ∷ [] = rw (← c.make_room.ensures.same) c.push.ensures in
    goes_on_one _ _ _ _ _ _ handed.step_is longer c.in_ok-make_room.ensures.room refl

pub returns-clause-keeps : goal.returns-clause-keeps
returns-clause-keeps c =
    let handed = handed_step c.args.instance.now c.args.side c.args.number c.in_ok-verdict.verdict c.hand_over.new.self c.requires.plain c.in_ok-verdict.ensures.handed in
    handed.keeps
