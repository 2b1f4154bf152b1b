use Rattle.std.proofs.Common.{◌∙◌, subst}
use Rattle.sb_model.specs.Sides.{Bytes}
use Rattle.sb_proc.specs.Machines.{IsShownAs}
use Rattle.sb_proc.specs.Requests.{place_with}
use Rattle.sb_proc.proofs.First.{words_first, none_words}
use Rattle.sb_proc.proofs.machine.Machine.refused.Goals as goal

pub returns-in-None : goal.returns-in-None
returns-in-None c =
    let m = c.self.inside in
    subst (λ (words : Bytes). IsShownAs words c.args.fault c.refused.result)
    (none_words c.args.self.now (place_with m.who m.text) m.variables m.rest c.self.view_is c.in-None.ensures) c.refused.ensures

pub returns-in-Some : goal.returns-in-Some
returns-in-Some c =
    let m = c.self.inside in
    subst (λ (words : Bytes). IsShownAs words c.args.fault c.refused-in-Some.result)
    (c.words.ensures.words ∙ words_first c.args.self.now (place_with m.who m.text) m.variables m.rest c.in-Some.statement.now c.self.view_is c.in-Some.ensures) c.refused-in-Some.ensures
