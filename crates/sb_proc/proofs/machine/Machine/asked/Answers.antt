use Rattle.std.proofs.Common.{ap, subst}
use Rattle.sb_value.specs.Faults.{Gives}
use Rattle.sb_proc.specs.Seen.{scope_of}
use Rattle.sb_proc.specs.Requests.{Asked, place_with}
use Rattle.sb_proc.proofs.First.{asked_first, none_asked}
use Rattle.sb_proc.proofs.machine.Machine.asked.Goals as goal

pub returns-in-None : goal.returns-in-None
returns-in-None c =
    let m = c.self.inside in
    none_asked c.args.self.now (place_with m.who m.text) m.variables m.rest c.self.view_is c.in-None.ensures

pub returns-in-Some : goal.returns-in-Some
returns-in-Some c =
    let m = c.self.inside in
    subst (λ (said : Asked). Gives said c.asked.result)
    (asked_first c.args.self.now (place_with m.who m.text) (place_with m.who c.as_str.result.now) m.variables (scope_of c.of.result) m.rest c.in-Some.statement.now
    c.self.view_is (ap (place_with m.who) c.as_str.ensures) c.of.ensures c.in-Some.ensures) c.asked.ensures
