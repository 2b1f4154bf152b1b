use Rattle.std.proofs.Common.{false, Ok, ap, ◌∙◌}
use Rattle.sb_proc.specs.Machines.{Standing}
use Rattle.sb_proc.specs.Requests.{place_with}
use Rattle.sb_proc.proofs.First.{stored_first, none_stored}
use Rattle.sb_proc.proofs.machine.Machine.computed.Goals as goal

pub returns-in-None : goal.returns-in-None
returns-in-None c =
    let m = c.self.inside in
    none_stored c.args.self.now (place_with m.who m.text) m.variables m.rest c.self.view_is c.in-None.ensures ∙ ap (λ (n : Standing). Ok (n, false)) c.self.view_is

pub returns-in-Some : goal.returns-in-Some
returns-in-Some c =
    let m = c.self.inside in
    stored_first c.args.self.now (place_with m.who m.text) m.variables c.computed.new.variables m.rest c.in-Some.statement.now c.computed.result
    c.self.view_is c.in-Some.ensures c.computed.ensures
