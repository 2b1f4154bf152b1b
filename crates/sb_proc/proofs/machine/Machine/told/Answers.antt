use Rattle.std.proofs.Common.{sym, ◌∙◌}
use Rattle.std.proofs.lemmas.Result.{on_ok_weaker}
use Rattle.sb_proc.specs.Requests.{place_with}
use Rattle.sb_proc.proofs.First.{told_waits, told_none, told_next}
use Rattle.sb_proc.proofs.machine.Machine.told.Goals as goal

pub returns-in-Waiting : goal.returns-in-Waiting
returns-in-Waiting c = told_waits c.args.self.now c.in-Waiting.tx c.args.reply.now c.in-Waiting.is

pub returns-in-None : goal.returns-in-None
returns-in-None c =
    let m = c.self.inside in
    sym c.self.view_is ∙ told_none c.args.self.now (place_with m.who m.text) m.variables m.rest c.args.reply.now c.self.view_is c.in-None.ensures

pub returns : goal.returns
returns c =
    let m = c.self.inside in
    on_ok_weaker c.drop_first.result
    (λ e. told_next c.args.self.now (place_with m.who m.text) m.variables c.take_reply.new.variables m.rest c.drop_first.new.self c.in-Some.statement.now c.args.reply.now
    c.self.view_is c.in-Some.ensures c.in_default.not-Waiting c.in_ok-take_reply-in-Some.ensures e) c.drop_first.ensures
