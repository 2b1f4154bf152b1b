use Rattle.std.proofs.Common.{◌≡◌, Some}
use Rattle.sb_model.specs.Replies.{live}
use Rattle.sb_instance.specs.Asked.{ask_of}
use Rattle.sb_instance.proofs.Sent.{may_found}
use Rattle.sb_instance.proofs.sending.check_found.Goals as goal

pub returns-clause-may : goal.returns-clause-may
returns-clause-may c =
    let found : Some c.in-Some.side ≡ live (ask_of c.args.log.now) c.args.handle = cc (c.in_ok-side.ensures, c.in-Some.is) in
    may_found c.args.log.now c.args.handle c.in-Some.side c.check_state.result found c.check_state.ensures.same c.check_state.ensures.allowed
