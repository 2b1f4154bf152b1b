use Rattle.sb_instance.proofs.Sent.{known_may, may_known}
use Rattle.sb_instance.proofs.sending.check_handle.Goals as goal

pub returns-in-Some-clause-may : goal.returns-in-Some-clause-may
returns-in-Some-clause-may c =
    may_known c.args.log.now c.args.handle c.in-Some.sending.side c.check_typed.result
    (known_may c.args.log.now c.args.known.now c.in-Some.sending c.args.handle c.requires c.in-Some.ensures.known c.in-Some.ensures.handle) c.check_typed.ensures.same
