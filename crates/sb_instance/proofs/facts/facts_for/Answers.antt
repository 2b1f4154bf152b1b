use Rattle.std.specs.Prelude.{is_ok}
use Rattle.sb_instance.proofs.Known.{known_more, known_of}
use Rattle.sb_instance.proofs.facts.facts_for.Goals as goal

pub returns-in-Some-clause-found : goal.returns-in-Some-clause-found
returns-in-Some-clause-found c =
    known_of c.args.log.now c.args.queue.now c.args.filter c.args.known.now.items c.as_slice.result.now c.in-Some.found c.args.side c.requires.known c.as_slice.ensures.value
    c.in-Some.ensures.known c.in-Some.ensures.side

pub returns-in_err-push-clause-known : goal.returns-in_err-push-clause-known
returns-in_err-push-clause-known c =
    known_more c.args.log.now c.args.queue.now c.args.filter c.args.known.now.items c.push.new.self.items c.found_out-found.result c.args.side (is_ok c.push.result)
    c.requires.known c.found_out-found.ensures c.push.ensures.items

pub returns-clause-known : goal.returns-clause-known
returns-clause-known c =
    known_more c.args.log.now c.args.queue.now c.args.filter c.args.known.now.items c.push.new.self.items c.found_out-found.result c.args.side (is_ok c.push.result)
    c.requires.known c.found_out-found.ensures c.push.ensures.items
