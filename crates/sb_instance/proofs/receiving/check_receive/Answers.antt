use Rattle.std.proofs.Common.{[]}
use Rattle.std.specs.Prelude.{option_map, nat_abs}
use Rattle.sb_log.specs.declared.refusals.Refusal.TheVariants as refusal
use Rattle.sb_model.specs.Catalog.{find_queue}
use Rattle.sb_model.specs.Pick.{pick}
use Rattle.sb_model.specs.Replies.{received}
use Rattle.sb_instance.specs.Asked.{ask_of}
use Rattle.sb_instance.proofs.Passing.{passes_found}
use Rattle.sb_instance.proofs.receiving.check_receive.Goals as goal

pub returns-in-Some : goal.returns-in-Some
returns-in-Some c =
    passes_found (find_queue c.args.log.now c.args.queue.now) _ (refusal.NoQueue c.args.queue.now) _
    (received (ask_of c.args.log.now) c.args.queue.now (pick c.args.log.now [] 0 c.args.queue.now (option_map nat_abs c.args.top) c.args.filter)) _
    c.in-Some.ensures
    (c.check_rest.ensures (received (ask_of c.args.log.now) c.args.queue.now (pick c.args.log.now [] 0 c.args.queue.now (option_map nat_abs c.args.top) c.args.filter)))
