use Rattle.std.proofs.Common.{Err}
use Rattle.sb_model.specs.Replies.{with_filter, with_open_queue}
use Rattle.sb_instance.specs.Asked.{ask_of}
use Rattle.sb_instance.proofs.Passing.{passes_stop, passes_then}
use Rattle.sb_instance.proofs.receiving.check_rest.Goals as goal

pub returns-in-Err : goal.returns-in-Err
returns-in-Err c rest =
    passes_stop _ (with_filter (ask_of c.args.log.now) c.args.filter (with_open_queue (ask_of c.args.log.now) c.args.queue.now rest)) rest c.in-Err.stopped
    (c.in-Err.ensures (with_filter (ask_of c.args.log.now) c.args.filter (with_open_queue (ask_of c.args.log.now) c.args.queue.now rest)))

pub returns-in-Err-check_filter : goal.returns-in-Err-check_filter
returns-in-Err-check_filter c rest =
    passes_then _ (with_filter (ask_of c.args.log.now) c.args.filter (with_open_queue (ask_of c.args.log.now) c.args.queue.now rest)) rest (Err c.in-Err-check_filter.stopped)
    (c.in-Ok.ensures (with_filter (ask_of c.args.log.now) c.args.filter (with_open_queue (ask_of c.args.log.now) c.args.queue.now rest)))
    (passes_stop _ (with_open_queue (ask_of c.args.log.now) c.args.queue.now rest) rest c.in-Err-check_filter.stopped
    (c.in-Err-check_filter.ensures (with_open_queue (ask_of c.args.log.now) c.args.queue.now rest)))

pub returns-in-Ok-check_filter : goal.returns-in-Ok-check_filter
returns-in-Ok-check_filter c rest =
    passes_then _ (with_filter (ask_of c.args.log.now) c.args.filter (with_open_queue (ask_of c.args.log.now) c.args.queue.now rest)) rest c.check_open.result
    (c.in-Ok.ensures (with_filter (ask_of c.args.log.now) c.args.filter (with_open_queue (ask_of c.args.log.now) c.args.queue.now rest)))
    (passes_then _ (with_open_queue (ask_of c.args.log.now) c.args.queue.now rest) rest c.check_open.result
    (c.in-Ok-check_filter.ensures (with_open_queue (ask_of c.args.log.now) c.args.queue.now rest))
    (c.check_open.ensures rest))
