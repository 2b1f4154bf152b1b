use Rattle.std.proofs.Common.{string_bytes}
use Rattle.sb_script.proofs.Goes.{batch_goes, batch_stops}
use Rattle.sb_script.proofs.reading.end_batch.Goals as goal

pub returns-in_ok-push_batch-in-Ok-clause-goes_on :
    goal.returns-in_ok-push_batch-in-Ok-clause-goes_on
returns-in_ok-push_batch-in-Ok-clause-goes_on c =
    λ ps. batch_goes c.args.first (string_bytes c.args.text) ps c.args.commands.now.items c.push_batch.new.commands.items c.in-Ok.block c.in_ok-push_batch-in-Ok.ensures (rw c.as_str.ensures.value at c.in-Ok.ensures.spelled) (rw c.as_str.ensures.value at c.in-Ok.ensures.only)

pub returns-in-Err-clause-stops : goal.returns-in-Err-clause-stops
returns-in-Err-clause-stops c =
    λ ps. rw (c.batch_refusal.ensures, c.as_str-in-Err.ensures.value) (batch_stops c.args.first (string_bytes c.args.text) ps c.args.commands.now.items c.in-Err.refused (rw c.as_str.ensures.value at c.in-Err.ensures.place) (rw c.as_str.ensures.value at c.in-Err.ensures.only))
