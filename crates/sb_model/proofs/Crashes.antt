-- A commit cut by a failing disk: the instance is down, and opens with the whole entry or without it.
use Rattle.std.specs.Prelude.{refl, pos, true, false, List, [], ◌∷◌, Some, None}
use Rattle.sb_log.specs.declared.identifiers.Who.TheVariants.{A, B}
use Rattle.sb_log.specs.declared.identifiers.State.TheVariants.{CO}
use Rattle.sb_log.specs.declared.requests.Request.TheVariants as request
use Rattle.sb_log.specs.declared.requests.Reply.TheVariants as reply
use Rattle.sb_log.specs.declared.refusals.Refusal.TheVariants as refusal
use Rattle.sb_log.specs.declared.steps.Event.TheVariants as event
use Rattle.sb_log.specs.declared.steps.Answer.TheVariants as answer
use Rattle.sb_log.specs.declared.steps.DumpLine.TheVariants as line
use Rattle.sb_log.specs.declared.steps.Verdict.TheVariants.{New, AckNew}
use Rattle.sb_log.specs.declared.steps.Step.{Step}
use Rattle.sb_model.specs.Items.{waits_at}
use Rattle.sb_model.specs.Histories.{after}
use Rattle.sb_model.proofs.Plays.{Plays, opened_shops, a, b, start_of, asks, is_refused, world, pumps, delivers, begins, submits, submit_line, ack_line, receives_from, got_submit, accepted_type, seller_queue, stock}

abbrev failing : List Step
failing =
    begins (a 1) (a 2) ∷ submits (a 1) 0x31 ∷ pumps A (submit_line 1 (a 1) 1 0x31 ∷ []) ∷ delivers 1 B New
    ∷ pumps B (ack_line 2 A (start_of (a 1)) 1 false (a 0) ∷ []) ∷ delivers 2 A AckNew ∷ pumps A [] ∷ pumps B []
    ∷ asks B request.Begin (reply.Began 1)
    ∷ asks B (receives_from seller_queue (Some (pos 1))) (reply.Received (got_submit 1 (b 1) (b 2) (a 1) 1 0x31 ∷ []))
    ∷ asks B (request.Insert stock (pos 1) (Some (pos 1)) None) (reply.Rows 1 None)
    ∷ asks B (request.Send (b 1) (Some accepted_type) None) reply.Done
    ∷ is_refused B request.Commit (refusal.DiskFailed B)
    ∷ is_refused B request.Rollback (refusal.Down B)
    ∷ world (event.Crash B 1) answer.Done ∷ []

failing_goes : Plays opened_shops failing
unfolding waits_at
failing_goes = refl

-- without the entry the message waits again, and nothing is sent or put
abbrev lost : List Step
lost =
    world (event.Open B) (answer.Entries 10)
    ∷ world (event.Dump B) (answer.Dumped (line.Queue seller_queue true 1 ∷ line.Side (b 1) CO (b 2) 5 0 ∷ [])) ∷ []

lost_goes : Plays (after opened_shops failing) lost
unfolding waits_at
lost_goes = refl

-- with it, all three are there
abbrev kept : List Step
kept =
    world (event.Open B) (answer.Entries 11)
    ∷ world (event.Dump B) (answer.Dumped (line.Queue seller_queue true 0 ∷ line.Side (b 1) CO (b 2) 5 1
    ∷ line.Row stock (pos 1) (record { n = Some (pos 1); body = None }) ∷ [])) ∷ []

kept_goes : Plays (after opened_shops failing) kept
unfolding waits_at
kept_goes = refl
