-- Frames that come early, twice or late, a lost acknowledgement, a restart, and an ended side.
use Rattle.std.specs.Prelude.{refl, true, false, List, [], ◌∷◌, ◌++◌, None}
use Rattle.sb_log.specs.declared.identifiers.Who.TheVariants.{A, B}
use Rattle.sb_log.specs.declared.identifiers.State.TheVariants.{CD}
use Rattle.sb_log.specs.declared.messages.Content.TheVariants as content
use Rattle.sb_log.specs.declared.messages.Kind.TheVariants as kind
use Rattle.sb_log.specs.declared.requests.Request.TheVariants as request
use Rattle.sb_log.specs.declared.requests.Reply.TheVariants as reply
use Rattle.sb_log.specs.declared.requests.How.TheVariants as how
use Rattle.sb_log.specs.declared.steps.Event.TheVariants as event
use Rattle.sb_log.specs.declared.steps.Answer.TheVariants as answer
use Rattle.sb_log.specs.declared.steps.Barred.TheVariants as barred
use Rattle.sb_log.specs.declared.steps.DumpLine.TheVariants as line
use Rattle.sb_log.specs.declared.steps.Verdict.TheVariants.{New, Next, Repeat, Early, Gone, AckNew}
use Rattle.sb_log.specs.declared.steps.Step.{Step}
use Rattle.sb_model.specs.Items.{waits_at}
use Rattle.sb_model.proofs.Plays.{Plays, opened_shops, a, b, start_of, far_of, asks, world, pumps, delivers, begins, submits, submit_line, data_line, ack_line, header, receives_from, got_submit, got, seller_queue}

abbrev three_sent : List Step
three_sent =
    begins (a 1) (a 2) ∷ submits (a 1) 0x31 ∷ submits (a 1) 0x32 ∷ submits (a 1) 0x33
    ∷ pumps A (submit_line 1 (a 1) 1 0x31 ∷ submit_line 2 (a 1) 2 0x32 ∷ submit_line 3 (a 1) 3 0x33 ∷ [])
    ∷ delivers 3 B Early ∷ delivers 1 B New ∷ delivers 2 B Next ∷ delivers 2 B Repeat ∷ delivers 3 B Next
    ∷ world (event.Deliver 9 None) (answer.Barred (barred.NoFrame 9)) ∷ []

three_sent_goes : Plays opened_shops three_sent
unfolding waits_at
three_sent_goes = refl

abbrev one_sent : List Step
one_sent = begins (a 1) (a 2) ∷ submits (a 1) 0x31 ∷ pumps A (submit_line 1 (a 1) 1 0x31 ∷ []) ∷ []

-- a frame and an acknowledgement are lost
abbrev a_loss : List Step
a_loss =
    one_sent ++ world (event.Lose 1) answer.Done ∷ pumps A (submit_line 2 (a 1) 1 0x31 ∷ []) ∷ delivers 2 B New
    ∷ pumps B (ack_line 3 A (start_of (a 1)) 1 false (a 0) ∷ []) ∷ world (event.Lose 3) answer.Done
    ∷ pumps A (submit_line 4 (a 1) 1 0x31 ∷ []) ∷ delivers 4 B Repeat
    ∷ pumps B (ack_line 5 A (start_of (a 1)) 1 false (a 0) ∷ []) ∷ delivers 5 A AckNew ∷ pumps A [] ∷ []

a_loss_goes : Plays opened_shops a_loss
unfolding waits_at
a_loss_goes = refl

-- what was accepted is known after a restart
abbrev a_restart : List Step
a_restart =
    one_sent ++ delivers 1 B New ∷ world (event.Crash B 0) answer.Done ∷ world (event.Open B) (answer.Entries 10)
    ∷ asks B (receives_from seller_queue None) (reply.Received (got_submit 1 (b 1) (b 2) (a 1) 1 0x31 ∷ []))
    ∷ pumps A (submit_line 2 (a 1) 1 0x31 ∷ []) ∷ delivers 2 B Repeat
    ∷ asks B (receives_from seller_queue None) (reply.Received []) ∷ []

a_restart_goes : Plays opened_shops a_restart
unfolding waits_at
a_restart_goes = refl

abbrev cleaned_once : List Step
cleaned_once =
    one_sent ++ delivers 1 B New ∷ pumps B (ack_line 2 A (start_of (a 1)) 1 false (a 0) ∷ []) ∷ delivers 2 A AckNew ∷ pumps A [] ∷ pumps B [] ∷ []

-- an old first frame does not open an ended dialog again
abbrev an_end : List Step
an_end =
    cleaned_once ++ asks A (request.End (a 1) how.Plain) reply.Done
    ∷ pumps A (data_line 3 B (start_of (a 1)) header 2 content.EndDialog ∷ []) ∷ delivers 3 B Next
    ∷ pumps B (ack_line 4 A (start_of (a 1)) 2 false (a 0) ∷ []) ∷ delivers 4 A AckNew ∷ pumps A [] ∷ pumps B []
    ∷ asks B (receives_from seller_queue None)
    (reply.Received (got_submit 1 (b 1) (b 2) (a 1) 1 0x31 ∷ got 2 (b 1) (b 2) (far_of (a 1)) 2 kind.EndDialog None ∷ []))
    ∷ asks B (request.End (b 1) how.Plain) reply.Done ∷ delivers 1 B Gone
    ∷ world (event.Dump B) (answer.Dumped (line.Queue seller_queue true 0 ∷ line.Side (b 1) CD (b 2) 5 0 ∷ [])) ∷ []

an_end_goes : Plays opened_shops an_end
unfolding waits_at
an_end_goes = refl
