-- A cleanup, and an end with an error.
use Rattle.std.specs.Prelude.{refl, pos, true, false, List, [], ◌∷◌, ◌++◌, Some, None, codes}
use Rattle.sb_log.specs.declared.identifiers.Who.TheVariants.{A, B}
use Rattle.sb_log.specs.declared.identifiers.State.TheVariants.{CO}
use Rattle.sb_log.specs.declared.messages.Content.TheVariants as content
use Rattle.sb_log.specs.declared.messages.Kind.TheVariants as kind
use Rattle.sb_log.specs.declared.requests.Request.TheVariants as request
use Rattle.sb_log.specs.declared.requests.Reply.TheVariants as reply
use Rattle.sb_log.specs.declared.requests.How.TheVariants as how
use Rattle.sb_log.specs.declared.refusals.Refusal.TheVariants as refusal
use Rattle.sb_log.specs.declared.steps.Event.TheVariants as event
use Rattle.sb_log.specs.declared.steps.Answer.TheVariants as answer
use Rattle.sb_log.specs.declared.steps.DumpLine.TheVariants as line
use Rattle.sb_log.specs.declared.steps.Verdict.TheVariants.{New, Next, Gone, AckNew}
use Rattle.sb_log.specs.declared.steps.Step.{Step}
use Rattle.sb_model.specs.Items.{waits_at}
use Rattle.sb_model.specs.ErrorBody.{error_body}
use Rattle.sb_model.proofs.Plays.{Plays, opened_shops, a, b, start_of, far_of, asks, is_refused, world, pumps, delivers, begins, submits, submit_line, data_line, ack_line, header, receives_from, got_submit, got, sends_of, accepted_type, seller_queue, buyer_queue, letter}

abbrev one_arrives : List Step
one_arrives =
    begins (a 1) (a 2) ∷ submits (a 1) 0x31 ∷ pumps A (submit_line 1 (a 1) 1 0x31 ∷ []) ∷ delivers 1 B New
    ∷ pumps B (ack_line 2 A (start_of (a 1)) 1 false (a 0) ∷ []) ∷ delivers 2 A AckNew ∷ pumps A [] ∷ pumps B [] ∷ []

-- a cleaned side answers that it is gone, and its partner sends no more
abbrev a_cleanup : List Step
a_cleanup =
    one_arrives ++ asks B (request.End (b 1) how.Cleanup) reply.Done ∷ submits (a 1) 0x32 ∷ pumps A (submit_line 3 (a 1) 2 0x32 ∷ []) ∷ delivers 3 B Gone
    ∷ pumps B (ack_line 4 A (start_of (a 1)) 1 true (a 0) ∷ []) ∷ delivers 4 A AckNew ∷ pumps A [] ∷ pumps B []
    ∷ world (event.Dump A) (answer.Dumped (line.Queue buyer_queue true 0 ∷ line.Side (a 1) CO (a 2) 5 0 ∷ []))
    ∷ is_refused B (sends_of (b 1) accepted_type (letter 0x33)) (refusal.NoConversation (b 1)) ∷ []

a_cleanup_goes : Plays opened_shops a_cleanup
unfolding waits_at
a_cleanup_goes = refl

-- the partner of a side that ended with an error receives its code and text
abbrev an_error : List Step
an_error =
    one_arrives ++ asks A (request.End (a 1) (how.Error (pos 50) (codes "a<b"))) reply.Done
    ∷ pumps A (data_line 3 B (start_of (a 1)) header 2 (content.Error 50 (codes "a<b")) ∷ []) ∷ delivers 3 B Next
    ∷ asks B (receives_from seller_queue None) (reply.Received (got_submit 1 (b 1) (b 2) (a 1) 1 0x31
    ∷ got 2 (b 1) (b 2) (far_of (a 1)) 2 kind.Error (Some (error_body 50 (codes "a<b"))) ∷ []))
    ∷ []

an_error_goes : Plays opened_shops an_error
unfolding waits_at
an_error_goes = refl
