-- The order script: a dialog, a reader that sells, its answer, and a dump.
use Rattle.std.specs.Prelude.{refl, pos, true, false, List, [], ◌∷◌, Some, None, codes}
use Rattle.sb_log.specs.declared.identifiers.Who.TheVariants.{A, B}
use Rattle.sb_log.specs.declared.identifiers.State.TheVariants.{CO}
use Rattle.sb_log.specs.declared.messages.Content.TheVariants as content
use Rattle.sb_log.specs.declared.messages.Kind.TheVariants as kind
use Rattle.sb_log.specs.declared.requests.Request.TheVariants as request
use Rattle.sb_log.specs.declared.requests.Reply.TheVariants as reply
use Rattle.sb_log.specs.declared.requests.NumberChange.TheVariants as change
use Rattle.sb_log.specs.declared.steps.Event.TheVariants as event
use Rattle.sb_log.specs.declared.steps.Answer.TheVariants as answer
use Rattle.sb_log.specs.declared.steps.DumpLine.TheVariants as line
use Rattle.sb_log.specs.declared.steps.Verdict.TheVariants.{New, Next, AckNew}
use Rattle.sb_log.specs.declared.steps.Step.{Step}
use Rattle.sb_model.specs.Items.{waits_at}
use Rattle.sb_model.specs.Histories.{after}
use Rattle.sb_model.proofs.Plays.{Plays, empty_world, shops, opened_shops, a, b, start_of, far_of, asks, reads, starts, world, pumps, delivers, begins, submits, submit_line, data_line, ack_line, header_back, receives_from, got_submit, got, sends_of, accepted_type, seller_queue, buyer_queue, stock, letter}

shops_are_defined : Plays empty_world shops
unfolding waits_at
shops_are_defined = refl

abbrev an_order : List Step
an_order =
    begins (a 1) (a 2) ∷ submits (a 1) 0x78 ∷ asks B (request.Insert stock (pos 7) (Some (pos 40)) (Some (codes "bolt"))) (reply.Rows 1 None)
    ∷ pumps A (submit_line 1 (a 1) 1 0x78 ∷ []) ∷ delivers 1 B New
    ∷ pumps B (ack_line 2 A (start_of (a 1)) 1 false (a 0) ∷ []) ∷ delivers 2 A AckNew ∷ pumps A [] ∷ pumps B [] ∷ []

an_order_goes : Plays opened_shops an_order
unfolding waits_at
an_order_goes = refl

abbrev a_sale : List Step
a_sale =
    starts 1 seller_queue (b 2) 2
    ∷ reads 1 (receives_from seller_queue (Some (pos 1))) (reply.Received (got_submit 1 (b 1) (b 2) (a 1) 1 0x78 ∷ []))
    ∷ reads 1 (request.Update stock (pos 7) (Some (change.Subtract (pos 3))) None) (reply.Rows 1 None)
    ∷ reads 1 (sends_of (b 1) accepted_type (letter 0x78)) reply.Done
    ∷ reads 1 request.Commit (reply.Committed 2) ∷ world event.Serve answer.Settled
    ∷ pumps A [] ∷ pumps B (data_line 3 A (far_of (a 1)) header_back 1 (content.App accepted_type (Some (letter 0x78))) ∷ []) ∷ delivers 3 A Next
    ∷ pumps A (ack_line 4 B (far_of (a 1)) 1 false (b 0) ∷ []) ∷ delivers 4 B AckNew ∷ pumps B [] ∷ pumps A [] ∷ pumps B []
    ∷ asks A (receives_from buyer_queue None) (reply.Received (got 1 (a 1) (a 2) (start_of (a 1)) 1 (kind.App accepted_type) (Some (letter 0x78)) ∷ []))
    ∷ world (event.Dump B) (answer.Dumped (line.Queue seller_queue true 0 ∷ line.Side (b 1) CO (b 2) 5 0
    ∷ line.Row stock (pos 7) (record { n = Some (pos 37); body = Some (codes "bolt") }) ∷ []))
    ∷ []

a_sale_goes : Plays (after opened_shops an_order) a_sale
unfolding waits_at
a_sale_goes = refl
