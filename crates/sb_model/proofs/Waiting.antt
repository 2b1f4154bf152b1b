-- Two readers that wait for each other: the one that would close the circle is rolled back.
use Rattle.std.specs.Prelude.{refl, pos, true, false, ℕ, List, [], ◌∷◌, ◌++◌, Some, None, codes}
use Rattle.sb_log.specs.declared.identifiers.Who.TheVariants.{A, B}
use Rattle.sb_log.specs.declared.identifiers.State.TheVariants.{CO}
use Rattle.sb_log.specs.declared.messages.Content.TheVariants as content
use Rattle.sb_log.specs.declared.messages.Kind.TheVariants as kind
use Rattle.sb_log.specs.declared.requests.Request.{Request}
use Rattle.sb_log.specs.declared.requests.Request.TheVariants as request
use Rattle.sb_log.specs.declared.requests.Reply.TheVariants as reply
use Rattle.sb_log.specs.declared.requests.NumberChange.TheVariants as change
use Rattle.sb_log.specs.declared.refusals.Refusal.TheVariants as refusal
use Rattle.sb_log.specs.declared.steps.Event.TheVariants as event
use Rattle.sb_log.specs.declared.steps.Answer.TheVariants as answer
use Rattle.sb_log.specs.declared.steps.DumpLine.TheVariants as line
use Rattle.sb_log.specs.declared.steps.Verdict.TheVariants.{New, AckNew}
use Rattle.sb_log.specs.declared.steps.Step.{Step}
use Rattle.sb_model.specs.Items.{waits_at}
use Rattle.sb_model.specs.Histories.{after}
use Rattle.sb_model.proofs.Plays.{Plays, opened_shops, a, b, start_of, far_of, asks, reader, reads, starts, world, pumps, delivers, data_line, ack_line, receives_from, got, sends_of, dialog_to, defines, active_queue, service, route_to, procedure, submit, orders, buyer, seller_queue, stock}
use Rattle.sb_log.specs.declared.requests.Reply.{Reply}
use Rattle.sb_log.specs.declared.steps.FrameLine.{FrameLine}
use Rattle.sb_log.specs.declared.identifiers.Handle.{Handle}

abbrev pairs : List ℕ
pairs = codes "Pairs"

abbrev pair_queue : List ℕ
pair_queue = codes "PairQ"

abbrev puts : ℕ → Step
puts key = asks B (request.Insert stock (pos key) (Some (pos 0)) None) (reply.Rows 1 None)

abbrev more_definitions : List Step
more_definitions =
    defines A (route_to (codes "ToP") pairs B) ∷ puts 1 ∷ puts 2 ∷ defines B (procedure (codes "Both"))
    ∷ defines B (active_queue pair_queue (codes "Both")) ∷ defines B (service pairs pair_queue (orders ∷ [])) ∷ []

abbrev pair_line : ℕ → Handle → ℕ → FrameLine
pair_line n conversation c =
    data_line n B (start_of conversation) (record { from_service = buyer; to_service = pairs; contract = orders; from = a 0; to = None; expires = 2147483647 })
    1 (content.App submit (Some (c ∷ [])))

abbrev sends_byte : Handle → ℕ → Step
sends_byte handle c = asks A (sends_of handle submit (c ∷ [])) reply.Done

abbrev two_arrive : List Step
two_arrive =
    more_definitions ++ asks A (dialog_to pairs None) (reply.Dialog (a 1) (a 2)) ∷ sends_byte (a 1) 1
    ∷ asks A (dialog_to pairs None) (reply.Dialog (a 3) (a 4)) ∷ sends_byte (a 3) 2
    ∷ pumps A (pair_line 1 (a 1) 1 ∷ pair_line 2 (a 3) 2 ∷ []) ∷ delivers 1 B New ∷ delivers 2 B New
    ∷ pumps B (ack_line 3 A (start_of (a 1)) 1 false (a 0) ∷ ack_line 4 A (start_of (a 3)) 1 false (a 0) ∷ [])
    ∷ delivers 3 A AckNew ∷ delivers 4 A AckNew ∷ pumps A [] ∷ pumps B [] ∷ []

two_arrive_goes : Plays opened_shops two_arrive
unfolding waits_at
two_arrive_goes = refl

abbrev takes : Request
takes = receives_from pair_queue (Some (pos 1))

abbrev taken : ℕ → Handle → Handle → Handle → ℕ → Reply
taken n handle g conversation c = reply.Received (got n handle g (far_of conversation) 1 (kind.App submit) (Some (c ∷ [])) ∷ [])

abbrev raises : ℕ → Request
raises key = request.Update stock (pos key) (Some (change.Add (pos 1))) None

abbrev raised : Reply
raised = reply.Rows 1 None

-- the second reader would close the circle; its message is received again by a third
abbrev serve : List Step
serve =
    starts 1 pair_queue (b 2) 3 ∷ starts 2 pair_queue (b 4) 4
    ∷ reads 1 takes (taken 1 (b 1) (b 2) (a 1) 1) ∷ reads 2 takes (taken 2 (b 3) (b 4) (a 3) 2)
    ∷ reads 1 (raises 1) raised ∷ reads 2 (raises 2) raised ∷ reads 1 (raises 2) (reply.Waiting 4)
    ∷ reader 2 (raises 1) (answer.Refused (refusal.Deadlock (4 ∷ 3 ∷ [])) (Some (reply.RolledBack 4 [])))
    ∷ starts 3 pair_queue (b 4) 5 ∷ reads 1 (raises 2) raised ∷ reads 3 takes (taken 2 (b 3) (b 4) (a 3) 2)
    ∷ reads 1 request.Commit (reply.Committed 3) ∷ reads 3 (raises 2) raised ∷ reads 3 (raises 1) raised
    ∷ reads 3 request.Commit (reply.Committed 5) ∷ world event.Serve answer.Settled
    ∷ world (event.Dump B) (answer.Dumped (line.Queue seller_queue true 0 ∷ line.Queue pair_queue true 0
    ∷ line.Side (b 1) CO (b 2) 5 0 ∷ line.Side (b 3) CO (b 4) 5 0
    ∷ line.Row stock (pos 1) (record { n = Some (pos 2); body = None }) ∷ line.Row stock (pos 2) (record { n = Some (pos 2); body = None }) ∷ []))
    ∷ []

serve_goes : Plays (after opened_shops two_arrive) serve
unfolding waits_at
serve_goes = refl
