-- Conversation timers and lifetimes.
use Rattle.std.specs.Prelude.{refl, pos, true, false, ℕ, List, [], ◌∷◌, Some, None}
use Rattle.sb_log.specs.declared.identifiers.Who.TheVariants.{A, B}
use Rattle.sb_log.specs.declared.identifiers.State.TheVariants.{ER}
use Rattle.sb_log.specs.declared.messages.Content.TheVariants as content
use Rattle.sb_log.specs.declared.messages.Kind.TheVariants as kind
use Rattle.sb_log.specs.declared.requests.Request.{Request}
use Rattle.sb_log.specs.declared.requests.Request.TheVariants as request
use Rattle.sb_log.specs.declared.requests.Reply.TheVariants as reply
use Rattle.sb_log.specs.declared.refusals.Refusal.TheVariants as refusal
use Rattle.sb_log.specs.declared.steps.Event.TheVariants as event
use Rattle.sb_log.specs.declared.steps.Answer.TheVariants as answer
use Rattle.sb_log.specs.declared.steps.DumpLine.TheVariants as line
use Rattle.sb_log.specs.declared.steps.Verdict.TheVariants.{New, AckNew}
use Rattle.sb_log.specs.declared.steps.Step.{Step}
use Rattle.sb_model.specs.Items.{waits_at}
use Rattle.sb_model.proofs.Plays.{Plays, opened_shops, a, b, start_of, asks, is_refused, world, pumps, delivers, begins, submits, data_line, ack_line, header_at, receives_from, got, sends_of, dialog_to, submit, seller, seller_queue, buyer_queue, letter}
use Rattle.sb_log.specs.declared.steps.FrameLine.{FrameLine}

abbrev sets_timer : ℕ → Request
sets_timer seconds = request.Timer (a 1) (pos seconds)

-- a later timer takes the place of the earlier one, and fires once
abbrev a_timer : List Step
a_timer =
    begins (a 1) (a 2) ∷ asks A (sets_timer 2147483647) reply.Done ∷ asks A (sets_timer 1) reply.Done
    ∷ is_refused A (sets_timer 0) (refusal.BadNumber (pos 0))
    ∷ world (event.Tick 1) (answer.Moment 1) ∷ world (event.Timer A (a 1)) answer.Fired
    ∷ asks A (receives_from buyer_queue None) (reply.Received (got 1 (a 1) (a 2) (start_of (a 1)) 0 kind.DialogTimer None ∷ []))
    ∷ world (event.Tick 5) (answer.Moment 6) ∷ []

a_timer_goes : Plays opened_shops a_timer
unfolding waits_at
a_timer_goes = refl

abbrev short_line : ℕ → ℕ → ℕ → FrameLine
short_line n number c = data_line n B (start_of (a 1)) (header_at 10) number (content.App submit (Some (letter c)))

-- both sides expire; their waiting messages stay, and nothing is sent any more
abbrev a_lifetime : List Step
a_lifetime =
    asks A (dialog_to seller (Some (pos 10))) (reply.Dialog (a 1) (a 2)) ∷ submits (a 1) 0x31 ∷ pumps A (short_line 1 1 0x31 ∷ []) ∷ delivers 1 B New
    ∷ pumps B (ack_line 2 A (start_of (a 1)) 1 false (a 0) ∷ []) ∷ delivers 2 A AckNew ∷ submits (a 1) 0x32
    ∷ world (event.Tick 10) (answer.Moment 10) ∷ world (event.Lifetime A (a 1)) answer.Fired ∷ world (event.Lifetime B (b 1)) answer.Fired
    ∷ is_refused A (sends_of (a 1) submit (letter 0x33)) (refusal.WrongState ER) ∷ pumps A []
    ∷ world (event.Dump A) (answer.Dumped (line.Queue buyer_queue true 1 ∷ line.Side (a 1) ER (a 2) 5 0 ∷ []))
    ∷ world (event.Dump B) (answer.Dumped (line.Queue seller_queue true 2 ∷ line.Side (b 1) ER (b 2) 5 0 ∷ [])) ∷ []

a_lifetime_goes : Plays opened_shops a_lifetime
unfolding waits_at
a_lifetime_goes = refl
