-- Groups are held by one transaction at a time.
use Rattle.std.specs.Prelude.{refl, pos, List, [], ◌∷◌, ◌++◌, Some, None}
use Rattle.sb_log.specs.declared.identifiers.Who.TheVariants.{A, B}
use Rattle.sb_log.specs.declared.requests.Request.{Request}
use Rattle.sb_log.specs.declared.requests.Request.TheVariants as request
use Rattle.sb_log.specs.declared.requests.Reply.TheVariants as reply
use Rattle.sb_log.specs.declared.refusals.Refusal.TheVariants as refusal
use Rattle.sb_log.specs.declared.steps.Answer.TheVariants as answer
use Rattle.sb_log.specs.declared.steps.Verdict.TheVariants.{New}
use Rattle.sb_log.specs.declared.steps.Step.{Step}
use Rattle.sb_model.specs.Items.{waits_at}
use Rattle.sb_model.proofs.Plays.{Plays, opened_shops, a, b, asks_as, pumps, delivers, begins, submits, submit_line, receives_from, got_submit, sends_of, submit, seller_queue, letter}
use Rattle.sb_log.specs.declared.requests.Reply.{Reply}

abbrev two_dialogs : List Step
two_dialogs = begins (a 1) (a 2) ∷ begins (a 3) (a 4) ∷ []

abbrev takes : Request
takes = receives_from seller_queue (Some (pos 1))

abbrev first_taken : Reply
first_taken = reply.Received (got_submit 1 (b 1) (b 2) (a 1) 1 0x31 ∷ [])

-- RECEIVE goes to the next group that nobody holds, and is empty where there is none
abbrev receives : List Step
receives =
    two_dialogs ++ submits (a 1) 0x31 ∷ submits (a 3) 0x32
    ∷ pumps A (submit_line 1 (a 1) 1 0x31 ∷ submit_line 2 (a 3) 1 0x32 ∷ []) ∷ delivers 1 B New ∷ delivers 2 B New
    ∷ asks_as B 1 request.Begin (answer.Replied (reply.Began 1)) ∷ asks_as B 1 takes (answer.Replied first_taken)
    ∷ asks_as B 2 request.Begin (answer.Replied (reply.Began 2))
    ∷ asks_as B 2 takes (answer.Replied (reply.Received (got_submit 2 (b 3) (b 4) (a 3) 1 0x32 ∷ [])))
    ∷ asks_as B 3 takes (answer.Replied (reply.Received []))
    ∷ asks_as B 1 request.Rollback (answer.Replied (reply.RolledBack 1 [])) ∷ asks_as B 3 takes (answer.Replied first_taken) ∷ []

receives_go : Plays opened_shops receives
unfolding waits_at
receives_go = refl

abbrev moves : Request
moves = request.Move (a 3) (a 2)

-- a session is refused at once
abbrev refuses : List Step
refuses =
    two_dialogs ++ asks_as A 1 request.Begin (answer.Replied (reply.Began 3)) ∷ submits (a 1) 0x31
    ∷ asks_as A 2 (sends_of (a 1) submit (letter 0x32)) (answer.Refused (refusal.GroupHeld 3) None)
    ∷ asks_as A 2 moves (answer.Refused (refusal.GroupHeld 3) None)
    ∷ asks_as A 1 request.Commit (answer.Replied (reply.Committed 3)) ∷ asks_as A 2 moves (answer.Replied reply.Done) ∷ []

refuses_go : Plays opened_shops refuses
unfolding waits_at
refuses_go = refl
