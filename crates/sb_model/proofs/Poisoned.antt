-- The fifth rolled-back receive in a row turns the queue off.
use Rattle.std.specs.Prelude.{◌≡◌, map, take, refl, pos, true, ℕ, zero, suc, ◌+◌, List, [], ◌∷◌, ◌++◌, Some}
use Rattle.sb_model.specs.Poison.{rollbacks_in_a_row}
use Rattle.sb_log.specs.declared.identifiers.Who.TheVariants.{A, B}
use Rattle.sb_log.specs.declared.requests.Request.TheVariants as request
use Rattle.sb_log.specs.declared.requests.Reply.TheVariants as reply
use Rattle.sb_log.specs.declared.refusals.Refusal.TheVariants as refusal
use Rattle.sb_log.specs.declared.steps.Verdict.TheVariants.{New, Next}
use Rattle.sb_log.specs.declared.steps.Step.{Step}
use Rattle.sb_model.specs.Items.{waits_at}
use Rattle.sb_model.specs.Histories.{after}
use Rattle.sb_model.proofs.Plays.{Plays, opened_shops, a, b, asks, is_refused, pumps, delivers, begins, submits, submit_line, receives_from, got_submit, seller_queue}

abbrev two_arrive : List Step
two_arrive =
    begins (a 1) (a 2) ∷ submits (a 1) 0x31 ∷ submits (a 1) 0x32
    ∷ pumps A (submit_line 1 (a 1) 1 0x31 ∷ submit_line 2 (a 1) 2 0x32 ∷ []) ∷ delivers 1 B New ∷ delivers 2 B Next ∷ []

abbrev takes_one : ℕ → ℕ → List Step
takes_one tx c =
    asks B request.Begin (reply.Began tx)
    ∷ asks B (receives_from seller_queue (Some (pos 1))) (reply.Received (got_submit (c + 1) (b 1) (b 2) (a 1) (c + 1) (0x31 + c) ∷ [])) ∷ []

-- n rollbacks of the message c, from the transaction tx on
abbrev rolls_back : ℕ → ℕ → ℕ → List Step
rolls_back zero tx c = []
rolls_back (suc n) tx c = takes_one tx c ++ asks B request.Rollback (reply.RolledBack tx []) ∷ rolls_back n (tx + 1) c

-- a commit ends the count
abbrev four_and_a_commit : List Step
four_and_a_commit = two_arrive ++ rolls_back 4 1 0 ++ takes_one 5 0 ++ asks B request.Commit (reply.Committed 5) ∷ []

four_and_a_commit_go : Plays opened_shops four_and_a_commit
unfolding waits_at
four_and_a_commit_go = refl

abbrev five : List Step
five =
    rolls_back 4 6 1 ++ takes_one 10 1 ++ asks B request.Rollback (reply.RolledBack 10 (seller_queue ∷ []))
    ∷ is_refused B (receives_from seller_queue (Some (pos 1))) (refusal.QueueOff seller_queue)
    ∷ asks B (request.AlterQueue seller_queue true) reply.Done ∷ rolls_back 1 12 1

five_go : Plays (after opened_shops four_and_a_commit) five
unfolding waits_at
five_go = refl

-- the count over the history is that of the rows: none after the commit, five after the fifth rollback, one after the turning on
abbrev rows : List Step
rows = four_and_a_commit ++ five

abbrev count_after : ℕ → ℕ
count_after n = rollbacks_in_a_row seller_queue B opened_shops (take n rows)

counts : map count_after (12 ∷ 18 ∷ 21 ∷ 33 ∷ 36 ∷ 37 ∷ 38 ∷ 41 ∷ []) ≡ 2 ∷ 4 ∷ 0 ∷ 4 ∷ 5 ∷ 5 ∷ 0 ∷ 1 ∷ []
unfolding waits_at
counts = refl
