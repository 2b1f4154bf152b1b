-- What a RECEIVE makes of a running instance.
use Rattle.std.proofs.Common.{◌≡◌, ℕ, ◌^◌, ◌<◌, List, [], map, refl, ap, sym, subst, inl, inr, ◌∙◌}
use Rattle.std.specs.Prelude.{ℤ, Option, None, Some, Result, Ok, Err, nat_abs, option_map}
use Rattle.std.proofs.lemmas.Simd.{map-map}
use Rattle.sb_log.specs.declared.identifiers.Who.{Who}
use Rattle.sb_log.specs.declared.entries.Entry.{Entry}
use Rattle.sb_log.specs.declared.entries.Op.{Op}
use Rattle.sb_log.specs.declared.messages.ReceivedItem.{ReceivedItem}
use Rattle.sb_log.specs.declared.refusals.Refusal.{Refusal}
use Rattle.sb_log.specs.declared.requests.Filter.{Filter}
use Rattle.sb_log.specs.declared.requests.Reply.{Reply}
use Rattle.sb_log.specs.declared.requests.Reply.TheVariants as reply
use Rattle.sb_log.specs.declared.requests.Request.TheVariants as request
use Rattle.sb_log.specs.declared.steps.Answer.TheVariants as answer
use Rattle.sb_model.specs.Sides.{Bytes}
use Rattle.sb_model.specs.Instance.{Part, Works}
use Rattle.sb_model.specs.Pick.{Pick, pick}
use Rattle.sb_model.specs.Replies.{Planned, given_item, receive, received}
use Rattle.sb_model.specs.Statements.{drew_tx, session_step}
use Rattle.sb_instance.specs.Running.{running, IsDone, committed, Commits, Refuses}
use Rattle.sb_instance.specs.Asked.{Answers, Passes, ask_of, wanted}
use Rattle.sb_instance.specs.Candidates.{given_by, takes}
use Rattle.sb_instance.specs.declared.stopped.Stopped.{Stopped}
use Rattle.sb_instance.specs.declared.stopped.Stopped.TheVariants as stopped
use Rattle.sb_instance.proofs.Stepping.{done_planned, done_refused}

abbrev pick_of : List Entry → Bytes → Option ℤ → Filter → Option Pick
pick_of log q top filter_by = pick log [] 0 q (option_map nat_abs top) filter_by

-- a RECEIVE takes what it gives
received_wants : (log : List Entry) (q : Bytes) (picked : Option Pick) → wanted (received (ask_of log) q picked) ≡ Ok (record { ops = map (takes q) (given_by log picked); drawn = 0; reply = reply.Received (given_by log picked) })
received_wants log q None = refl
received_wants log q (Some p) =
    ap (λ (ops : List Op). Ok (record { ops = ops; drawn = 0; reply = reply.Received (map (given_item (ask_of log)) p.items) })) (sym (map-map (takes q) (given_item (ask_of log)) p.items))

-- a RECEIVE whose checks passed
receive_wants : (log : List Entry) (q : Bytes) (top : Option ℤ) (filter_by : Filter) (items : List ReceivedItem) → receive (ask_of log) q top filter_by ≡ received (ask_of log) q (pick_of log q top filter_by) → items ≡ given_by log (pick_of log q top filter_by) → wanted (receive (ask_of log) q top filter_by) ≡ Ok (record { ops = map (takes q) items; drawn = 0; reply = reply.Received items })
receive_wants log q top filter_by items passes are_given =
    ap wanted passes
    ∙ received_wants log q (pick_of log q top filter_by)
    ∙ ap (λ (xs : List ReceivedItem). Ok (record { ops = map (takes q) xs; drawn = 0; reply = reply.Received xs })) (sym are_given)

-- after its commit
receive_commits : (who : Who) (log : List Entry) (next tx session now : ℕ) (q : Bytes) (top : Option ℤ) (filter_by : Filter) (items : List ReceivedItem) (ops : List Op) (result : Result Reply Refusal) (after : Part) → next < 2 ^ 64 → wanted (receive (ask_of log) q top filter_by) ≡ Ok (record { ops = ops; drawn = 0; reply = reply.Received items }) → Commits (running who log next tx) ops (reply.Received items) result after → Answers (running who log next tx) session now (request.Receive q top filter_by) result after
receive_commits who log next tx session now q top filter_by items ops (Ok given) after h wants commits =
    let done : IsDone (session_step Works (running who log next tx) session now (request.Receive q top filter_by)) (answer.Replied (reply.Received items)) (committed (running who log next tx) ops) =
    done_planned who log next tx (receive (ask_of log) q top filter_by) ops (reply.Received items) h wants in
    record { answered = done.answered ∙ ap answer.Replied (sym commits.0); left = done.left ∙ sym commits.1 }
receive_commits who log next tx session now q top filter_by items ops (Err r) after h wants commits = inl commits

-- a RECEIVE that a check refused
receive_refuses : (who : Who) (log : List Entry) (next tx session now : ℕ) (q : Bytes) (top : Option ℤ) (filter_by : Filter) (rest : Planned) (why : Stopped) (r : Refusal) (after : Part) → Passes (receive (ask_of log) q top filter_by) rest (Err why) → Refuses (running who log next tx) why r after → Answers (running who log next tx) session now (request.Receive q top filter_by) (Err r) after
receive_refuses who log next tx session now q top filter_by rest stopped.OutOfMemory r after stops refuses = inl refuses
receive_refuses who log next tx session now q top filter_by rest (stopped.Refused said) r after stops refuses =
    let done : IsDone (session_step Works (running who log next tx) session now (request.Receive q top filter_by)) (answer.Refused said None) (drew_tx (running who log next tx)) =
    done_refused who log next tx (receive (ask_of log) q top filter_by) said (ap wanted stops) in
    inr (record { answered = done.answered ∙ ap (λ (x : Refusal). answer.Refused x None) (sym refuses.0); left = done.left ∙ sym refuses.1 })

-- the same, of an instance that is known by its parts
pub receive_commits_at : (before : Part) (who : Who) (log seen : List Entry) (next tx session now : ℕ) (q : Bytes) (top : Option ℤ) (filter_by : Filter) (items : List ReceivedItem) (result : Result Reply Refusal) (after : Part) → running who log next tx ≡ before → seen ≡ log → next < 2 ^ 64 → receive (ask_of seen) q top filter_by ≡ received (ask_of seen) q (pick_of seen q top filter_by) → items ≡ given_by seen (pick_of seen q top filter_by) → Commits before (map (takes q) items) (reply.Received items) result after → Answers before session now (request.Receive q top filter_by) result after
receive_commits_at before who log seen next tx session now q top filter_by items result after is sees h passes are_given commits =
    let at_seen : before ≡ running who seen next tx = sym is ∙ ap (λ (l : List Entry). running who l next tx) (sym sees) in
    subst (λ (p : Part). Answers p session now (request.Receive q top filter_by) result after) (sym at_seen)
    (receive_commits who seen next tx session now q top filter_by items (map (takes q) items) result after h (receive_wants seen q top filter_by items passes are_given)
    (subst (λ (p : Part). Commits p (map (takes q) items) (reply.Received items) result after) at_seen commits))

pub receive_refuses_at : (before : Part) (who : Who) (log seen : List Entry) (next tx session now : ℕ) (q : Bytes) (top : Option ℤ) (filter_by : Filter) (rest : Planned) (why : Stopped) (r : Refusal) (after : Part) → running who log next tx ≡ before → seen ≡ log → Passes (receive (ask_of seen) q top filter_by) rest (Err why) → Refuses before why r after → Answers before session now (request.Receive q top filter_by) (Err r) after
receive_refuses_at before who log seen next tx session now q top filter_by rest why r after is sees stops refuses =
    let at_seen : before ≡ running who seen next tx = sym is ∙ ap (λ (l : List Entry). running who l next tx) (sym sees) in
    subst (λ (p : Part). Answers p session now (request.Receive q top filter_by) (Err r) after) (sym at_seen)
    (receive_refuses who seen next tx session now q top filter_by rest why r after stops
    (subst (λ (p : Part). Refuses p why r after) at_seen refuses))
