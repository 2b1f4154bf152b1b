-- What a statement's plan makes of a running instance.
use Rattle.std.proofs.Common.{◌≡◌, ℕ, ◌+◌, ◌%◌, ◌^◌, ◌<◌, List, [], ◌∷◌, ◌++◌, refl, ap, sym, subst, inl, inr, ◌∙◌, arith}
use Rattle.std.specs.Prelude.{Option, None, Result, Ok, Err, unwrap_or}
use Rattle.std.proofs.lemmas.List.{append-nil}
use Rattle.sb_log.specs.declared.identifiers.Handle.{Handle}
use Rattle.sb_log.specs.declared.identifiers.Who.{Who}
use Rattle.sb_log.specs.declared.entries.Entry.{Entry}
use Rattle.sb_log.specs.declared.entries.Entry.TheVariants.{Txn}
use Rattle.sb_log.specs.declared.entries.Op.{Op}
use Rattle.sb_log.specs.declared.refusals.Refusal.{Refusal}
use Rattle.sb_log.specs.declared.refusals.Refusal.TheVariants as refusal
use Rattle.sb_log.specs.declared.requests.Reply.{Reply}
use Rattle.sb_log.specs.declared.requests.Request.TheVariants as request
use Rattle.sb_log.specs.declared.requests.Reply.TheVariants as reply
use Rattle.sb_log.specs.declared.entries.Op.TheVariants.{Send}
use Rattle.sb_log.specs.declared.identifiers.SideId.{SideId}
use Rattle.sb_log.specs.declared.steps.Answer.TheVariants as answer
use Rattle.sb_model.specs.Sides.{Bytes}
use Rattle.sb_model.specs.Catalog.{default_name}
use Rattle.sb_model.specs.Instance.{Part, Done, Works, append}
use Rattle.sb_model.specs.Replies.{Planned, send}
use Rattle.sb_model.specs.Statements.{at_once, commit_counts, draws, drew_tx, session_step, txn_entries}
use Rattle.sb_instance.specs.Running.{running, IsDone, committed, Commits, Refuses}
use Rattle.sb_instance.specs.Asked.{Answers, IsSent, Wanted, ask_of, wanted}
use Rattle.sb_instance.specs.declared.stopped.Stopped.{Stopped}
use Rattle.sb_instance.specs.declared.stopped.Stopped.TheVariants as stopped

refused_isnt_planned : (r : Refusal) (w : Wanted) → Err r ≡ Ok w → ⊥
refused_isnt_planned r w e = cc

planned_isnt_refused : (r : Refusal) (w : Wanted) → Ok w ≡ Err r → ⊥
planned_isnt_refused r w e = cc

abbrev ops_in : Result Wanted Refusal → List Op
ops_in (Ok w) = w.ops
ops_in (Err r) = []

abbrev drawn_in : Result Wanted Refusal → ℕ
drawn_in (Ok w) = w.drawn
drawn_in (Err r) = 0

abbrev reply_in : Result Wanted Refusal → Reply
reply_in (Ok w) = w.reply
reply_in (Err r) = reply.Done

abbrev refusal_in : Result Wanted Refusal → Refusal
refusal_in (Ok w) = refusal.OutOfMemory
refusal_in (Err r) = r

abbrev step_of : Who → List Entry → ℕ → ℕ → Planned → Done
step_of who log next tx planned = at_once Works (drew_tx (running who log next tx)) tx planned

-- the step of what a plan wants
abbrev step_by : Who → List Entry → ℕ → ℕ → List Op → ℕ → Reply → Done
step_by who log next tx ops drawn told =
    append Works (drew_tx (running who log next tx)) (txn_entries tx ops) (answer.Replied told)
    (draws (commit_counts (drew_tx (running who log next tx)) ops) drawn)

all_done : (who : Who) (log : List Entry) (next tx : ℕ) (ops : List Op) (told : Reply) → next < 2 ^ 64 → IsDone (step_by who log next tx ops 0 told) (answer.Replied told) (committed (running who log next tx) ops)
all_done who log next tx [] told h =
    let small : (next + 0) % 2 ^ 64 ≡ next = omega arith in
    record {
      answered = refl;
      left = ap (λ (n : ℕ). running who log n ((tx + 1) % 2 ^ 64)) small ∙ ap (λ (l : List Entry). running who l next ((tx + 1) % 2 ^ 64)) (sym (append-nil log));
    }
all_done who log next tx (op ∷ ops) told h =
    let small : (next + 0) % 2 ^ 64 ≡ next = omega arith in
    record { answered = refl; left = ap (λ (n : ℕ). running who (log ++ Txn tx (op ∷ ops) ∷ []) n ((tx + 1) % 2 ^ 64)) small }

done_as : (who : Who) (log : List Entry) (next tx : ℕ) (ops : List Op) (drawn : ℕ) (given : Reply) (wanted : List Op) (told : Reply) → next < 2 ^ 64 → ops ≡ wanted → drawn ≡ 0 → given ≡ told → IsDone (step_by who log next tx ops drawn given) (answer.Replied told) (committed (running who log next tx) wanted)
done_as who log next tx ops drawn given wanted told h o d r =
    subst (λ (x : List Op). IsDone (step_by who log next tx x drawn given) (answer.Replied told) (committed (running who log next tx) wanted)) (sym o)
    (subst (λ (x : ℕ). IsDone (step_by who log next tx wanted x given) (answer.Replied told) (committed (running who log next tx) wanted)) (sym d)
    (subst (λ (x : Reply). IsDone (step_by who log next tx wanted 0 x) (answer.Replied told) (committed (running who log next tx) wanted)) (sym r)
    (all_done who log next tx wanted told h)))

pub done_planned : (who : Who) (log : List Entry) (next tx : ℕ) (planned : Planned) (ops : List Op) (told : Reply) → next < 2 ^ 64 → wanted planned ≡ Ok (record { ops = ops; drawn = 0; reply = told }) → IsDone (step_of who log next tx planned) (answer.Replied told) (committed (running who log next tx) ops)
done_planned who log next tx (Err r) ops told h e = absurd (refused_isnt_planned r _ e)
done_planned who log next tx (Ok plan) ops told h e =
    done_as who log next tx plan.ops plan.drawn plan.reply ops told h (ap ops_in e) (ap drawn_in e) (ap reply_in e)

pub done_refused : (who : Who) (log : List Entry) (next tx : ℕ) (planned : Planned) (r : Refusal) → wanted planned ≡ Err r → IsDone (step_of who log next tx planned) (answer.Refused r None) (drew_tx (running who log next tx))
done_refused who log next tx (Ok plan) r e = absurd (planned_isnt_refused r _ e)
done_refused who log next tx (Err s) r e = record { answered = ap (λ (x : Refusal). answer.Refused x None) (ap refusal_in e); left = refl }

-- a SEND whose checks passed, after its commit
pub send_commits : (who : Who) (log : List Entry) (next tx session now : ℕ) (handle : Handle) (kind : Option Bytes) (body : Option Bytes) (name : Bytes) (side : SideId) (result : Result Reply Refusal) (after : Part) → next < 2 ^ 64 → name ≡ unwrap_or kind default_name → IsSent (send (ask_of log) handle name body) name body (Ok side) → Commits (running who log next tx) (Send side name body ∷ []) reply.Done result after → Answers (running who log next tx) session now (request.Send handle kind body) result after
send_commits who log next tx session now handle kind body name side (Ok given) after h named planned commits =
    let done : IsDone (session_step Works (running who log next tx) session now (request.Send handle kind body)) (answer.Replied reply.Done) (committed (running who log next tx) (Send side name body ∷ [])) =
    done_planned who log next tx (send (ask_of log) handle (unwrap_or kind default_name) body) (Send side name body ∷ []) reply.Done h
    (subst (λ (x : Bytes). wanted (send (ask_of log) handle x body) ≡ Ok (record { ops = Send side name body ∷ []; drawn = 0; reply = reply.Done })) named planned) in
    record { answered = done.answered ∙ ap answer.Replied (sym commits.0); left = done.left ∙ sym commits.1 }
send_commits who log next tx session now handle kind body name side (Err r) after h named planned commits = inl commits

-- a SEND that a check refused
pub send_refuses : (who : Who) (log : List Entry) (next tx session now : ℕ) (handle : Handle) (kind : Option Bytes) (body : Option Bytes) (name : Bytes) (why : Stopped) (r : Refusal) (after : Part) → name ≡ unwrap_or kind default_name → IsSent (send (ask_of log) handle name body) name body (Err why) → Refuses (running who log next tx) why r after → Answers (running who log next tx) session now (request.Send handle kind body) (Err r) after
send_refuses who log next tx session now handle kind body name stopped.OutOfMemory r after named planned refuses = inl refuses
send_refuses who log next tx session now handle kind body name (stopped.Refused said) r after named planned refuses =
    let done : IsDone (session_step Works (running who log next tx) session now (request.Send handle kind body)) (answer.Refused said None) (drew_tx (running who log next tx)) =
    done_refused who log next tx (send (ask_of log) handle (unwrap_or kind default_name) body) said
    (subst (λ (x : Bytes). wanted (send (ask_of log) handle x body) ≡ Err said) named planned) in
    inr (record { answered = done.answered ∙ ap (λ (x : Refusal). answer.Refused x None) (sym refuses.0); left = done.left ∙ sym refuses.1 })

-- the same, of an instance that is known by its parts
pub send_commits_at : (before : Part) (who : Who) (log seen : List Entry) (next tx session now : ℕ) (handle : Handle) (kind : Option Bytes) (body : Option Bytes) (name : Bytes) (side : SideId) (ops : List Op) (result : Result Reply Refusal) (after : Part) → before ≡ running who log next tx → seen ≡ log → next < 2 ^ 64 → name ≡ unwrap_or kind default_name → IsSent (send (ask_of seen) handle name body) name body (Ok side) → ops ≡ Send side name body ∷ [] → Commits before ops reply.Done result after → Answers before session now (request.Send handle kind body) result after
send_commits_at before who log seen next tx session now handle kind body name side ops result after is sees h named planned sent commits =
    subst (λ (p : Part). Answers p session now (request.Send handle kind body) result after) (sym is)
    (send_commits who log next tx session now handle kind body name side result after h named
    (subst (λ (x : List Entry). IsSent (send (ask_of x) handle name body) name body (Ok side)) sees planned)
    (subst (λ (x : List Op). Commits (running who log next tx) x reply.Done result after) sent
    (subst (λ (p : Part). Commits p ops reply.Done result after) is commits)))

pub send_refuses_at : (before : Part) (who : Who) (log seen : List Entry) (next tx session now : ℕ) (handle : Handle) (kind : Option Bytes) (body : Option Bytes) (name : Bytes) (why : Stopped) (r : Refusal) (after : Part) → before ≡ running who log next tx → seen ≡ log → name ≡ unwrap_or kind default_name → IsSent (send (ask_of seen) handle name body) name body (Err why) → Refuses before why r after → Answers before session now (request.Send handle kind body) (Err r) after
send_refuses_at before who log seen next tx session now handle kind body name why r after is sees named planned refuses =
    subst (λ (p : Part). Answers p session now (request.Send handle kind body) (Err r) after) (sym is)
    (send_refuses who log next tx session now handle kind body name why r after named
    (subst (λ (x : List Entry). IsSent (send (ask_of x) handle name body) name body (Err why)) sees planned)
    (subst (λ (p : Part). Refuses p why r after) is refuses))
