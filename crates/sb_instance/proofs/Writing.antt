-- What a definition makes of a running instance.
use Rattle.std.proofs.Common.{◌≡◌, ◌⊎◌, ℕ, List, [], ◌∷◌, ◌++◌, refl, ap, sym, subst, inl, inr, ◌∙◌}
use Rattle.std.specs.Prelude.{Option, Some, None, IsSome, IsTrue, Result, Ok, Err}
use Rattle.sb_log.specs.declared.definitions.Ddl.{Ddl}
use Rattle.sb_log.specs.declared.entries.Entry.{Entry}
use Rattle.sb_log.specs.declared.entries.Entry.TheVariants.{Defined}
use Rattle.sb_log.specs.declared.identifiers.Who.{Who}
use Rattle.sb_log.specs.declared.refusals.Refusal.{Refusal}
use Rattle.sb_log.specs.declared.refusals.Refusal.TheVariants as refusal
use Rattle.sb_log.specs.declared.requests.Reply.{Reply}
use Rattle.sb_log.specs.declared.requests.Reply.TheVariants as reply
use Rattle.sb_log.specs.declared.requests.Request.TheVariants as request
use Rattle.sb_log.specs.declared.steps.Answer.TheVariants as answer
use Rattle.sb_model.specs.Sides.{Bytes}
use Rattle.sb_model.specs.Catalog.{find_queue}
use Rattle.sb_model.specs.Definitions.{define_refusal}
use Rattle.sb_model.specs.Instance.{Part, Works}
use Rattle.sb_model.specs.Statements.{define}
use Rattle.sb_catalog.specs.Known.{Known, is_new, log_of}
use Rattle.sb_catalog.specs.Of.{IsOf}
use Rattle.sb_catalog.proofs.Judged.{accepted_is_new}
use Rattle.sb_catalog.proofs.Known.{refusal_of_log}
use Rattle.sb_instance.specs.Asked.{Answers}
use Rattle.sb_instance.specs.Running.{running, IsDone, Writes}

-- the instance with one more entry
abbrev written : Part → Entry → Part
written p e = record p { log = p.log ++ e ∷ [] }

refused_isnt_none : (r : Refusal) → Some r ≡ None → ⊥
refused_isnt_none r e = cc

same_refusal : (r s : Refusal) → Some r ≡ Some s → r ≡ s
same_refusal r s e = cc

define_done : (who : Who) (log : List Entry) (next tx : ℕ) (ddl : Ddl) (o : Option Refusal) → o ≡ None
    → IsDone (define Works (running who log next tx) ddl o) (answer.Replied reply.Done) (written (running who log next tx) (Defined ddl))
define_done who log next tx ddl None e = record { answered = refl; left = refl }
define_done who log next tx ddl (Some r) e = absurd (refused_isnt_none r e)

define_denied : (who : Who) (log : List Entry) (next tx : ℕ) (ddl : Ddl) (o : Option Refusal) (r : Refusal) → o ≡ Some r
    → IsDone (define Works (running who log next tx) ddl o) (answer.Refused r None) (running who log next tx)
define_denied who log next tx ddl None r e = absurd (refused_isnt_none r (sym e))
define_denied who log next tx ddl (Some s) r e = record { answered = ap (λ (x : Refusal). answer.Refused x None) (same_refusal s r e); left = refl }

-- one that isn't refused is written
pub define_writes : (before : Part) (who : Who) (log : List Entry) (next tx session now : ℕ) (ddl : Ddl) (result : Result Reply Refusal) (after : Part)
    → running who log next tx ≡ before → define_refusal log ddl ≡ None → Writes before (Defined ddl) result after → Answers before session now (request.Define ddl) result after
define_writes before who log next tx session now ddl result after is accepted writes =
    subst (λ (p : Part). Writes p (Defined ddl) result after → Answers p session now (request.Define ddl) result after) is (by result) writes
  where
    by : (given : Result Reply Refusal) → Writes (running who log next tx) (Defined ddl) given after → Answers (running who log next tx) session now (request.Define ddl) given after
    by (Ok given) wrote =
        let done : IsDone (define Works (running who log next tx) ddl (define_refusal log ddl)) (answer.Replied reply.Done) (written (running who log next tx) (Defined ddl)) =
        define_done who log next tx ddl (define_refusal log ddl) accepted in
        record { answered = done.answered ∙ ap answer.Replied (sym wrote.0); left = done.left ∙ sym wrote.1 }
    by (Err r) wrote = inl wrote

-- one that is refused changes nothing
pub define_refuses : (before : Part) (who : Who) (log : List Entry) (next tx session now : ℕ) (ddl : Ddl) (r : Refusal) (after : Part)
    → running who log next tx ≡ before → after ≡ before → (r ≡ refusal.OutOfMemory) ⊎ (define_refusal log ddl ≡ Some r) → Answers before session now (request.Define ddl) (Err r) after
define_refuses before who log next tx session now ddl r after is same (inl memory) = inl (memory, same)
define_refuses before who log next tx session now ddl r after is same (inr denied) =
    subst (λ (p : Part). after ≡ p → Answers p session now (request.Define ddl) (Err r) after) is (λ left. inr (by left)) same
  where
    by : after ≡ running who log next tx → IsDone (define Works (running who log next tx) ddl (define_refusal log ddl)) (answer.Refused r None) after
    by left =
        let done : IsDone (define Works (running who log next tx) ddl (define_refusal log ddl)) (answer.Refused r None) (running who log next tx) =
        define_denied who log next tx ddl (define_refusal log ddl) r denied in
        record { answered = done.answered; left = done.left ∙ sym left }

-- what the catalog says of it is what the log says
pub accepted_here : (before : Part) (who : Who) (log : List Entry) (next tx : ℕ) (k : Known) (ddl : Ddl) → running who log next tx ≡ before → IsOf log k → define_refusal (log_of k) ddl ≡ None → define_refusal before.log ddl ≡ None
accepted_here before who log next tx k ddl is h accepted = ap (λ (p : Part). define_refusal p.log ddl) (sym is) ∙ sym (refusal_of_log log k h ddl) ∙ accepted

pub refused_here : (log : List Entry) (k : Known) (ddl : Ddl) (r : Refusal) → IsOf log k → (r ≡ refusal.OutOfMemory) ⊎ (define_refusal (log_of k) ddl ≡ Some r) → (r ≡ refusal.OutOfMemory) ⊎ (define_refusal log ddl ≡ Some r)
refused_here log k ddl r h (inl memory) = inl memory
refused_here log k ddl r h (inr denied) = inr (sym (refusal_of_log log k h ddl) ∙ denied)

-- so is the log of the instance
pub new_inside : (before : Part) (who : Who) (log : List Entry) (next tx : ℕ) (ddl : Ddl) → running who log next tx ≡ before → define_refusal before.log ddl ≡ None → IsTrue (is_new log ddl)
new_inside before who log next tx ddl is accepted = accepted_is_new log ddl (ap (λ (p : Part). define_refusal p.log ddl) is ∙ accepted)

pub queue_inside : (before : Part) (who : Who) (log : List Entry) (next tx : ℕ) (q : Bytes) → running who log next tx ≡ before → IsSome (find_queue before.log q) → IsSome (find_queue log q)
queue_inside before who log next tx q is there = subst (λ (p : Part). IsSome (find_queue p.log q)) (sym is) there
