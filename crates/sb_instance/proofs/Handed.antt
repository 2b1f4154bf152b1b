-- Messages that are handed over, by their numbers.
use Rattle.std.proofs.Common.{◌≡◌, ℕ, ◌+◌, ◌%◌, ◌^◌, ◌<◌, List, [], ◌∷◌, ◌++◌, length, get_or, map, drop, refl, ap, sym, subst, ◌∙◌, arith}
use Rattle.std.specs.Prelude.{zero, suc, Option, Some, None, Result, Ok, Err, IfOk, flat_map, is_some}
use Rattle.sb_log.specs.declared.entries.Entry.{Entry}
use Rattle.sb_log.specs.declared.identifiers.SideId.{SideId}
use Rattle.sb_log.specs.declared.identifiers.Who.{Who}
use Rattle.sb_log.specs.declared.messages.Data.{Data}
use Rattle.sb_log.specs.declared.steps.Verdict.{Verdict}
use Rattle.sb_log.specs.declared.steps.Verdict.TheVariants.{New, Next, Repeat, Early, Gone, NotHere, AckNew, AckOld}
use Rattle.sb_model.specs.Acceptance.{accepted_entry, instance_id, verdict}
use Rattle.sb_model.specs.Instance.{Part, Works}
use Rattle.sb_model.specs.Sides.{id}
use Rattle.sb_model.specs.Steps.{accept_data, data_entry, to_hand_over, verdict_told}
use Rattle.sb_instance.specs.Running.{running, IsDone}
use Rattle.sb_instance.specs.Handing.{HandsOver, carried, pending_in, taken_in}
use Rattle.sb_scan.specs.declared.making.MadeSide.{MadeSide}
use Rattle.sb_scan.specs.Seen.{making_of}
use Rattle.std.proofs.lemmas.List.{at_drop_more}

-- the definition, over the log alone
pub carried_is : (p : Part) (s : SideId) (n : ℕ) → to_hand_over p s n ≡ carried p.who p.log s n
carried_is p s zero = refl
carried_is p s (suc k) = refl

pub none_at_zero : (who : Who) (log : List Entry) (s : SideId) (n : ℕ) → n ≡ 0 → None ≡ carried who log s n
none_at_zero who log s n z = ap (carried who log s) (sym z)

-- by cases on the answer
pub at_next : {E : Type 0} (who : Who) (log : List Entry) (s : SideId) (n k : ℕ) (r : Result (Option Data) E) → suc k ≡ n → IfOk r (λ message. message ≡ carried who log s (suc k)) → IfOk r (λ message. message ≡ carried who log s n)
at_next who log s n k (Ok found) e h = h ∙ ap (carried who log s) e
at_next who log s n k (Err x) e h = tt

pub is_at_next : (who : Who) (log : List Entry) (s : SideId) (n k : ℕ) → suc k ≡ n → is_some (carried who log s (suc k)) ≡ is_some (carried who log s n)
is_at_next who log s n k e = ap (λ (m : ℕ). is_some (carried who log s m)) e

done_taken : (who : Who) (log : List Entry) (next tx : ℕ) (d : Data) (v : Verdict) → IsDone (accept_data Works (running who log next tx) (running who log next tx) d v) (verdict_told v) (taken_in (running who log next tx) d v)
done_taken who log next tx d New = record { answered = refl; left = refl }
done_taken who log next tx d Next = record { answered = refl; left = refl }
done_taken who log next tx d Repeat = record { answered = refl; left = refl }
done_taken who log next tx d Early = record { answered = refl; left = refl }
done_taken who log next tx d Gone = record { answered = refl; left = refl }
done_taken who log next tx d (NotHere row) = record { answered = refl; left = refl }
done_taken who log next tx d AckNew = record { answered = refl; left = refl }
done_taken who log next tx d AckOld = record { answered = refl; left = refl }

-- a message that was found, judged and taken in is handed over
pub hands_over : (before : Part) (who : Who) (log seen : List Entry) (next tx : ℕ) (s : SideId) (n : ℕ) (d : Data) (v : Verdict) (after : Part) → running who log next tx ≡ before → seen ≡ log → Some d ≡ carried who seen s n → v ≡ verdict who seen d → after ≡ taken_in before d v → HandsOver before (to_hand_over before s n) v after
hands_over before who log seen next tx s n d v after is sees found judged taken =
    subst (λ (p : Part). (after ≡ taken_in p d v) → HandsOver p (to_hand_over p s n) v after) is (known log seen sees found judged) taken
  where
    known : (l x : List Entry) → x ≡ l → Some d ≡ carried who x s n → v ≡ verdict who x d → (after ≡ taken_in (running who l next tx) d v) → HandsOver (running who l next tx) (to_hand_over (running who l next tx) s n) v after
    known l x e f j t =
        let done : IsDone (accept_data Works (running who l next tx) (running who l next tx) d v) (verdict_told v) (taken_in (running who l next tx) d v) = done_taken who l next tx d v in
        subst (λ (o : Option Data). HandsOver (running who l next tx) o v after)
        (f ∙ ap (λ (y : List Entry). carried who y s n) e ∙ sym (carried_is (running who l next tx) s n))
        (j ∙ ap (λ (y : List Entry). verdict who y d) e, record { answered = done.answered; left = done.left ∙ sym t })

-- the entry that an accepted message adds
pub entry_added : (who : Who) (log : List Entry) (next tx : ℕ) (d : Data) → next < 2 ^ 64 → accepted_entry log (id ((instance_id who).0 + next)) (id ((instance_id who).0 + (next + 1) % 2 ^ 64)) d ≡ data_entry (running who log next tx) d
entry_added who log next tx d h =
    let small : next ≡ (next + 0) % 2 ^ 64 = omega arith in
    ap (λ (n : ℕ). accepted_entry log (id ((instance_id who).0 + n)) (id ((instance_id who).0 + (next + 1) % 2 ^ 64)) d) small

-- what is left where it was added
pub entry_accepted : (before : Part) (who : Who) (log seen later : List Entry) (next tx : ℕ) (d : Data) (e : Entry) → running who log next tx ≡ before → seen ≡ log → next < 2 ^ 64
    → e ≡ accepted_entry seen (id ((instance_id who).0 + next)) (id ((instance_id who).0 + (next + 1) % 2 ^ 64)) d → later ≡ log ++ e ∷ [] → running who later next tx ≡ taken_in before d Next
entry_accepted before who log seen later next tx d e is sees small made written =
    subst (λ (p : Part). running who later next tx ≡ taken_in p d Next) is
    (ap (λ (l : List Entry). running who l next tx)
    (written ∙ ap (λ (x : Entry). log ++ x ∷ [])
    (made ∙ ap (λ (l : List Entry). accepted_entry l (id ((instance_id who).0 + next)) (id ((instance_id who).0 + (next + 1) % 2 ^ 64)) d) sees ∙ entry_added who log next tx d small)))

-- one side more
pub pending_step : (who : Who) (log : List Entry) (known : List MadeSide) (i : ℕ) (m : MadeSide) → i < length known → m ≡ get_or known i m → flat_map (pending_in who log) (map making_of (drop i known)) ≡ pending_in who log (making_of m) ++ flat_map (pending_in who log) (map making_of (drop (i + 1) known))
pending_step who log known i m h at =
    at_drop_more (λ (ms : List MadeSide). flat_map (pending_in who log) (map making_of ms)) known i m h
    ∙ ap (λ (x : MadeSide). pending_in who log (making_of x) ++ flat_map (pending_in who log) (map making_of (drop (i + 1) known))) (sym at)
