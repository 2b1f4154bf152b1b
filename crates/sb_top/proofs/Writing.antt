-- How a transcript grows by a step.
use Rattle.std.proofs.Common.{◌≡◌, ℕ, ◌+◌, ◌<◌, ◌≤◌, List, [], ◌∷◌, ◌++◌, length, get_or, take, drop, Option, arith, ap, sym, ◌∙◌, subst, append_assoc, append-nil, take-append-drop, refl}
use Rattle.std.specs.Io.KnownBytes.{Appends}
use Rattle.std.proofs.KnownBytes.{Appends-trans}
use Rattle.std.proofs.lemmas.List.{take_more, take_all, drop_at, length-append}
use Rattle.std.proofs.Math.Seq.{take-add, take-append-add}
use Rattle.sb_show.specs.Transcript.{transcript, text_of_step}
use Rattle.sb_log.specs.declared.steps.Step.{Step}
use Rattle.sb_model.specs.Instance.{Part}
use Rattle.sb_top.specs.Runs.{GoesOn}
use Rattle.sb_top.specs.Writing.{IsWritten}

pub text-append : (xs ys : List Step) → transcript (xs ++ ys) ≡ transcript xs ++ transcript ys
text-append [] ys = refl
text-append (x ∷ xs) ys = ap (λ bs. text_of_step x ++ bs) (text-append xs ys) ∙ sym (append_assoc (text_of_step x) (transcript xs) (transcript ys))

text-one : (x : Step) → transcript (x ∷ []) ≡ text_of_step x
text-one x = append-nil (text_of_step x)

pub text-more : (steps : List Step) (i : ℕ) (step : Step) → i < length steps → step ≡ get_or steps i step → transcript (take (i + 1) steps) ≡ transcript (take i steps) ++ text_of_step step
text-more steps i step h at =
    ap transcript (take_more steps i step h ∙ ap (λ s. take i steps ++ s ∷ []) (sym at)) ∙ text-append (take i steps) (step ∷ []) ∙ ap (λ bs. transcript (take i steps) ++ bs) (text-one step)

-- one more step was written whole
pub whole_more : (a b c : Option (List ℕ)) (steps : List Step) (i : ℕ) (step : Step) → i < length steps → step ≡ get_or steps i step → Appends a b (transcript (take i steps)) → Appends b c (text_of_step step) → Appends a c (transcript (take (i + 1) steps))
whole_more a b c steps i step h at p q =
    subst (Appends a c) (sym (text-more steps i step h at)) (Appends-trans a b c (transcript (take i steps)) (text_of_step step) p q)

-- all steps were written
pub whole_all : (a b : Option (List ℕ)) (steps : List Step) (i : ℕ) → length steps ≤ i → Appends a b (transcript (take i steps)) → Appends a b (transcript steps)
whole_all a b steps i h p = subst (λ xs. Appends a b (transcript xs)) (take_all i steps h) p

text-rest : (steps : List Step) (i : ℕ) → transcript (take i steps) ++ transcript (drop i steps) ≡ transcript steps
text-rest steps i = sym (text-append (take i steps) (drop i steps)) ∙ ap transcript (take-append-drop i steps)

-- no more than these whole steps was written
pub none_of_next : (a b : Option (List ℕ)) (steps : List Step) (i : ℕ) → i ≤ length steps → Appends a b (transcript (take i steps)) → IsWritten a b steps i
none_of_next a b steps i h p =
    record { bytes = transcript (take i steps); appended = p; within = h; whole_steps = ([], append-nil (transcript (take i steps))); part = (transcript (drop i steps), text-rest steps i) }

-- a part of the next step was written
pub part_of_next : (a b c : Option (List ℕ)) (steps : List Step) (i n : ℕ) (step : Step) → i < length steps → step ≡ get_or steps i step → Appends a b (transcript (take i steps)) → Appends b c (take n (text_of_step step)) → IsWritten a c steps i
part_of_next a b c steps i n step h at p q =
    let front = transcript (take i steps) in
    let next = text_of_step step in
    let tail = transcript (drop (i + 1) steps) in
    let joined : (front ++ take n next) ++ (drop n next ++ tail) ≡ transcript steps =
    append_assoc front (take n next) (drop n next ++ tail)
    ∙ ap (λ bs. front ++ bs) (sym (append_assoc (take n next) (drop n next) tail))
    ∙ ap (λ bs. front ++ (bs ++ tail)) (take-append-drop n next)
    ∙ sym (append_assoc front next tail)
    ∙ ap (λ bs. bs ++ tail) (sym (text-more steps i step h at))
    ∙ text-rest steps (i + 1) in
    record { bytes = front ++ take n next; appended = Appends-trans a b c front (take n next) p q; within = omega arith; whole_steps = (take n next, refl); part = (drop n next ++ tail, joined) }

-- some more bytes were written
pub bytes_more : (a b c : Option (List ℕ)) (at n : ℕ) (bs : List ℕ) → Appends a b (take at bs) → Appends b c (take n (drop at bs)) → Appends a c (take (at + n) bs)
bytes_more a b c at n bs p q = subst (Appends a c) (sym (take-add at n bs)) (Appends-trans a b c (take at bs) (take n (drop at bs)) p q)

-- the steps behind those that were written before were written too
pub written_on : (a b c : Option (List ℕ)) (h more : List Step) → Appends a b (transcript h) → Appends b c (transcript (drop (length h) (h ++ more))) → Appends a c (transcript (h ++ more))
written_on a b c h more p q =
    let e : drop (length h) (h ++ more) ≡ more = drop_at h more (length h) refl in
    subst (Appends a c) (sym (text-append h more)) (Appends-trans a b c (transcript h) (transcript more) p (subst (λ xs. Appends b c (transcript xs)) e q))

-- so many of them were written whole
pub written_part : (a b c : Option (List ℕ)) (h more : List Step) (k : ℕ) → Appends a b (transcript h) → IsWritten b c (drop (length h) (h ++ more)) k → IsWritten a c (h ++ more) (length h + k)
written_part a b c h more k p old =
    let e : drop (length h) (h ++ more) ≡ more = drop_at h more (length h) refl in
    let q : IsWritten b c more k = subst (λ xs. IsWritten b c xs k) e old in
    let front : transcript (take (length h + k) (h ++ more)) ≡ transcript h ++ transcript (take k more) =
    ap transcript (take-append-add h more k) ∙ text-append h (take k more) in
    record {
      bytes = transcript h ++ q.bytes;
      appended = Appends-trans a b c (transcript h) q.bytes p q.appended;
      within = omega (arith, length-append h more, q.within);
      whole_steps = (q.whole_steps.0, ap (λ bs. bs ++ q.whole_steps.0) front ∙ append_assoc (transcript h) (transcript (take k more)) q.whole_steps.0 ∙ ap (λ bs. transcript h ++ bs) q.whole_steps.1);
      part = (q.part.0, append_assoc (transcript h) q.bytes q.part.0 ∙ ap (λ bs. transcript h ++ bs) q.part.1 ∙ sym (text-append h more));
    }

-- all of them were written whole
pub all_written : (a b : Option (List ℕ)) (h : List Step) (k : ℕ) → k ≡ length h → Appends a b (transcript h) → IsWritten a b h k
all_written a b h k e p =
    record { bytes = transcript h; appended = p; within = omega (arith, e); whole_steps = ([], append-nil (transcript (take k h)) ∙ ap transcript (take_all k h (omega (arith, e)))); part = ([], append-nil (transcript h)) }

-- a command went on with the history, and its steps were written
pub turn_whole : (a b c : Option (List ℕ)) (p q : Part) (h longer rest : List Step) (w : ℕ) (P : List Step → Type 0) → GoesOn p h q longer P → Appends a b (transcript h) → w ≡ length h → rest ≡ drop w longer → Appends b c (transcript rest) → Appends a c (transcript longer)
turn_whole a b c p q h longer rest w P goes so_far at is more =
    subst (λ xs. Appends a c (transcript xs)) (sym goes.longer_is)
    (written_on a b c h goes.more so_far (subst (λ xs. Appends b c (transcript xs)) (is ∙ ap (λ n. drop n longer) at ∙ ap (drop (length h)) goes.longer_is) more))

pub turn_part : (a b c : Option (List ℕ)) (p q : Part) (h longer rest : List Step) (w k : ℕ) (P : List Step → Type 0) → GoesOn p h q longer P → Appends a b (transcript h) → w ≡ length h → rest ≡ drop w longer → IsWritten b c rest k → IsWritten a c longer (w + k)
turn_part a b c p q h longer rest w k P goes so_far at is more =
    subst (λ n. IsWritten a c longer (n + k)) (sym at)
    (subst (λ xs. IsWritten a c xs (length h + k)) (sym goes.longer_is)
    (written_part a b c h goes.more k so_far (subst (λ xs. IsWritten b c xs k) (is ∙ ap (λ n. drop n longer) at ∙ ap (drop (length h)) goes.longer_is) more)))
