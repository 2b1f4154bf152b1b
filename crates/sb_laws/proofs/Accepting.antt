-- An accepted frame and an acknowledgement keep the logs linked.
use Rattle.std.proofs.Common.{◌≡◌, ℕ, zero, suc, Bool, true, false, List, [], ◌∷◌, ◌++◌, ◌+◌, ◌-◌, Option, Some, None, refl, sym, ◌∙◌, ap, subst, length, arith, cond, inl, inr, append-nil}
use Rattle.std.specs.Prelude.{◌||◌, slice_get, ◌⊎◌, not, IsTrue, MatchBool, ◌&&◌, nat_le, nat_lt, is_none}
use Rattle.std.specs.Option.{option_map_or}
use Rattle.std.specs.List.{AllByRecursion}
use Rattle.std.proofs.lemmas.Bool.Decides.{nat_tests}
use Rattle.std.proofs.lemmas.Option.{same_Some}
use Rattle.sb_log.specs.declared.identifiers.Handle.{Handle}
use Rattle.sb_log.specs.declared.identifiers.SideId.{SideId}
use Rattle.sb_log.specs.declared.identifiers.Who.{Who}
use Rattle.sb_log.specs.declared.entries.Entry.{Entry}
use Rattle.sb_log.specs.declared.entries.Entry.TheVariants.{Accepted, Acked}
use Rattle.sb_log.specs.declared.entries.NewSide.{NewSide}
use Rattle.sb_log.specs.declared.messages.Content.{Content}
use Rattle.sb_log.specs.declared.messages.Data.{Data}
use Rattle.sb_log.specs.declared.messages.Ack.{Ack}
use Rattle.sb_log.specs.declared.steps.Verdict.{Verdict}
use Rattle.sb_log.specs.declared.steps.Verdict.TheVariants.{New, Next, Repeat, Early, Gone, NotHere, AckNew, AckOld}
use Rattle.sb_model.specs.Sides.{has_side, same_side, same_id, partner, is_home}
use Rattle.sb_model.specs.Sides.{Making, making, makings, made, ops_of}
use Rattle.sb_model.specs.Messages.{accepted, contents_accepted, is_closed, acks, acked, is_closed_by_ack}
use Rattle.sb_model.specs.Catalog.{queue_is_on, find_contract, find_service}
use Rattle.sb_model.specs.Messages.{numbered}
use Rattle.sb_model.specs.Acceptance.{ack_verdict, never_sent, receiving_queue, offers, is_type_refused, verdict, is_for_other, makes_side, receiver, accepted_entry, instance_id}
use Rattle.sb_model.specs.Frames.{sent_header}
use Rattle.sb_model.specs.Wire.{Wired}
use Rattle.sb_model.specs.Links.{Logs, Linked, IsSound, HasSide, CameFrom, TargetIsBegun, AckIsFrom, IsSent, IsAcked, TakenInOrder, BeginsHere, MakesTarget, EndsForGood}
use Rattle.sb_laws.proofs.Growth.{contents_accepted-append, ops_of-append}
use Rattle.sb_laws.proofs.Sides.{sides_same, partner_twice, ids_same}
use Rattle.sb_laws.proofs.Grow.{Grown, made_grown, sent_kept, acked_kept, all_append}
use Rattle.sb_laws.proofs.Delivered.{made_has_side, made_side, initiator_home}
use Rattle.sb_laws.proofs.Linking.{Adds}

abbrev pub accepts : Verdict → Bool
accepts New = true
accepts Next = true
accepts _ = false

peel : (b : Bool) (v w : Verdict) → accepts v ≡ false → accepts (cond b v w) ≡ true → (b ≡ false) × (accepts w ≡ true)
peel true v w e h = absurd (clash (sym e ∙ h))
  where
    clash : false ≡ true → ⊥
    clash g = cc
peel false v w e h = (refl, h)

-- what an accepting verdict says of the frame
pub record IsAccepting (y : Who) (log : List Entry) (d : Data) : Type 0 where
  pub for_here : is_for_other y d ≡ false
  pub not_initiator : (makes_side log d && (receiver d).initiator) ≡ false
  pub not_closed : is_closed log (receiver d) ≡ false
  pub number : d.number ≡ accepted log (receiver d) + 1
  pub service : (makes_side log d && is_none (find_service log d.header.to_service)) ≡ false

next_number : (n m : ℕ) → nat_le n m ≡ false → nat_lt (m + 1) n ≡ false → n ≡ m + 1
next_number n m e f = grind (arith, nat_tests)

pub is_accepting : (y : Who) (log : List Entry) (d : Data) → accepts (verdict y log d) ≡ true → IsAccepting y log d
is_accepting y log d h =
    let p1 = peel (is_for_other y d) (NotHere 1) _ refl h in
    let p2 = peel (makes_side log d && (receiver d).initiator) (NotHere 2) _ refl p1.1 in
    let p3 = peel (is_closed log (receiver d)) Gone _ refl p2.1 in
    let p4 = peel (nat_le d.number (accepted log (receiver d))) Repeat _ refl p3.1 in
    let p5 = peel (nat_lt (accepted log (receiver d) + 1) d.number) Early _ refl p4.1 in
    let p6 = peel (makes_side log d && is_none (find_service log d.header.to_service)) (NotHere 3) _ refl p5.1 in
    record {
      for_here = p1.0;
      not_initiator = p2.0;
      not_closed = p3.0;
      number = next_number d.number (accepted log (receiver d)) p4.0 p5.0;
      service = p6.0;
    }

past_row : (b : Bool) (v w : Verdict) → (v ≡ Next → ⊥) → cond b v w ≡ Next → w ≡ Next
past_row true v w f e = absurd (f e)
past_row false v w f e = e

-- where the side is made the answer is New
pub next_makes_none : (y : Who) (log : List Entry) (d : Data) → verdict y log d ≡ Next → makes_side log d ≡ false
next_makes_none y log d e =
    let p1 = past_row (is_for_other y d) (NotHere 1) _ (λ f. not_next (NotHere 1) refl f) e in
    let p2 = past_row (makes_side log d && (receiver d).initiator) (NotHere 2) _ (λ f. not_next (NotHere 2) refl f) p1 in
    let p3 = past_row (is_closed log (receiver d)) Gone _ (λ f. not_next Gone refl f) p2 in
    let p4 = past_row (nat_le d.number (accepted log (receiver d))) Repeat _ (λ f. not_next Repeat refl f) p3 in
    let p5 = past_row (nat_lt (accepted log (receiver d) + 1) d.number) Early _ (λ f. not_next Early refl f) p4 in
    let p6 = past_row (makes_side log d && is_none (find_service log d.header.to_service)) (NotHere 3) _ (λ f. not_next (NotHere 3) refl f) p5 in
    let p7 = past_row (not (option_map_or (queue_is_on log) (receiving_queue log d) false)) (NotHere 4) _ (λ f. not_next (NotHere 4) refl f) p6 in
    let p8 = past_row (is_none (find_contract log d.header.contract) || (makes_side log d && not (offers log d))) (NotHere 5) _ (λ f. not_next (NotHere 5) refl f) p7 in
    let p9 = past_row (is_type_refused log d.side d.header.contract d.content) (NotHere 6) _ (λ f. not_next (NotHere 6) refl f) p8 in
    last (makes_side log d) p9
  where
    is_next : Verdict → Bool
    is_next Next = true
    is_next _ = false

    not_next : (v : Verdict) → is_next v ≡ false → v ≡ Next → ⊥
    not_next v f g = absurd (clash (sym (ap is_next g) ∙ f))
      where
        clash : true ≡ false → ⊥
        clash h = cc

    last : (b : Bool) → cond b New Next ≡ Next → b ≡ false
    last true f = absurd (not_next New refl f)
    last false f = refl

-- an acknowledgement that counts is of a side that is there
pub ack_there : (y : Who) (log : List Entry) (k : Ack) → ack_verdict y log k ≡ AckNew → has_side log k.side ≡ true
ack_there y log k e = by_id (same_id k.to (instance_id y)) e
  where
    counts : Verdict → Bool
    counts AckNew = true
    counts _ = false

    not_new : {P : Type 0} (v : Verdict) → counts v ≡ false → v ≡ AckNew → P
    not_new v f g = absurd (clash (sym (ap counts g) ∙ f))
      where
        clash : true ≡ false → ⊥
        clash h = cc

    by_side : (b : Bool) → cond (not b) (NotHere 2) (cond (never_sent log k) (NotHere 7) (cond (nat_lt (acked log k.side) k.upto || (k.closed && not (is_closed_by_ack log k.side))) AckNew AckOld)) ≡ AckNew → b ≡ true
    by_side true f = refl
    by_side false f = not_new (NotHere 2) refl f

    by_id : (b : Bool) → cond (not b) (NotHere 1) (cond (not (has_side log k.side)) (NotHere 2)
        (cond (never_sent log k) (NotHere 7) (cond (nat_lt (acked log k.side) k.upto || (k.closed && not (is_closed_by_ack log k.side))) AckNew AckOld))) ≡ AckNew → has_side log k.side ≡ true
    by_id true f = by_side (has_side log k.side) f
    by_id false f = not_new (NotHere 1) refl f

matched_by : (b : Bool) (P Q : Type 0) → (b ≡ true → P) → (b ≡ false → Q) → MatchBool b P Q
matched_by true P Q f g = f refl
matched_by false P Q f g = g refl

not_false : (b : Bool) → not b ≡ false → b ≡ true
not_false true e = refl
not_false false e = cc

not_true_is : (b : Bool) → not b ≡ true → b ≡ false
not_true_is true e = cc
not_true_is false e = refl

-- the place of an element of a list with one more
place_last : {X : Type 0} (xs : List X) (x z : X) (k : ℕ) → slice_get (xs ++ x ∷ []) k ≡ Some z → (slice_get xs k ≡ Some z) ⊎ ((k ≡ length xs) × (x ≡ z))
place_last [] x z zero e = inr (refl, same_Some x z e)
place_last [] x z (suc k) e = cc
place_last (y ∷ ys) x z zero e = inl e
place_last (y ∷ ys) x z (suc k) e = more (place_last ys x z k e)
  where
    more : {P : Type 0} → P ⊎ ((k ≡ length ys) × (x ≡ z)) → P ⊎ ((suc k ≡ suc (length ys)) × (x ≡ z))
    more (inl p) = inl p
    more (inr q) = inr (ap suc q.0, q.1)

-- the header that an initiator sends is its own
own_header : (x : Who) (m : Making) → m.side.initiator ≡ true → sent_header x m ≡ m.header
own_header x m e = rw e refl

for_here_is : (y : Who) (o : Option Handle) → option_map_or (λ to. not (same_id to (instance_id y))) o false ≡ false → (o ≡ None) ⊎ (o ≡ Some (instance_id y))
for_here_is y None e = inl refl
for_here_is y (Some to) e = inr (ap Some (ids_same to (instance_id y) (not_false (same_id to (instance_id y)) e)))

-- ---- one log that accepts

ops_accepted : (log : List Entry) (s : SideId) (n : ℕ) (m : Option NewSide) (c : Content) → ops_of (log ++ Accepted s n m c ∷ []) ≡ ops_of log
ops_accepted log s n m c = ops_of-append log (Accepted s n m c ∷ []) ∙ append-nil (ops_of log)

pub makes_target : (s : SideId) (n : ℕ) (b : Bool) (m : NewSide) (c : Content) → (b && s.initiator) ≡ false → MakesTarget (Accepted s n (cond b (Some m) None) c)
makes_target s n true m c e = e
makes_target s n false m c e = tt

pub sound_accepted : (y : Who) (log : List Entry) (d : Data) (handle g : Handle) → IsAccepting y log d → IsSound y log →
    IsSound y (log ++ accepted_entry log handle g d ∷ [])
sound_accepted y log d handle g acc h = record {
  own_tags = subst (AllByRecursion (BeginsHere y)) (sym (ops_accepted log (receiver d) d.number _ d.content)) h.own_tags;
  targets = all_append MakesTarget log (accepted_entry log handle g d ∷ []) h.targets
      (makes_target (receiver d) d.number (makes_side log d) (record { handle = handle; group = g; header = d.header }) d.content acc.not_initiator, tt);
  ended = subst EndsForGood (sym (ops_accepted log (receiver d) d.number _ d.content)) h.ended;
}

-- ---- both logs

module _ (logs later : Logs) (g : Grown logs later) (wire : List Wired) (h : Linked logs wire) (y from : Who) where
  came_later : (d : Data) → IsSent logs from d → IsAccepting y (logs y) d → CameFrom later (receiver d) (accepted (logs y) (receiver d)) d.content
  came_later d sent acc =
      let kept : IsSent later from d = sent_kept logs later g from d sent in
      let twice : partner (receiver d) ≡ d.side = partner_twice d.side in
      let far : HasSide later from (partner (receiver d)) =
      subst (HasSide later from) (sym twice) (made_has_side (later from) d.side kept.making kept.from_log) in
      let count : d.number - 1 ≡ accepted (logs y) (receiver d) = omega (arith, acc.number) in
      record {
        far = from;
        is_far = matched_by (receiver d).initiator (HasSide later from (partner (receiver d))) (IsTrue (is_home from d.side.conversation))
            (λ e. far)
            (λ e. initiator_home from (logs from) d.side (h.sound from).own_tags (h.sound from).targets (not_false d.side.initiator e)
            (made_has_side (logs from) d.side sent.making sent.from_log));
        place = subst (λ k. slice_get (numbered (later from) (partner (receiver d))) k ≡ Some d.content) count
            (subst (λ s. slice_get (numbered (later from) s) (d.number - 1) ≡ Some d.content) (sym twice) kept.place);
      }

  begun_later : (d : Data) (m : NewSide) → IsSent logs from d → IsAccepting y (logs y) d → m.header ≡ d.header → TargetIsBegun later y (making (receiver d) m)
  begun_later d m sent acc e target =
      let initiator : d.side.initiator ≡ true = not_false d.side.initiator target in
      let kept : IsSent later from d = sent_kept logs later g from d sent in
      let same : sent.making.side ≡ d.side = made_side (logs from) d.side sent.making sent.from_log in
      record {
        home = from;
        is_there = initiator_home from (logs from) d.side (h.sound from).own_tags (h.sound from).targets initiator
            (made_has_side (logs from) d.side sent.making sent.from_log);
        begun = sent.making;
        from_log = subst (λ s. made (later from) s ≡ Some sent.making) (sym (partner_twice d.side)) (made_grown (logs from) (later from) d.side sent.making (g.grows from) sent.from_log);
        same = sym (own_header from sent.making (ap (λ s. s.initiator) same ∙ initiator)) ∙ sym sent.turned ∙ sym e;
        for_here = subst (λ z. (z.to ≡ None) ⊎ (z.to ≡ Some (instance_id y))) (sym e) (for_here_is y d.header.to acc.for_here);
      }

  -- the entry of an accepted frame
  pub adds_accepted : (d : Data) (handle group : Handle) → IsSent logs from d → IsAccepting y (logs y) d →
      logs y ++ accepted_entry (logs y) handle group d ∷ [] ≡ later y → IsSound y (later y) → TakenInOrder (later y) → Adds logs later y
  adds_accepted d handle group sent acc longer sound taken =
      record {
        more = accepted_entry (logs y) handle group d ∷ [];
        longer = longer;
        sound = sound;
        begun = made_right (makes_side (logs y) d);
        accepted_from = λ s k c e. by_side s k c (same_side (receiver d) s) refl
            (subst (λ l. slice_get l k ≡ Some c) (ap (λ l. contents_accepted l s) (sym longer) ∙ contents_accepted-append (logs y) (accepted_entry (logs y) handle group d ∷ []) s) e);
        acked_from = λ s. tt;
        taken_in_order = taken;
      }
    where
      made_right : (b : Bool) → AllByRecursion (TargetIsBegun later y)
          (makings (Accepted (receiver d) d.number (cond b (Some (record { handle = handle; group = group; header = d.header })) None) d.content ∷ []))
      made_right true = (begun_later d (record { handle = handle; group = group; header = d.header }) sent acc refl, tt)
      made_right false = tt

      by_side : (s : SideId) (k : ℕ) (c : Content) (b : Bool) → same_side (receiver d) s ≡ b →
          slice_get (contents_accepted (logs y) s ++ (cond (same_side (receiver d) s) (d.content ∷ []) [] ++ [])) k ≡ Some c →
          (slice_get (contents_accepted (logs y) s) k ≡ Some c) ⊎ CameFrom later s k c
      by_side s k c false f e = inl (subst (λ l. slice_get l k ≡ Some c) (append-nil (contents_accepted (logs y) s)) (rw f at e))
      by_side s k c true f e = last (place_last (contents_accepted (logs y) s) d.content c k (rw f at e))
        where
          last : (slice_get (contents_accepted (logs y) s) k ≡ Some c) ⊎ ((k ≡ accepted (logs y) s) × (d.content ≡ c)) → (slice_get (contents_accepted (logs y) s) k ≡ Some c) ⊎ CameFrom later s k c
          last (inl p) = inl p
          last (inr q) =
              let at : CameFrom later s (accepted (logs y) s) d.content = subst (λ z. CameFrom later z (accepted (logs y) z) d.content) (sides_same (receiver d) s f) (came_later d sent acc) in
              inr (subst (λ z. CameFrom later s k z) q.1 (subst (λ n. CameFrom later s n d.content) (sym q.0) at))

  -- the entry of an acknowledgement
  pub adds_acked : (k : Ack) → IsAcked logs from k.side k.upto k.closed →
      logs y ++ Acked k.side k.upto k.closed ∷ [] ≡ later y → IsSound y (later y) → TakenInOrder (later y) → Adds logs later y
  adds_acked k acked longer sound taken =
      record {
        more = Acked k.side k.upto k.closed ∷ [];
        longer = longer;
        sound = sound;
        begun = tt;
        accepted_from = λ s n c e. inl (subst (λ l. slice_get l n ≡ Some c)
            (ap (λ l. contents_accepted l s) (sym longer) ∙ contents_accepted-append (logs y) (Acked k.side k.upto k.closed ∷ []) s ∙ append-nil (contents_accepted (logs y) s)) e);
        acked_from = λ s. by_side s (same_side k.side s) refl;
        taken_in_order = taken;
      }
    where
      by_side : (s : SideId) (b : Bool) → same_side k.side s ≡ b → AllByRecursion (AckIsFrom later s) (acks (Acked k.side k.upto k.closed ∷ []) s)
      by_side s true f = rw f ((from, subst (λ z. IsAcked later from z k.upto k.closed) (sides_same k.side s f) (acked_kept logs later g from k.side k.upto k.closed acked)), tt)
      by_side s false f = rw f tt
