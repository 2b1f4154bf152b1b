-- Nothing is lost: what wasn't accepted is still to be sent, and each item waits, was taken, or is of a side that was ended.
use Rattle.std.proofs.Common.{◌≡◌, ℕ, zero, suc, Bool, true, false, List, [], ◌∷◌, ◌++◌, ◌+◌, ◌≤◌, Option, Some, None, refl, sym, ◌∙◌, ap, subst, length, arith, cond, inl, inr, append-nil, append_assoc, take, drop, max}
use Rattle.std.specs.Prelude.{find, flat_map, fold, not, ◌⊎◌, ◌&&◌, ◌||◌, IsTrue, is_some, option_map, option_and_then}
use Rattle.std.specs.Option.{option_eq}
use Rattle.std.specs.List.{list_any, AllByRecursion}
use Rattle.std.proofs.lemmas.List.{take-append-drop}
use Rattle.sb_log.specs.declared.identifiers.SideId.{SideId}
use Rattle.sb_log.specs.declared.identifiers.Who.{Who}
use Rattle.sb_log.specs.declared.identifiers.Who.TheVariants.{A, B}
use Rattle.sb_log.specs.declared.definitions.ServiceDef.{ServiceDef}
use Rattle.sb_log.specs.declared.entries.Entry.{Entry}
use Rattle.sb_log.specs.declared.entries.Entry.TheVariants.{Defined, Txn, Accepted, Acked, Fired, Expired, QueueSet}
use Rattle.sb_log.specs.declared.entries.NewSide.{NewSide}
use Rattle.sb_log.specs.declared.entries.Op.{Op}
use Rattle.sb_log.specs.declared.entries.Op.TheVariants.{Begin, Send, Took, End, Cleanup, Move, Timer, Put, Delete}
use Rattle.sb_log.specs.declared.messages.Item.{Item}
use Rattle.sb_model.specs.Sides.{Bytes, Making, makings, made, made_by, made_by_op, has_side, is_of, partner, is_split, target_of, same_name}
use Rattle.sb_model.specs.Catalog.{find_service, service_queue}
use Rattle.sb_model.specs.Groups.{own_service}
use Rattle.sb_model.specs.Items.{items, items_from, is_taken, waits_at, queue_of, own_end}
use Rattle.sb_model.specs.Messages.{accepted, acked, acks, numbered, is_ended, is_cleaned, is_expired, is_closed_by_ack}
use Rattle.sb_model.specs.Transactions.{with_ops}
use Rattle.sb_model.specs.Wire.{Wired}
use Rattle.sb_model.specs.Logs.{is_allowed, is_op_allowed, are_ops_allowed, are_allowed_after, may_make, WellFormed}
use Rattle.sb_model.specs.Links.{Logs, Linked, HasSide, AckIsFrom}
use Rattle.sb_laws.specs.Kept.{IsEndOf, unaccepted, KeepsOutgoing, IsThere, KeepsItems}
use Rattle.std.proofs.lemmas.List.Folds.{list_any-append}
use Rattle.sb_log.specs.declared.messages.Content.{Content}
use Rattle.sb_model.specs.Sides.{making}
use Rattle.sb_laws.proofs.Sides.{both_left, both_right, side_self}
use Rattle.sb_laws.proofs.Growth.{makings-append, items_from-append}
use Rattle.sb_laws.proofs.Grow.{all_weaker, all_append, has_side_grown, or_true_left, or_true_right}
use Rattle.sb_laws.proofs.Delivered.{made_is_find, made_side, initiator_home, one_home}
use Rattle.sb_laws.proofs.PlanCases.{all_found}
use Rattle.sb_laws.proofs.Allowed.{both_true, service_more, service_view}
use Rattle.sb_laws.proofs.Defines.{names_self}

clash : {P : Type 0} → true ≡ false → P
clash e = cc

-- ---- what wasn't accepted

drop_ends : {X : Type 0} (m n : ℕ) (xs : List X) → m ≤ n → IsEndOf (drop n xs) (drop m xs)
drop_ends zero n xs le = (take n xs, take-append-drop n xs)
drop_ends (suc m) zero xs le = absurd (omega (arith, le))
drop_ends (suc m) (suc n) [] le = ([], refl)
drop_ends (suc m) (suc n) (x ∷ xs) le = drop_ends m n xs (omega (arith, le))

-- the greatest number that was acknowledged is one of them, or none
acked_most : (top first : ℕ) (ks : List (ℕ × Bool)) → first ≤ top → AllByRecursion (λ (k : ℕ × Bool). k.0 ≤ top) ks → fold (λ (most : ℕ) (ack : ℕ × Bool). max most ack.0) first ks ≤ top
acked_most top first [] le h = le
acked_most top first (k ∷ ks) le h = acked_most top (max first k.0) ks (let q = h.0 in omega (arith, le, q)) h.1

the_split : (logs : Logs) (s : SideId) (y z : Who) → HasSide logs y (target_of s) → HasSide logs z (target_of s) → is_split (logs A) (logs B) s ≡ false → z ≡ y
the_split logs s A A h k e = refl
the_split logs s B B h k e = refl
the_split logs s A B h k e = clash (sym (both_true (has_side (logs A) (target_of s)) (has_side (logs B) (target_of s)) h k) ∙ e)
the_split logs s B A h k e = clash (sym (both_true (has_side (logs A) (target_of s)) (has_side (logs B) (target_of s)) k h) ∙ e)

module _ (logs : Logs) (wire : List Wired) (h : Linked logs wire) where
  -- one instance has the partner
  one_partner : (s : SideId) (y z : Who) → is_split (logs A) (logs B) s ≡ false → HasSide logs y (partner s) → HasSide logs z (partner s) → z ≡ y
  one_partner s y z e hy hz = by_end s.initiator refl
    where
      by_end : (b : Bool) → s.initiator ≡ b → z ≡ y
      by_end true f =
          let is : partner s ≡ target_of s = ap (λ b. let k : SideId = record { conversation = s.conversation; initiator = not b } in k) f in
          the_split logs s y z (subst (HasSide logs y) is hy) (subst (HasSide logs z) is hz) e
      by_end false f = one_home z y s.conversation
          (initiator_home z (logs z) (partner s) (h.sound z).own_tags (h.sound z).targets (ap not f) hz) (initiator_home y (logs y) (partner s) (h.sound y).own_tags (h.sound y).targets (ap not f) hy)

  -- what was acknowledged was accepted
  acked_accepted : (x y : Who) (s : SideId) → is_split (logs A) (logs B) s ≡ false → HasSide logs y (partner s) ⊎ ((z : Who) → HasSide logs z (partner s) → ⊥) → acked (logs x) s ≤ accepted (logs y) (partner s)
  acked_accepted x y s e which = acked_most (accepted (logs y) (partner s)) 0 (acks (logs x) s) (omega arith)
      (all_weaker (AckIsFrom logs s) (λ (k : ℕ × Bool). k.0 ≤ accepted (logs y) (partner s)) (one which) (acks (logs x) s) (h.acked_from x s))
    where
      one : HasSide logs y (partner s) ⊎ ((z : Who) → HasSide logs z (partner s) → ⊥) → (k : ℕ × Bool) → AckIsFrom logs s k → k.0 ≤ accepted (logs y) (partner s)
      one (inl hy) k a = subst (λ z. k.0 ≤ accepted (logs z) (partner s)) (one_partner s y a.0 e hy a.1.there) a.1.upto_accepted
      one (inr none) k a = absurd (none a.0 a.1.there)

  pub keeps_outgoing : KeepsOutgoing logs
  keeps_outgoing x y s has whole which = by_closed (is_cleaned (logs x) s || is_expired (logs x) s || is_closed_by_ack (logs x) s) refl
    where
      not_is : (b : Bool) → not b ≡ true → b ≡ false
      not_is true e = cc
      not_is false e = refl

      by_closed : (c : Bool) → (is_cleaned (logs x) s || is_expired (logs x) s || is_closed_by_ack (logs x) s) ≡ c →
          IsTrue c ⊎ IsEndOf (unaccepted (logs x) (logs y) s) (cond c [] (drop (acked (logs x) s) (numbered (logs x) s)))
      by_closed true e = inl refl
      by_closed false e = inr (drop_ends (acked (logs x) s) (accepted (logs y) (partner s)) (numbered (logs x) s) (acked_accepted x y s (not_is (is_split (logs A) (logs B) s) whole) which))

-- ---- items

-- the service on the side's own end is there
abbrev IsServed : List Entry → Making → Type 0
IsServed log m = is_some (find_service log (own_service m.side m.header)) ≡ true

served_more : (log more : List Entry) (m : Making) → IsServed log m → IsServed (log ++ more) m
served_more log more m h = service_more log more (own_service m.side m.header) h

served_ops : (log : List Entry) (tx : ℕ) (done ops : List Op) → are_ops_allowed log tx done ops ≡ true → AllByRecursion (IsServed log) (flat_map made_by_op ops)
served_ops log tx done [] e = tt
served_ops log tx done (op ∷ ops) e = all_append (IsServed log) (made_by_op op) (flat_map made_by_op ops)
    (one op (both_left (is_op_allowed (with_ops log tx done) op) (are_ops_allowed log tx (done ++ op ∷ []) ops) e))
    (served_ops log tx (done ++ op ∷ []) ops (both_right (is_op_allowed (with_ops log tx done) op) (are_ops_allowed log tx (done ++ op ∷ []) ops) e))
  where
    one : (o : Op) → is_op_allowed (with_ops log tx done) o ≡ true → AllByRecursion (IsServed log) (made_by_op o)
    one (Begin a g d) f = (sym (service_view log tx done (own_service (record { conversation = a; initiator = true }) d)) ∙ both_right _ (is_some (find_service (with_ops log tx done) (own_service (record { conversation = a; initiator = true }) d))) f, tt)
    one (Send a b c) f = tt
    one (Took a b) f = tt
    one (End a b) f = tt
    one (Cleanup a) f = tt
    one (Move a b) f = tt
    one (Timer a b) f = tt
    one (Put a b c d) f = tt
    one (Delete a b) f = tt

served_entry : (log : List Entry) (e : Entry) → is_allowed log e ≡ true → AllByRecursion (IsServed log) (made_by e)
served_entry log (Txn tx ops) f = served_ops log tx [] ops f
served_entry log (Accepted s k (Some m) c) f = (both_right _ (is_some (find_service log (own_service s m.header))) (both_left (may_make log s m.handle m.header) _ f), tt)
served_entry log (Accepted s k None c) f = tt
served_entry log (Defined d) f = tt
served_entry log (Acked a b c) f = tt
served_entry log (Fired s) f = tt
served_entry log (Expired s) f = tt
served_entry log (QueueSet q on) f = tt

-- each side's service is there, and each item's side
record IsKept (log : List Entry) : Type 0 where
  served : AllByRecursion (IsServed log) (makings log)
  sided : AllByRecursion (λ i. has_side log i.side ≡ true) (items log)

abbrev HasSideOf : List Entry → Item → Type 0
HasSideOf log i = has_side log i.side ≡ true

kept_entry : (log : List Entry) (e : Entry) → is_allowed log e ≡ true → IsKept log → IsKept (log ++ e ∷ [])
kept_entry log e f h = record {
  served = subst (AllByRecursion (IsServed (log ++ e ∷ []))) (sym (makings-append log (e ∷ []) ∙ ap (λ l. makings log ++ l) (append-nil (made_by e))))
      (all_append (IsServed (log ++ e ∷ [])) (makings log) (made_by e) (all_weaker (IsServed log) (IsServed (log ++ e ∷ [])) (served_more log (e ∷ [])) (makings log) h.served)
      (all_weaker (IsServed log) (IsServed (log ++ e ∷ [])) (served_more log (e ∷ [])) (made_by e) (served_entry log e f)));
  sided = subst (AllByRecursion (HasSideOf (log ++ e ∷ []))) (sym (items_from-append 1 log (e ∷ [])))
      (all_append (HasSideOf (log ++ e ∷ [])) (items log) (items_from (1 + length (items log)) (e ∷ []))
      (all_weaker (HasSideOf log) (HasSideOf (log ++ e ∷ [])) (λ i k. has_side_grown log (log ++ e ∷ []) i.side (e ∷ [], refl) k) (items log) h.sided) (new (1 + length (items log)) e f));
}
  where
    still : (s : SideId) (k : Entry) → has_side log s ≡ true → has_side (log ++ k ∷ []) s ≡ true
    still s k g = has_side_grown log (log ++ k ∷ []) s (k ∷ [], refl) g

    made_now : (s : SideId) (n : ℕ) (m : NewSide) (c : Content) → has_side (log ++ Accepted s n (Some m) c ∷ []) s ≡ true
    made_now s n m c = ap (list_any (is_of s)) (makings-append log (Accepted s n (Some m) c ∷ [])) ∙ list_any-append (is_of s) (makings log) (makings (Accepted s n (Some m) c ∷ []))
        ∙ or_true_right (list_any (is_of s) (makings log)) (list_any (is_of s) (makings (Accepted s n (Some m) c ∷ []))) (or_true_left (is_of s (making s m)) false (side_self s))

    new : (n : ℕ) (k : Entry) → is_allowed log k ≡ true → AllByRecursion (HasSideOf (log ++ k ∷ [])) (items_from n (k ∷ []))
    new n (Accepted s j (Some m) c) g = (made_now s j m c, tt)
    new n (Accepted s j None c) g = (still s (Accepted s j None c) (both_left (has_side log s) _ g), tt)
    new n (Fired s) g = (still s (Fired s) g, tt)
    new n (Expired s) g = (still s (Expired s) g, tt)
    new n (Defined d) g = tt
    new n (Txn tx ops) g = tt
    new n (Acked a b c) g = tt
    new n (QueueSet q on) g = tt

kept_more : (log es : List Entry) → are_allowed_after log es ≡ true → IsKept log → IsKept (log ++ es)
kept_more log [] f h = subst IsKept (sym (append-nil log)) h
kept_more log (e ∷ es) f h = subst IsKept (append_assoc log (e ∷ []) es)
    (kept_more (log ++ e ∷ []) es (both_right (is_allowed log e) (are_allowed_after (log ++ e ∷ []) es) f) (kept_entry log e (both_left (is_allowed log e) (are_allowed_after (log ++ e ∷ []) es) f) h))

found_one : {X : Type 0} (p : X → Bool) (xs : List X) → list_any p xs ≡ true → (x : X) × (find p xs ≡ Some x)
found_one p [] e = clash (sym e)
found_one {X = X} p (y ∷ ys) e = by_test (p y) e (found_one p ys)
  where
    by_test : (b : Bool) → (b || list_any p ys) ≡ true → (list_any p ys ≡ true → (x : X) × (find p ys ≡ Some x)) → (x : X) × (cond b (Some y) (find p ys) ≡ Some x)
    by_test true f rest = (y, refl)
    by_test false f rest = rest f

-- a side that is there has a queue
has_queue : (log : List Entry) (s : SideId) → IsKept log → has_side log s ≡ true → (q : Bytes) × (queue_of log s ≡ Some q)
has_queue log s h e =
    let m = found_one (is_of s) (makings log) e in
    let is : made log s ≡ Some m.0 = made_is_find log s ∙ m.1 in
    let side : m.0.side ≡ s = made_side log s m.0 is in
    let served : is_some (find_service log (own_service s m.0.header)) ≡ true = subst (λ z. is_some (find_service log (own_service z m.0.header)) ≡ true) side (all_found (IsServed log) (is_of s) (makings log) m.0 h.served m.1) in
    let q = queue_there (find_service log (own_service s m.0.header)) served in
    (q.0, ap (λ o. option_and_then (λ header. service_queue log (own_end s header)) (option_map (λ k. k.header) o)) is ∙ q.1)
  where
    queue_there : (o : Option ServiceDef) → is_some o ≡ true → (q : Bytes) × (option_map (λ def. def.queue) o ≡ Some q)
    queue_there None f = clash (sym f)
    queue_there (Some def) f = (def.queue, refl)

item_there : (log : List Entry) (i : Item) → IsKept log → has_side log i.side ≡ true → IsThere log i
unfolding waits_at
item_there log i h e = by_gone (is_taken log i.number) (is_ended log i.side) (is_cleaned log i.side)
  where
    queue : (q : Bytes) × (queue_of log i.side ≡ Some q)
    queue = has_queue log i.side h e

    by_gone : (a b c : Bool) → IsTrue (a || b || c) ⊎ ((q : Bytes) × IsTrue (option_eq same_name (queue_of log i.side) (Some q) && not a && not b && not c))
    by_gone true b c = inl refl
    by_gone false true c = inl refl
    by_gone false false true = inl refl
    by_gone false false false = inr (queue.0, ap (λ o. option_eq same_name o (Some queue.0) && true && true && true) queue.1 ∙ ap (λ b. b && true && true && true) (names_self queue.0))

pub keeps_items : (log : List Entry) → WellFormed log → KeepsItems log
keeps_items log formed = all_weaker (HasSideOf log) (IsThere log) (λ i k. item_there log i kept k) (items log) kept.sided
  where
    kept : IsKept log
    kept = kept_more [] log formed (record { served = tt; sided = tt })
