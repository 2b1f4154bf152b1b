-- Linked logs stay linked: more entries, more frames, an accepted frame, an acknowledgement.
use Rattle.std.proofs.Common.{◌≡◌, ℕ, zero, suc, Bool, true, false, List, [], ◌∷◌, ◌++◌, ◌+◌, ◌≤◌, Option, Some, None, refl, sym, ◌∙◌, ap, subst, arith, cond, inl, inr, append-nil, map, take, drop}
use Rattle.std.specs.Prelude.{flat_map, find, slice_get, ◌⊎◌, IsTrue}
use Rattle.std.specs.Option.{option_map_or}
use Rattle.std.specs.List.{list_any, AllByRecursion}
use Rattle.std.proofs.lemmas.Grind.{flat_map-append}
use Rattle.sb_log.specs.declared.identifiers.SideId.{SideId}
use Rattle.sb_log.specs.declared.identifiers.Who.{Who}
use Rattle.sb_log.specs.declared.entries.Entry.{Entry}
use Rattle.sb_log.specs.declared.messages.Content.{Content}
use Rattle.sb_model.specs.Sides.{same_side}
use Rattle.sb_model.specs.Sides.{Making, makings, sides, firsts_after, made, is_of}
use Rattle.sb_model.specs.Messages.{accepted, contents_accepted, is_closed, acked, acks}
use Rattle.sb_model.specs.Messages.{numbered, outgoing}
use Rattle.sb_model.specs.Frames.{Sent, Owed, data_from, data_frames, ack_frame, ack_of, frames_due, by_level, no_later}
use Rattle.sb_model.specs.Sorting.{stable, put_in}
use Rattle.sb_model.specs.Wire.{Wired, put}
use Rattle.sb_model.specs.Links.{Logs, Linked, IsSound, HasSide, CameFrom, TargetIsBegun, AckIsFrom, IsWired, IsFrameOf, TakenInOrder}
use Rattle.sb_laws.proofs.Growth.{makings-append, contents_accepted-append}
use Rattle.sb_laws.proofs.Sides.{sides_same, side_self, partner_twice}
use Rattle.sb_laws.proofs.Grow.{Grown, all_append, all_weaker, frames_kept, came_kept, ack_kept, begun_kept, or_false_left, or_false_right}
use Rattle.sb_laws.proofs.Delivered.{made_is_find, made_has_side}

-- ---- more entries

-- what more entries of one log owe
pub record Adds (logs later : Logs) (y : Who) : Type 0 where
  pub more : List Entry
  pub longer : logs y ++ more ≡ later y
  pub sound : IsSound y (later y)
  pub begun : AllByRecursion (TargetIsBegun later y) (makings more)
  pub accepted_from : (s : SideId) (k : ℕ) (c : Content) → slice_get (contents_accepted (later y) s) k ≡ Some c →
      (slice_get (contents_accepted (logs y) s) k ≡ Some c) ⊎ CameFrom later s k c
  pub acked_from : (s : SideId) → AllByRecursion (AckIsFrom later s) (acks more s)
  pub taken_in_order : TakenInOrder (later y)

pub adds_grown : (logs later : Logs) → ((y : Who) → Adds logs later y) → Grown logs later
adds_grown logs later a = record { grows = λ y. ((a y).more, (a y).longer); ended = λ y. (a y).sound.ended }

acks-append : (xs ys : List Entry) (s : SideId) → acks (xs ++ ys) s ≡ acks xs s ++ acks ys s
acks-append xs ys s = simp flat_map-append

pub linked_more : (logs later : Logs) (wire : List Wired) → Linked logs wire → ((y : Who) → Adds logs later y) → Linked later wire
linked_more logs later wire h a =
    let g : Grown logs later = adds_grown logs later a in
    record {
      sound = λ x. (a x).sound;
      begun = λ x. subst (AllByRecursion (TargetIsBegun later x)) (sym (makings-append (logs x) (a x).more) ∙ ap makings (a x).longer)
          (all_append (TargetIsBegun later x) (makings (logs x)) (makings (a x).more)
          (all_weaker (TargetIsBegun logs x) (TargetIsBegun later x) (begun_kept logs later g x) (makings (logs x)) (h.begun x)) (a x).begun);
      frames = frames_kept logs later g wire h.frames;
      accepted_from = λ x s k c e. either (came_kept logs later g s k c) (h.accepted_from x s k c) ((a x).accepted_from s k c e);
      acked_from = λ x s. subst (AllByRecursion (AckIsFrom later s)) (sym (acks-append (logs x) (a x).more s) ∙ ap (λ l. acks l s) (a x).longer)
          (all_append (AckIsFrom later s) (acks (logs x) s) (acks (a x).more s)
          (all_weaker (AckIsFrom logs s) (AckIsFrom later s) (ack_kept logs later g s) (acks (logs x) s) (h.acked_from x s)) ((a x).acked_from s));
      taken_in_order = λ x. (a x).taken_in_order;
    }
  where
    either : {P R Q : Type 0} → (R → Q) → (P → R) → P ⊎ Q → Q
    either f g (inl p) = f (g p)
    either f g (inr q) = q

-- a log that stays
pub adds_nothing : (logs later : Logs) (wire : List Wired) (y : Who) → Linked logs wire → logs y ≡ later y → Adds logs later y
adds_nothing logs later wire y h e = record {
  more = [];
  longer = append-nil (logs y) ∙ e;
  sound = subst (IsSound y) e (h.sound y);
  begun = tt;
  accepted_from = λ s k c f. inl (subst (λ l. slice_get (contents_accepted l s) k ≡ Some c) (sym e) f);
  acked_from = λ s. tt;
  taken_in_order = subst TakenInOrder e (h.taken_in_order y);
}

-- entries that accept and acknowledge nothing: transactions, definitions, settings, timers, expiries
pub adds_own : (logs later : Logs) (y : Who) (more : List Entry) → logs y ++ more ≡ later y → IsSound y (later y) → TakenInOrder (later y) →
    AllByRecursion (TargetIsBegun later y) (makings more) → ((s : SideId) → contents_accepted more s ≡ []) → ((s : SideId) → acks more s ≡ []) → Adds logs later y
adds_own logs later y more e sound taken begun none_accepted none_acked = record {
  more = more;
  longer = e;
  sound = sound;
  begun = begun;
  accepted_from = λ s k c f.
      let same : contents_accepted (later y) s ≡ contents_accepted (logs y) s =
      ap (λ l. contents_accepted l s) (sym e) ∙ contents_accepted-append (logs y) more s ∙ ap (λ l. contents_accepted (logs y) s ++ l) (none_accepted s) ∙ append-nil (contents_accepted (logs y) s) in
      inl (subst (λ l. slice_get l k ≡ Some c) same f);
  acked_from = λ s. subst (AllByRecursion (AckIsFrom later s)) (sym (none_acked s)) tt;
  taken_in_order = taken;
}

-- ---- more frames

pub linked_frames : (logs : Logs) (wire more : List Wired) → Linked logs wire → AllByRecursion (IsWired logs) more → Linked logs (wire ++ more)
linked_frames logs wire more h new = record {
  sound = h.sound;
  begun = h.begun;
  frames = all_append (IsWired logs) wire more h.frames new;
  accepted_from = h.accepted_from;
  acked_from = h.acked_from;
  taken_in_order = h.taken_in_order;
}

-- the making of a side that the log lists is the first of that side
abbrev IsFirst : List SideId → List Making → Making → Type 0
IsFirst seen ms m = (find (is_of m.side) ms ≡ Some m) × (list_any (same_side m.side) seen ≡ false)

firsts_found : (seen : List SideId) (ms : List Making) → AllByRecursion (IsFirst seen ms) (firsts_after seen ms)
firsts_found seen [] = tt
firsts_found seen (m ∷ ms) = by_test (list_any (same_side m.side) seen) refl (firsts_found seen ms) (firsts_found (m.side ∷ seen) ms)
  where
    apart : (n : Making) → same_side n.side m.side ≡ false → same_side m.side n.side ≡ false
    apart n e = other_way (same_side m.side n.side) refl
      where
        other_way : (b : Bool) → same_side m.side n.side ≡ b → same_side m.side n.side ≡ false
        other_way false f = f
        other_way true f = absurd (clash (sym (subst (λ z. same_side z m.side ≡ true) (sides_same m.side n.side f) (side_self m.side)) ∙ e))
          where
            clash : true ≡ false → ⊥
            clash g = cc

    skip : (n : Making) → same_side m.side n.side ≡ false → find (is_of n.side) ms ≡ Some n → find (is_of n.side) (m ∷ ms) ≡ Some n
    skip n e f = rw e f

    by_test : (b : Bool) → list_any (same_side m.side) seen ≡ b → AllByRecursion (IsFirst seen ms) (firsts_after seen ms) → AllByRecursion (IsFirst (m.side ∷ seen) ms) (firsts_after (m.side ∷ seen) ms) →
        AllByRecursion (IsFirst seen (m ∷ ms)) (firsts_after seen (m ∷ ms))
    by_test true e rest more = rw e (all_weaker (IsFirst seen ms) (IsFirst seen (m ∷ ms))
        (λ n k. (skip n (unseen n k.1) k.0, k.1)) (firsts_after seen ms) rest)
      where
        unseen : (n : Making) → list_any (same_side n.side) seen ≡ false → same_side m.side n.side ≡ false
        unseen n f = other_way (same_side m.side n.side) refl
          where
            other_way : (b : Bool) → same_side m.side n.side ≡ b → same_side m.side n.side ≡ false
            other_way false g = g
            other_way true g = absurd (clash (sym (subst (λ z. list_any (same_side z) seen ≡ true) (sides_same m.side n.side g) e) ∙ f))
              where
                clash : true ≡ false → ⊥
                clash g = cc
    by_test false e rest more = rw e (
      ((rw (side_self m.side) refl), e),
      all_weaker (IsFirst (m.side ∷ seen) ms) (IsFirst seen (m ∷ ms))
          (λ n k. (skip n (apart n (or_false_left (same_side n.side m.side) (list_any (same_side n.side) seen) k.1)) k.0, or_false_right (same_side n.side m.side) (list_any (same_side n.side) seen) k.1))
          (firsts_after (m.side ∷ seen) ms) more,
    )

abbrev IsMade : List Entry → Making → Type 0
IsMade log m = made log m.side ≡ Some m

pub sides_made : (log : List Entry) → AllByRecursion (IsMade log) (sides log)
sides_made log = all_weaker (IsFirst [] (makings log)) (IsMade log) (λ m k. made_is_find log m.side ∙ k.0) (sides log) (firsts_found [] (makings log))

all_put_in : {X : Type 0} (P : X → Type 0) (before : X → X → Bool) (x : X) (xs : List X) → P x → AllByRecursion P xs → AllByRecursion P (put_in before x xs)
all_put_in P before x [] p h = (p, tt)
all_put_in P before x (y ∷ ys) p h = by_test (before x y) (all_put_in P before x ys p h.1)
  where
    by_test : (b : Bool) → AllByRecursion P (put_in before x ys) → AllByRecursion P (cond b (x ∷ y ∷ ys) (y ∷ put_in before x ys))
    by_test true rest = (p, h)
    by_test false rest = (h.0, rest)

pub all_stable : {X : Type 0} (P : X → Type 0) (before : X → X → Bool) (xs : List X) → AllByRecursion P xs → AllByRecursion P (stable before xs)
all_stable P before [] h = tt
all_stable P before (x ∷ xs) h = all_put_in P before x (stable before xs) h.0 (all_stable P before xs h.1)

pub all_flat_map : {X Y : Type 0} (P : X → Type 0) (Q : Y → Type 0) (f : X → List Y) → ((x : X) → P x → AllByRecursion Q (f x)) → (xs : List X) → AllByRecursion P xs → AllByRecursion Q (flat_map f xs)
all_flat_map P Q f g [] h = tt
all_flat_map P Q f g (x ∷ xs) h = all_append Q (f x) (flat_map f xs) (g x h.0) (all_flat_map P Q f g xs h.1)

place_dropped : {X : Type 0} (n : ℕ) (xs : List X) (j : ℕ) (x : X) → slice_get (drop n xs) j ≡ Some x → slice_get xs (n + j) ≡ Some x
place_dropped zero xs j x e = let same : j ≡ 0 + j = omega arith in subst (λ k. slice_get xs k ≡ Some x) same e
place_dropped (suc n) [] j x e = cc
place_dropped (suc n) (y ∷ ys) j x e = let same : suc (n + j) ≡ suc n + j = omega arith in subst (λ k. slice_get (y ∷ ys) k ≡ Some x) same (place_dropped n ys j x e)

place_taken : {X : Type 0} (n : ℕ) (xs : List X) (j : ℕ) (x : X) → slice_get (take n xs) j ≡ Some x → slice_get xs j ≡ Some x
place_taken zero xs j x e = cc
place_taken (suc n) [] j x e = cc
place_taken (suc n) (y ∷ ys) zero x e = e
place_taken (suc n) (y ∷ ys) (suc j) x e = place_taken n ys j x e

module _ (logs : Logs) (x : Who) where
  abbrev IsFrom : Sent → Type 0
  IsFrom f = IsFrameOf logs x f.frame

  data_sent : (m : Making) (base n : ℕ) (cs : List Content) → made (logs x) m.side ≡ Some m → n ≡ base + 1 →
      ((j : ℕ) (c : Content) → slice_get cs j ≡ Some c → slice_get (numbered (logs x) m.side) (base + j) ≡ Some c) → AllByRecursion IsFrom (data_from x (logs x) m n cs)
  data_sent m base n [] e f at = tt
  data_sent m base n (c ∷ cs) e f at = (
    record {
      making = m;
      from_log = e;
      turned = refl;
      place = subst (λ k. slice_get (numbered (logs x) m.side) k ≡ Some c) (omega (arith, f)) (at zero c refl);
      numbered_from_1 = omega (arith, f);
    },
    data_sent m (base + 1) (n + 1) cs e (omega (arith, f)) (λ j d g. subst (λ k. slice_get (numbered (logs x) m.side) k ≡ Some d) (omega arith) (at (suc j) d g)),
  )

  outgoing_at : (m : Making) (j : ℕ) (c : Content) → slice_get (take 64 (outgoing (logs x) m.side)) j ≡ Some c → slice_get (numbered (logs x) m.side) (acked (logs x) m.side + j) ≡ Some c
  outgoing_at m j c e = by_test _ (place_taken 64 (outgoing (logs x) m.side) j c e)
    where
      by_test : (b : Bool) → slice_get (cond b [] (drop (acked (logs x) m.side) (numbered (logs x) m.side))) j ≡ Some c → slice_get (numbered (logs x) m.side) (acked (logs x) m.side + j) ≡ Some c
      by_test true f = cc
      by_test false f = place_dropped (acked (logs x) m.side) (numbered (logs x) m.side) j c f

  data_right : (m : Making) → IsMade (logs x) m → AllByRecursion IsFrom (data_frames x (logs x) m)
  data_right m e = data_sent m (acked (logs x) m.side) (acked (logs x) m.side + 1) (take 64 (outgoing (logs x) m.side)) e refl (outgoing_at m)

  ack_right : (owed : List Owed) (m : Making) → IsMade (logs x) m → AllByRecursion IsFrom (ack_frame x (logs x) owed m)
  ack_right owed m e = one (find (λ o. same_side o.side m.side) owed)
    where
      one : (o : Option Owed) → AllByRecursion IsFrom (option_map_or (λ o. ack_of x (logs x) m o ∷ []) o [])
      one None = tt
      one (Some o) = (
        record {
          there = subst (HasSide logs x) (sym (partner_twice m.side)) (made_has_side (logs x) m.side m e);
          upto_accepted = subst (λ s. accepted (logs x) m.side ≤ accepted (logs x) s) (sym (partner_twice m.side)) (omega arith);
          closed_there = λ f. subst (λ s. IsTrue (is_closed (logs x) s)) (sym (partner_twice m.side)) f;
        },
        tt,
      )

  -- each frame of a pump is right
  pub frames_right : (owed : List Owed) → AllByRecursion IsFrom (frames_due x (logs x) owed)
  frames_right owed = all_append IsFrom (flat_map (data_frames x (logs x)) (by_level (logs x))) (flat_map (ack_frame x (logs x) owed) (sides (logs x)))
      (all_flat_map (IsMade (logs x)) IsFrom (data_frames x (logs x)) data_right (by_level (logs x)) (all_stable (IsMade (logs x)) (no_later (logs x)) (sides (logs x)) (sides_made (logs x))))
      (all_flat_map (IsMade (logs x)) IsFrom (ack_frame x (logs x) owed) (ack_right owed) (sides (logs x)) (sides_made (logs x)))

  puts_right : (fs : List Sent) → AllByRecursion IsFrom fs → AllByRecursion (IsWired logs) (map (put x) fs)
  puts_right [] h = tt
  puts_right (f ∷ fs) h = (h.0, puts_right fs h.1)

  -- a pump keeps the logs linked
  pub linked_pump : (wire : List Wired) (owed : List Owed) → Linked logs wire → Linked logs (wire ++ map (put x) (frames_due x (logs x) owed))
  linked_pump wire owed h = linked_frames logs wire (map (put x) (frames_due x (logs x) owed)) h (puts_right (frames_due x (logs x) owed) (frames_right owed))
