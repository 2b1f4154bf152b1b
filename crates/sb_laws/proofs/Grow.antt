-- What stays when logs grow: numbered messages keep their places, sides stay made, what was accepted and closed stays so.
use Rattle.std.proofs.Common.{◌≡◌, ℕ, zero, suc, Bool, true, false, List, [], ◌∷◌, ◌++◌, ◌≤◌, Some, refl, sym, ◌∙◌, ap, subst, arith, inl, inr}
use Rattle.std.specs.Prelude.{flat_map, slice_get, not, ◌||◌, IsTrue, MatchBool}
use Rattle.std.specs.List.{list_any, AllByRecursion}
use Rattle.std.proofs.lemmas.List.Folds.{list_any-append}
use Rattle.sb_log.specs.declared.identifiers.SideId.{SideId}
use Rattle.sb_log.specs.declared.identifiers.Who.{Who}
use Rattle.sb_log.specs.declared.entries.Entry.{Entry}
use Rattle.sb_log.specs.declared.entries.Op.{Op}
use Rattle.sb_log.specs.declared.entries.Op.TheVariants.{Begin, Send, Took, End, Cleanup, Move, Timer, Put, Delete}
use Rattle.sb_log.specs.declared.messages.Content.{Content}
use Rattle.sb_log.specs.declared.messages.Data.{Data}
use Rattle.sb_log.specs.declared.messages.Frame.{Frame}
use Rattle.sb_log.specs.declared.messages.Frame.TheVariants as frame
use Rattle.sb_model.specs.Sides.{same_side, partner, is_home}
use Rattle.sb_model.specs.Sides.{Making, makings, made, has_side, is_of, ops_of}
use Rattle.sb_model.specs.Messages.{accepted, is_closed, is_ended, is_cleaned, is_expired, ends_side, cleans, expires_side, content_of_send, end_of_op}
use Rattle.sb_model.specs.Messages.{numbered, final_content, first_of}
use Rattle.sb_model.specs.Wire.{Wired}
use Rattle.sb_model.specs.Survival.{IsPrefixOf}
use Rattle.sb_model.specs.Links.{Logs, EndsForGood, SilentAfter, sends_on, IsSent, IsAcked, IsWired, IsFrameOf, IsFar, HasSide, CameFrom, TargetIsBegun, AckIsFrom}
use Rattle.sb_laws.proofs.Growth.{ops_of-append, made_kept, makings-append, accepted-append}
use Rattle.sb_laws.proofs.Kept.{numbered_grows}
use Rattle.sb_laws.proofs.Sides.{sides_same, side_self}

-- ---- tests

pub or_true_left : (a b : Bool) → a ≡ true → (a || b) ≡ true
or_true_left true b e = refl
or_true_left false b e = cc

pub or_true_right : (a b : Bool) → b ≡ true → (a || b) ≡ true
or_true_right true b e = refl
or_true_right false b e = e

pub or_false_left : (a b : Bool) → (a || b) ≡ false → a ≡ false
or_false_left true b e = e
or_false_left false b e = refl

pub or_false_right : (a b : Bool) → (a || b) ≡ false → b ≡ false
or_false_right true b e = cc
or_false_right false b e = e

pub or_false : (a b : Bool) → a ≡ false → b ≡ false → (a || b) ≡ false
or_false true b e f = e
or_false false b e f = f

pub not_true : (b : Bool) → not b ≡ true → b ≡ false
not_true true e = cc
not_true false e = refl

pub all_weaker : {X : Type 0} (P Q : X → Type 0) → ((x : X) → P x → Q x) → (xs : List X) → AllByRecursion P xs → AllByRecursion Q xs
all_weaker P Q f [] h = tt
all_weaker P Q f (x ∷ xs) h = (f x h.0, all_weaker P Q f xs h.1)

pub all_append : {X : Type 0} (P : X → Type 0) (xs ys : List X) → AllByRecursion P xs → AllByRecursion P ys → AllByRecursion P (xs ++ ys)
all_append P [] ys h k = k
all_append P (x ∷ xs) ys h k = (h.0, all_append P xs ys h.1 k)

pub all_left : {X : Type 0} (P : X → Type 0) (xs ys : List X) → AllByRecursion P (xs ++ ys) → AllByRecursion P xs
all_left P [] ys h = tt
all_left P (x ∷ xs) ys h = (h.0, all_left P xs ys h.1)

pub all_right : {X : Type 0} (P : X → Type 0) (xs ys : List X) → AllByRecursion P (xs ++ ys) → AllByRecursion P ys
all_right P [] ys h = h
all_right P (x ∷ xs) ys h = all_right P xs ys h.1

-- ---- ended for good

-- the operation ends or cleans the side
abbrev pub shuts : SideId → Op → Bool
shuts s (End side last) = same_side side s
shuts s (Cleanup side) = same_side side s
shuts s _ = false

any_left : {X : Type 0} (p : X → Bool) (xs ys : List X) → list_any p (xs ++ ys) ≡ false → list_any p xs ≡ false
any_left p xs ys e = or_false_left (list_any p xs) (list_any p ys) (sym (list_any-append p xs ys) ∙ e)

any_right : {X : Type 0} (p : X → Bool) (xs ys : List X) → list_any p (xs ++ ys) ≡ false → list_any p ys ≡ false
any_right p xs ys e = or_false_right (list_any p xs) (list_any p ys) (sym (list_any-append p xs ys) ∙ e)

pub any_more : {X : Type 0} (p : X → Bool) (xs ys : List X) → list_any p xs ≡ true → list_any p (xs ++ ys) ≡ true
any_more p xs ys e = list_any-append p xs ys ∙ or_true_left (list_any p xs) (list_any p ys) e

-- no send on the side stands later
silent_is : (op : Op) (later : List Op) (s : SideId) → SilentAfter op later → shuts s op ≡ true → list_any (sends_on s) later ≡ false
silent_is (End side last) later s h e = rw (sym (sides_same side s e)) (not_true (list_any (sends_on side) later) h)
silent_is (Cleanup side) later s h e = rw (sym (sides_same side s e)) (not_true (list_any (sends_on side) later) h)
silent_is (Begin a b c) later s h e = cc
silent_is (Send a b c) later s h e = cc
silent_is (Took a b) later s h e = cc
silent_is (Move a b) later s h e = cc
silent_is (Timer a b) later s h e = cc
silent_is (Put a b c d) later s h e = cc
silent_is (Delete a b) later s h e = cc

is_silent : (op : Op) (later : List Op) → ((s : SideId) → shuts s op ≡ true → list_any (sends_on s) later ≡ false) → SilentAfter op later
is_silent (End side last) later f = ap not (f side (side_self side))
is_silent (Cleanup side) later f = ap not (f side (side_self side))
is_silent (Begin a b c) later f = tt
is_silent (Send a b c) later f = tt
is_silent (Took a b) later f = tt
is_silent (Move a b) later f = tt
is_silent (Timer a b) later f = tt
is_silent (Put a b c d) later f = tt
is_silent (Delete a b) later f = tt

pub ended_left : (xs ys : List Op) → EndsForGood (xs ++ ys) → EndsForGood xs
ended_left [] ys h = tt
ended_left (op ∷ xs) ys h =
    (is_silent op xs (λ s e. any_left (sends_on s) xs ys (silent_is op (xs ++ ys) s h.0 e)), ended_left xs ys h.1)

pub ended_right : (xs ys : List Op) → EndsForGood (xs ++ ys) → EndsForGood ys
ended_right [] ys h = h
ended_right (op ∷ xs) ys h = ended_right xs ys h.1

-- no send stands behind what shuts the side
pub ended_behind : (xs ys : List Op) (s : SideId) → EndsForGood (xs ++ ys) → list_any (shuts s) xs ≡ true → list_any (sends_on s) ys ≡ false
ended_behind [] ys s h e = cc
ended_behind (op ∷ xs) ys s h e = by_test (shuts s op) refl (ended_behind xs ys s h.1)
  where
    by_test : (b : Bool) → shuts s op ≡ b → (list_any (shuts s) xs ≡ true → list_any (sends_on s) ys ≡ false) → list_any (sends_on s) ys ≡ false
    by_test true f rest = any_right (sends_on s) xs ys (silent_is op (xs ++ ys) s h.0 f)
    by_test false f rest = rest (sym (ap (λ b. b || list_any (shuts s) xs) f) ∙ e)

pub ended_join : (xs ys : List Op) → EndsForGood xs → EndsForGood ys →
    ((s : SideId) → list_any (shuts s) xs ≡ true → list_any (sends_on s) ys ≡ false) → EndsForGood (xs ++ ys)
ended_join [] ys h k f = k
ended_join (op ∷ xs) ys h k f = (
  is_silent op (xs ++ ys) (λ s e. list_any-append (sends_on s) xs ys
      ∙ or_false (list_any (sends_on s) xs) (list_any (sends_on s) ys) (silent_is op xs s h.0 e) (f s (or_true_left (shuts s op) (list_any (shuts s) xs) e))),
  ended_join xs ys h.1 k (λ s e. f s (or_true_right (shuts s op) (list_any (shuts s) xs) e)),
)

-- ---- numbered messages keep their places

no_send : (op : Op) (s : SideId) → sends_on s op ≡ false → content_of_send s op ≡ []
no_send (Send side k body) s e = rw e refl
no_send (End side last) s e = refl
no_send (Cleanup side) s e = refl
no_send (Begin a b c) s e = refl
no_send (Took a b) s e = refl
no_send (Move a b) s e = refl
no_send (Timer a b) s e = refl
no_send (Put a b c d) s e = refl
no_send (Delete a b) s e = refl

pub no_sends : (ops : List Op) (s : SideId) → list_any (sends_on s) ops ≡ false → flat_map (content_of_send s) ops ≡ []
no_sends [] s e = refl
no_sends (op ∷ ops) s e =
    ap (λ l. l ++ flat_map (content_of_send s) ops) (no_send op s (or_false_left (sends_on s op) (list_any (sends_on s) ops) e))
    ∙ no_sends ops s (or_false_right (sends_on s op) (list_any (sends_on s) ops) e)

no_end : (op : Op) (s : SideId) → shuts s op ≡ false → end_of_op s op ≡ []
no_end (End side last) s e = rw e refl
no_end (Send side k body) s e = refl
no_end (Cleanup side) s e = refl
no_end (Begin a b c) s e = refl
no_end (Took a b) s e = refl
no_end (Move a b) s e = refl
no_end (Timer a b) s e = refl
no_end (Put a b c d) s e = refl
no_end (Delete a b) s e = refl

no_ends : (ops : List Op) (s : SideId) → list_any (shuts s) ops ≡ false → flat_map (end_of_op s) ops ≡ []
no_ends [] s e = refl
no_ends (op ∷ ops) s e =
    ap (λ l. l ++ flat_map (end_of_op s) ops) (no_end op s (or_false_left (shuts s op) (list_any (shuts s) ops) e))
    ∙ no_ends ops s (or_false_right (shuts s op) (list_any (shuts s) ops) e)

pub numbered_more : (log more : List Entry) (s : SideId) → EndsForGood (ops_of (log ++ more)) → IsPrefixOf (numbered log s) (numbered (log ++ more) s)
numbered_more log more s h = by_test (list_any (shuts s) (ops_of log)) refl
  where
    by_test : (b : Bool) → list_any (shuts s) (ops_of log) ≡ b → IsPrefixOf (numbered log s) (numbered (log ++ more) s)
    by_test true e = numbered_grows log more s (inr (no_sends (ops_of more) s (ended_behind (ops_of log) (ops_of more) s (subst EndsForGood (ops_of-append log more) h) e)))
    by_test false e = numbered_grows log more s (inl (ap (λ l. first_of (flat_map final_content l)) (no_ends (ops_of log) s e)))

-- ---- one log that grows

pub place_kept : {A : Type 0} (xs ys : List A) (k : ℕ) (x : A) → IsPrefixOf xs ys → slice_get xs k ≡ Some x → slice_get ys k ≡ Some x
place_kept {A = A} xs ys k x p e = subst (λ l. slice_get l k ≡ Some x) p.1 (at xs p.0 k e)
  where
    at : (us vs : List A) (j : ℕ) → slice_get us j ≡ Some x → slice_get (us ++ vs) j ≡ Some x
    at [] vs j f = cc
    at (u ∷ us) vs zero f = f
    at (u ∷ us) vs (suc j) f = at us vs j f

pub numbered_grown : (log longer : List Entry) (s : SideId) → IsPrefixOf log longer → EndsForGood (ops_of longer) → IsPrefixOf (numbered log s) (numbered longer s)
numbered_grown log longer s p h =
    subst (λ l. IsPrefixOf (numbered log s) (numbered l s)) p.1 (numbered_more log p.0 s (subst (λ l. EndsForGood (ops_of l)) (sym p.1) h))

pub made_grown : (log longer : List Entry) (s : SideId) (m : Making) → IsPrefixOf log longer → made log s ≡ Some m → made longer s ≡ Some m
made_grown log longer s m p e = subst (λ l. made l s ≡ Some m) p.1 (made_kept log p.0 s m e)

pub has_side_grown : (log longer : List Entry) (s : SideId) → IsPrefixOf log longer → IsTrue (has_side log s) → IsTrue (has_side longer s)
has_side_grown log longer s p e =
    subst (λ l. IsTrue (has_side l s)) p.1 (ap (list_any (is_of s)) (makings-append log p.0) ∙ any_more (is_of s) (makings log) (makings p.0) e)

pub accepted_grown : (log longer : List Entry) (s : SideId) (n : ℕ) → IsPrefixOf log longer → n ≤ accepted log s → n ≤ accepted longer s
accepted_grown log longer s n p h = subst (λ l. n ≤ accepted l s) p.1 (omega (arith, accepted-append log p.0 s, h))

pub closed_more : (log more : List Entry) (s : SideId) → IsTrue (is_closed log s) → IsTrue (is_closed (log ++ more) s)
closed_more log more s e =
    let en : is_ended (log ++ more) s ≡ (is_ended log s || is_ended more s) =
    ap (list_any (ends_side s)) (ops_of-append log more) ∙ list_any-append (ends_side s) (ops_of log) (ops_of more) in
    let cl : is_cleaned (log ++ more) s ≡ (is_cleaned log s || is_cleaned more s) =
    ap (list_any (cleans s)) (ops_of-append log more) ∙ list_any-append (cleans s) (ops_of log) (ops_of more) in
    let ex : is_expired (log ++ more) s ≡ (is_expired log s || is_expired more s) = list_any-append (expires_side s) log more in
    rw (en, cl, ex) (grow (is_ended log s) (is_cleaned log s) (is_expired log s) (is_ended more s) (is_cleaned more s) (is_expired more s) e)
  where
    grow : (a b c d e f : Bool) → (a || b || c) ≡ true → ((a || d) || (b || e) || (c || f)) ≡ true
    grow true b c d e f h = refl
    grow false true c d e f h = or_true_left (d || true) (c || f) (or_true_right d true refl)
    grow false false true d e f h = or_true_right (d || e) true refl
    grow false false false d e f h = cc

pub closed_grown : (log longer : List Entry) (s : SideId) → IsPrefixOf log longer → IsTrue (is_closed log s) → IsTrue (is_closed longer s)
closed_grown log longer s p e = subst (λ l. IsTrue (is_closed l s)) p.1 (closed_more log p.0 s e)

-- ---- both logs grow

pub record Grown (logs later : Logs) : Type 0 where
  pub grows : (x : Who) → IsPrefixOf (logs x) (later x)
  pub ended : (x : Who) → EndsForGood (ops_of (later x))

matched : (b : Bool) (P R Q : Type 0) → (P → R) → MatchBool b P Q → MatchBool b R Q
matched true P R Q f h = f h
matched false P R Q f h = h

module _ (logs later : Logs) (g : Grown logs later) where
  pub sent_kept : (x : Who) (d : Data) → IsSent logs x d → IsSent later x d
  sent_kept x d h = record {
    making = h.making;
    from_log = made_grown (logs x) (later x) d.side h.making (g.grows x) h.from_log;
    turned = h.turned;
    place = place_kept (numbered (logs x) d.side) (numbered (later x) d.side) _ d.content (numbered_grown (logs x) (later x) d.side (g.grows x) (g.ended x)) h.place;
    numbered_from_1 = h.numbered_from_1;
  }

  pub acked_kept : (y : Who) (s : SideId) (upto : ℕ) (closed : Bool) → IsAcked logs y s upto closed → IsAcked later y s upto closed
  acked_kept y s upto closed h = record {
    there = has_side_grown (logs y) (later y) (partner s) (g.grows y) h.there;
    upto_accepted = accepted_grown (logs y) (later y) (partner s) upto (g.grows y) h.upto_accepted;
    closed_there = λ e. closed_grown (logs y) (later y) (partner s) (g.grows y) (h.closed_there e);
  }

  pub frame_kept : (x : Who) (f : Frame) → IsFrameOf logs x f → IsFrameOf later x f
  frame_kept x (frame.Data d) h = sent_kept x d h
  frame_kept x (frame.Ack k) h = acked_kept x k.side k.upto k.closed h

  -- parts 3 and 5 for frames
  pub frames_kept : (wire : List Wired) → AllByRecursion (IsWired logs) wire → AllByRecursion (IsWired later) wire
  frames_kept wire h = all_weaker (IsWired logs) (IsWired later) (λ f k. frame_kept f.from f.frame k) wire h

  pub far_kept : (y : Who) (s : SideId) → IsFar logs y s → IsFar later y s
  far_kept y s h = matched s.initiator (HasSide logs y (partner s)) (HasSide later y (partner s)) (IsTrue (is_home y s.conversation))
      (has_side_grown (logs y) (later y) (partner s) (g.grows y)) h

  -- part 4
  pub came_kept : (s : SideId) (k : ℕ) (c : Content) → CameFrom logs s k c → CameFrom later s k c
  came_kept s k c h = record {
    far = h.far;
    is_far = far_kept h.far s h.is_far;
    place = place_kept (numbered (logs h.far) (partner s)) (numbered (later h.far) (partner s)) k c (numbered_grown (logs h.far) (later h.far) (partner s) (g.grows h.far) (g.ended h.far)) h.place;
  }

  -- part 5 for entries
  pub ack_kept : (s : SideId) (ack : ℕ × Bool) → AckIsFrom logs s ack → AckIsFrom later s ack
  ack_kept s ack h = (h.0, acked_kept h.0 s ack.0 ack.1 h.1)

  -- part 2
  pub begun_kept : (x : Who) (m : Making) → TargetIsBegun logs x m → TargetIsBegun later x m
  begun_kept x m h target = let b = h target in record {
    home = b.home;
    is_there = b.is_there;
    begun = b.begun;
    from_log = made_grown (logs b.home) (later b.home) (partner m.side) b.begun (g.grows b.home) b.from_log;
    same = b.same;
    for_here = b.for_here;
  }
