-- Where a history may start, and what holds after it.
use Rattle.std.proofs.Common.{◌≡◌, ℕ, zero, suc, true, false, List, [], ◌∷◌, ◌++◌, ◌+◌, ◌^◌, ◌≤◌, Option, Some, refl, sym, ◌∙◌, ap, subst, length, length-append, arith, append-nil, append_assoc, take}
use Rattle.std.specs.Prelude.{filter, flat_map, slice_get, ◌&&◌, nat_le, is_some}
use Rattle.std.specs.List.{list_all, AllByRecursion}
use Rattle.std.proofs.lemmas.List.{take_at, append_cancel_left}
use Rattle.std.proofs.lemmas.Bool.Decides.{nat_tests}
use Rattle.sb_log.specs.declared.identifiers.Who.{Who}
use Rattle.sb_log.specs.declared.identifiers.Who.TheVariants.{A, B}
use Rattle.sb_log.specs.declared.entries.Entry.{Entry}
use Rattle.sb_log.specs.declared.entries.Entry.TheVariants.{Defined, Txn, Accepted, Acked, Fired, Expired, QueueSet}
use Rattle.sb_log.specs.declared.entries.Op.{Op}
use Rattle.sb_log.specs.declared.entries.Op.TheVariants.{Begin, Send, Took, End, Cleanup, Move, Timer, Put, Delete}
use Rattle.sb_log.specs.declared.steps.Step.{Step}
use Rattle.sb_model.specs.Sides.{makings, ops_of, ops_of_entry}
use Rattle.sb_model.specs.Catalog.{find_queue}
use Rattle.sb_model.specs.Items.{items, items_from, taken, taken_by}
use Rattle.sb_model.specs.Transactions.{with_ops}
use Rattle.sb_model.specs.Logs.{is_allowed, is_op_allowed, are_ops_allowed, are_allowed_after, is_item, WellFormed}
use Rattle.sb_model.specs.Steps.{World, part}
use Rattle.sb_model.specs.Survival.{Survives}
use Rattle.sb_model.specs.Histories.{Legal, after, first_world, kept, at_most}
use Rattle.sb_model.specs.Links.{Linked, IsSound, BeginsHere, MakesTarget, EndsForGood, TargetIsBegun, AcceptedFrom, AckedFrom, TakenInOrder, DeliversInOrder, StaysLinked, AckIsFrom, Logs, numbers_of, is_item_of, both}
use Rattle.sb_laws.specs.Worlds.{StaysFresh, survivor}
use Rattle.sb_laws.specs.Starts.{StartsLinked, IsReady, is_ready_entry, begins_at}
use Rattle.sb_laws.proofs.Sides.{both_left, both_right}
use Rattle.sb_laws.proofs.Growth.{items_from-append, taken-append}
use Rattle.sb_laws.proofs.Grow.{all_weaker, all_append}
use Rattle.sb_laws.proofs.Views.{items_view}
use Rattle.sb_laws.proofs.Delivered.{receives_in_order}
use Rattle.sb_model.specs.Links.{DeliversInTurn}
use Rattle.sb_laws.proofs.InTurn.{delivers_in_turn}
use Rattle.sb_laws.specs.Kept.{KeepsOutgoing, KeepsItems}
use Rattle.sb_laws.proofs.Lost.{keeps_outgoing, keeps_items}
use Rattle.sb_laws.proofs.Opens.{LogOk, AreWithin}
use Rattle.sb_laws.proofs.Parts.{PartOk}
use Rattle.sb_laws.proofs.Worlds.{WorldOk, AreBelow, opened_low, opened_ok}
use Rattle.sb_laws.proofs.Steps.{IsOwn}
use Rattle.sb_laws.proofs.Deliveries.{own_accepts, own_acks, own_begun}
use Rattle.sb_laws.proofs.Delivery.{history_keeps}
use Rattle.sb_laws.specs.Ready.{ready_log}

-- ---- in a well-formed log each taken number is that of an item

within_ops : (log : List Entry) (tx : ℕ) (done ops : List Op) → are_ops_allowed log tx done ops ≡ true → AreWithin (items log) (flat_map taken_by ops)
within_ops log tx done [] e = tt
within_ops log tx done (op ∷ ops) e =
    all_append (λ n. n ≤ length (items log)) (taken_by op) (flat_map taken_by ops)
    (one op (both_left (is_op_allowed (with_ops log tx done) op) (are_ops_allowed log tx (done ++ op ∷ []) ops) e))
    (within_ops log tx (done ++ op ∷ []) ops (both_right (is_op_allowed (with_ops log tx done) op) (are_ops_allowed log tx (done ++ op ∷ []) ops) e))
  where
    number : (n k : ℕ) → (nat_le 1 n && nat_le n k) ≡ true → n ≤ k
    number n k f = let g : nat_le n k ≡ true = both_right (nat_le 1 n) (nat_le n k) f in grind (arith, nat_tests)

    one : (o : Op) → is_op_allowed (with_ops log tx done) o ≡ true → AreWithin (items log) (taken_by o)
    one (Took q n) f = (
      number n (length (items log)) (subst (λ its. (nat_le 1 n && nat_le n (length its)) ≡ true) (items_view log tx done)
          (both_right (is_some (find_queue (with_ops log tx done) q)) (is_item (with_ops log tx done) n) f)),
      tt,
    )
    one (Begin a b c) f = tt
    one (Send a b c) f = tt
    one (End a b) f = tt
    one (Cleanup a) f = tt
    one (Move a b) f = tt
    one (Timer a b) f = tt
    one (Put a b c d) f = tt
    one (Delete a b) f = tt

within_entry : (log : List Entry) (e : Entry) → is_allowed log e ≡ true → AreWithin (items log) (taken log) → AreWithin (items (log ++ e ∷ [])) (taken (log ++ e ∷ []))
within_entry log e f h =
    subst (AreWithin (items (log ++ e ∷ []))) (sym (taken-append log (e ∷ [])))
    (all_weaker (λ n. n ≤ length (items log)) (λ n. n ≤ length (items (log ++ e ∷ []))) (λ n le. omega (arith, le, longer)) (taken log ++ taken (e ∷ []))
    (all_append (λ n. n ≤ length (items log)) (taken log) (taken (e ∷ [])) h (new e f)))
  where
    longer : length (items (log ++ e ∷ [])) ≡ length (items log) + length (items_from (1 + length (items log)) (e ∷ []))
    longer = ap length (items_from-append 1 log (e ∷ [])) ∙ length-append (items log) (items_from (1 + length (items log)) (e ∷ []))

    new : (k : Entry) → is_allowed log k ≡ true → AreWithin (items log) (taken (k ∷ []))
    new (Txn tx ops) g = subst (λ l. AreWithin (items log) (flat_map taken_by l)) (sym (append-nil ops)) (within_ops log tx [] ops g)
    new (Defined a) g = tt
    new (Accepted a b c d) g = tt
    new (Acked a b c) g = tt
    new (Fired a) g = tt
    new (Expired a) g = tt
    new (QueueSet a b) g = tt

within_more : (log es : List Entry) → are_allowed_after log es ≡ true → AreWithin (items log) (taken log) → AreWithin (items (log ++ es)) (taken (log ++ es))
within_more log [] f h = subst (λ l. AreWithin (items l) (taken l)) (sym (append-nil log)) h
within_more log (e ∷ es) f h = subst (λ l. AreWithin (items l) (taken l)) (append_assoc log (e ∷ []) es)
    (within_more (log ++ e ∷ []) es (both_right (is_allowed log e) (are_allowed_after (log ++ e ∷ []) es) f)
    (within_entry log e (both_left (is_allowed log e) (are_allowed_after (log ++ e ∷ []) es) f) h))

log_starts : (x : Who) (log : List Entry) → IsSound x log → TakenInOrder log → WellFormed log → LogOk x log
log_starts x log sound order formed = record { formed = formed; sound = sound; in_order = order; within = within_more [] log formed tt }

-- ---- the first state

take_none : {X : Type 0} (k : ℕ) → take k (let e : List X = [] in e) ≡ []
take_none zero = refl
take_none (suc k) = refl

module _ (log_a log_b : List Entry) (end_a end_b : Option ℕ) (h : StartsLinked log_a log_b) where
  ok_a : LogOk A log_a
  ok_a = log_starts A log_a (h.linked.sound A) (h.linked.taken_in_order A) h.formed_a

  ok_b : LogOk B log_b
  ok_b = log_starts B log_b (h.linked.sound B) (h.linked.taken_in_order B) h.formed_b

  pub start_ok : WorldOk (first_world log_a end_a log_b end_b)
  start_ok = record {
    each = each;
    who = who;
    linked = λ j k. subst (λ l. Linked (both l (log_b ++ take k [])) []) (whole log_a j) (subst (λ l. Linked (both log_a l) []) (whole log_b k) h.linked);
  }
    where
      whole : (log : List Entry) (k : ℕ) → log ≡ log ++ take k (let e : List Entry = [] in e)
      whole log k = sym (append-nil log) ∙ ap (λ l. log ++ l) (sym (take_none k))

      each : (x : Who) → PartOk (part (first_world log_a end_a log_b end_b) x)
      each A = opened_ok A log_a ok_a h.fresh_a end_a
      each B = opened_ok B log_b ok_b h.fresh_b end_b

      who : (x : Who) → (part (first_world log_a end_a log_b end_b) x).who ≡ x
      who A = refl
      who B = refl

  pub start_below : AreBelow (2 ^ 62) (first_world log_a end_a log_b end_b)
  start_below = below
    where
      below : (x : Who) → ((part (first_world log_a end_a log_b end_b) x).next_handle ≤ 2 ^ 62) × ((part (first_world log_a end_a log_b end_b) x).next_tx ≤ 2 ^ 62)
      below A = opened_low A log_a ok_a h.fresh_a
      below B = opened_low B log_b ok_b h.fresh_b

  -- the invariant along every legal history
  pub kept_along : (steps : List Step) → length steps ≤ 2 ^ 60 → Legal (first_world log_a end_a log_b end_b) steps → StaysFresh (first_world log_a end_a log_b end_b) steps →
      WorldOk (after (first_world log_a end_a log_b end_b) steps)
  kept_along steps short legal fresh =
      history_keeps (2 ^ 62) (first_world log_a end_a log_b end_b) steps (omega arith) (omega (arith, short)) start_below start_ok legal fresh

-- ---- what follows

-- a log that survives is the certain one with a beginning of the doubt
survives_is : (log doubt l : List Entry) → Survives (log ++ doubt) log l → (k : ℕ) × (log ++ take k doubt ≡ l)
survives_is log doubt l s =
    let same : s.keeps.0 ++ s.within.0 ≡ doubt = append_cancel_left log (s.keeps.0 ++ s.within.0) doubt (sym (append_assoc log s.keeps.0 s.within.0) ∙ ap (λ z. z ++ s.within.0) s.keeps.1 ∙ s.within.1) in
    (length s.keeps.0, ap (λ d. log ++ take (length s.keeps.0) d) (sym same) ∙ ap (λ z. log ++ z) (take_at s.keeps.0 s.within.0 (length s.keeps.0) refl) ∙ s.keeps.1)

-- the inductive form: whatever survives is linked
pub survivors_linked : (w : World) → WorldOk w → StaysLinked w
survivors_linked w h a b sa sb =
    let ka = survives_is w.a.log w.a.doubt a sa in
    let kb = survives_is w.b.log w.b.doubt b sb in
    subst (λ l. Linked (both l b) w.wire) ka.1 (subst (λ l. Linked (both (survivor w.a ka.0) l) w.wire) kb.1 (h.linked ka.0 kb.0))

-- and well formed
pub survivors_formed : (w : World) → WorldOk w → (x : Who) (l : List Entry) → Survives (at_most w x) (kept w x) l → WellFormed l
survivors_formed w h x l s = let k = survives_is (part w x).log (part w x).doubt l s in subst WellFormed k.1 ((h.each x).logs k.0).formed

pub formed_after : (log_a log_b : List Entry) (end_a end_b : Option ℕ) (steps : List Step) → StartsLinked log_a log_b → length steps ≤ 2 ^ 60 →
    Legal (first_world log_a end_a log_b end_b) steps → StaysFresh (first_world log_a end_a log_b end_b) steps → (x : Who) (l : List Entry) →
    Survives (at_most (after (first_world log_a end_a log_b end_b) steps) x) (kept (after (first_world log_a end_a log_b end_b) steps) x) l → WellFormed l
formed_after log_a log_b end_a end_b steps h short legal fresh =
    survivors_formed (after (first_world log_a end_a log_b end_b) steps) (kept_along log_a log_b end_a end_b h steps short legal fresh)

pub linked_after : (log_a log_b : List Entry) (end_a end_b : Option ℕ) (steps : List Step) → StartsLinked log_a log_b → length steps ≤ 2 ^ 60 →
    Legal (first_world log_a end_a log_b end_b) steps → StaysFresh (first_world log_a end_a log_b end_b) steps → StaysLinked (after (first_world log_a end_a log_b end_b) steps)
linked_after log_a log_b end_a end_b steps h short legal fresh =
    survivors_linked (after (first_world log_a end_a log_b end_b) steps) (kept_along log_a log_b end_a end_b h steps short legal fresh)

pub delivered_after : (log_a log_b : List Entry) (end_a end_b : Option ℕ) (steps : List Step) → StartsLinked log_a log_b → length steps ≤ 2 ^ 60 →
    Legal (first_world log_a end_a log_b end_b) steps → StaysFresh (first_world log_a end_a log_b end_b) steps → (a b : List Entry) →
    Survives (at_most (after (first_world log_a end_a log_b end_b) steps) A) (kept (after (first_world log_a end_a log_b end_b) steps) A) a →
    Survives (at_most (after (first_world log_a end_a log_b end_b) steps) B) (kept (after (first_world log_a end_a log_b end_b) steps) B) b → DeliversInOrder (both a b)
delivered_after log_a log_b end_a end_b steps h short legal fresh a b sa sb =
    receives_in_order (both a b) (after (first_world log_a end_a log_b end_b) steps).wire (linked_after log_a log_b end_a end_b steps h short legal fresh a b sa sb)

pub in_turn_after : (log_a log_b : List Entry) (end_a end_b : Option ℕ) (steps : List Step) → StartsLinked log_a log_b → length steps ≤ 2 ^ 60 →
    Legal (first_world log_a end_a log_b end_b) steps → StaysFresh (first_world log_a end_a log_b end_b) steps → (a b : List Entry) →
    Survives (at_most (after (first_world log_a end_a log_b end_b) steps) A) (kept (after (first_world log_a end_a log_b end_b) steps) A) a →
    Survives (at_most (after (first_world log_a end_a log_b end_b) steps) B) (kept (after (first_world log_a end_a log_b end_b) steps) B) b → DeliversInTurn (both a b)
in_turn_after log_a log_b end_a end_b steps h short legal fresh a b sa sb =
    delivers_in_turn (both a b) (after (first_world log_a end_a log_b end_b) steps).wire (linked_after log_a log_b end_a end_b steps h short legal fresh a b sa sb) formed
  where
    formed : (x : Who) → WellFormed (both a b x)
    formed A = formed_after log_a log_b end_a end_b steps h short legal fresh A a sa
    formed B = formed_after log_a log_b end_a end_b steps h short legal fresh B b sb

pub outgoing_after : (log_a log_b : List Entry) (end_a end_b : Option ℕ) (steps : List Step) → StartsLinked log_a log_b → length steps ≤ 2 ^ 60 →
    Legal (first_world log_a end_a log_b end_b) steps → StaysFresh (first_world log_a end_a log_b end_b) steps → (a b : List Entry) →
    Survives (at_most (after (first_world log_a end_a log_b end_b) steps) A) (kept (after (first_world log_a end_a log_b end_b) steps) A) a →
    Survives (at_most (after (first_world log_a end_a log_b end_b) steps) B) (kept (after (first_world log_a end_a log_b end_b) steps) B) b → KeepsOutgoing (both a b)
outgoing_after log_a log_b end_a end_b steps h short legal fresh a b sa sb =
    keeps_outgoing (both a b) (after (first_world log_a end_a log_b end_b) steps).wire (linked_after log_a log_b end_a end_b steps h short legal fresh a b sa sb)

pub items_after : (log_a log_b : List Entry) (end_a end_b : Option ℕ) (steps : List Step) → StartsLinked log_a log_b → length steps ≤ 2 ^ 60 →
    Legal (first_world log_a end_a log_b end_b) steps → StaysFresh (first_world log_a end_a log_b end_b) steps → (x : Who) (l : List Entry) →
    Survives (at_most (after (first_world log_a end_a log_b end_b) steps) x) (kept (after (first_world log_a end_a log_b end_b) steps) x) l → KeepsItems l
items_after log_a log_b end_a end_b steps h short legal fresh x l s = keeps_items l (formed_after log_a log_b end_a end_b steps h short legal fresh x l s)

-- ---- a log that is made by hand

module _ (x : Who) where
  ready_op : (op : Op) → begins_at x op ≡ true → BeginsHere x op × (taken_by op ≡ [])
  ready_op (Begin a b c) e = (e, refl)
  ready_op (Send a b c) e = cc
  ready_op (Took a b) e = cc
  ready_op (End a b) e = cc
  ready_op (Cleanup a) e = cc
  ready_op (Move a b) e = cc
  ready_op (Timer a b) e = cc
  ready_op (Put a b c d) e = cc
  ready_op (Delete a b) e = cc

  ready_ops : (log : List Entry) → list_all (is_ready_entry x) log ≡ true → AllByRecursion (λ op. begins_at x op ≡ true) (ops_of log)
  ready_ops [] e = tt
  ready_ops (k ∷ log) e = all_append (λ op. begins_at x op ≡ true) (ops_of_entry k) (ops_of log)
      (one k (both_left (is_ready_entry x k) (list_all (is_ready_entry x) log) e)) (ready_ops log (both_right (is_ready_entry x k) (list_all (is_ready_entry x) log) e))
    where
      each : (ops : List Op) → list_all (begins_at x) ops ≡ true → AllByRecursion (λ op. begins_at x op ≡ true) ops
      each [] f = tt
      each (op ∷ ops) f = (both_left (begins_at x op) (list_all (begins_at x) ops) f, each ops (both_right (begins_at x op) (list_all (begins_at x) ops) f))

      one : (k : Entry) → is_ready_entry x k ≡ true → AllByRecursion (λ op. begins_at x op ≡ true) (ops_of_entry k)
      one (Txn tx ops) f = each ops f
      one (Defined a) f = tt
      one (QueueSet a b) f = tt
      one (Accepted a b c d) f = cc
      one (Acked a b c) f = cc
      one (Fired a) f = cc
      one (Expired a) f = cc

  ready_takes : (ops : List Op) → AllByRecursion (λ op. begins_at x op ≡ true) ops → flat_map taken_by ops ≡ []
  ready_takes [] h = refl
  ready_takes (op ∷ ops) h = ap (λ l. l ++ flat_map taken_by ops) (ready_op op h.0).1 ∙ ready_takes ops h.1

  ready_ends : (ops : List Op) → AllByRecursion (λ op. begins_at x op ≡ true) ops → EndsForGood ops
  ready_ends [] h = tt
  ready_ends (Begin a b c ∷ ops) h = (tt, ready_ends ops h.1)
  ready_ends (Send a b c ∷ ops) h = absurd (no h.0)
    where
      no : false ≡ true → ⊥
      no e = cc
  ready_ends (Took a b ∷ ops) h = (tt, ready_ends ops h.1)
  ready_ends (End a b ∷ ops) h = absurd (no h.0)
    where
      no : false ≡ true → ⊥
      no e = cc
  ready_ends (Cleanup a ∷ ops) h = absurd (no h.0)
    where
      no : false ≡ true → ⊥
      no e = cc
  ready_ends (Move a b ∷ ops) h = (tt, ready_ends ops h.1)
  ready_ends (Timer a b ∷ ops) h = (tt, ready_ends ops h.1)
  ready_ends (Put a b c d ∷ ops) h = (tt, ready_ends ops h.1)
  ready_ends (Delete a b ∷ ops) h = (tt, ready_ends ops h.1)

  ready_targets : (log : List Entry) → list_all (is_ready_entry x) log ≡ true → AllByRecursion MakesTarget log
  ready_targets [] e = tt
  ready_targets (k ∷ log) e = (one k (both_left (is_ready_entry x k) (list_all (is_ready_entry x) log) e), ready_targets log (both_right (is_ready_entry x k) (list_all (is_ready_entry x) log) e))
    where
      one : (k : Entry) → is_ready_entry x k ≡ true → MakesTarget k
      one (Txn tx ops) f = tt
      one (Defined a) f = tt
      one (QueueSet a b) f = tt
      one (Accepted a b c d) f = cc
      one (Acked a b c) f = tt
      one (Fired a) f = tt
      one (Expired a) f = tt

  ready_own : (log : List Entry) → list_all (is_ready_entry x) log ≡ true → AllByRecursion IsOwn log
  ready_own [] e = tt
  ready_own (k ∷ log) e = (one k (both_left (is_ready_entry x k) (list_all (is_ready_entry x) log) e), ready_own log (both_right (is_ready_entry x k) (list_all (is_ready_entry x) log) e))
    where
      one : (k : Entry) → is_ready_entry x k ≡ true → IsOwn k
      one (Txn tx ops) f = tt
      one (Defined a) f = tt
      one (QueueSet a b) f = tt
      one (Accepted a b c d) f = cc
      one (Acked a b c) f = cc
      one (Fired a) f = tt
      one (Expired a) f = tt

  ready_sound : (log : List Entry) → list_all (is_ready_entry x) log ≡ true → IsSound x log
  ready_sound log e = record {
    own_tags = all_weaker (λ op. begins_at x op ≡ true) (BeginsHere x) (λ op f. (ready_op op f).0) (ops_of log) (ready_ops log e);
    targets = ready_targets log e;
    ended = ready_ends (ops_of log) (ready_ops log e);
  }

  ready_order : (log : List Entry) → list_all (is_ready_entry x) log ≡ true → TakenInOrder log
  ready_order log e s = (numbers_of s (items log), ap (λ ns. filter (is_item_of log s) ns ++ numbers_of s (items log)) (ready_takes (ops_of log) (ready_ops log e)))

-- nothing is accepted or acknowledged
no_place : {P X : Type 0} (k : ℕ) (c : X) → slice_get (let e : List X = [] in e) k ≡ Some c → P
no_place zero c e = cc
no_place (suc k) c e = cc

module _ (logs : Logs) (x : Who) (ready : list_all (is_ready_entry x) (logs x) ≡ true) where
  ready_accepted : AcceptedFrom logs x
  ready_accepted s k c e = no_place k c (sym (ap (λ l. slice_get l k) (own_accepts s (logs x) (ready_own x (logs x) ready))) ∙ e)

  ready_acked : AckedFrom logs x
  ready_acked s = subst (AllByRecursion (AckIsFrom logs s)) (sym (own_acks s (logs x) (ready_own x (logs x) ready))) tt

  ready_begun : AllByRecursion (TargetIsBegun logs x) (makings (logs x))
  ready_begun = own_begun logs x (logs x) (ready_own x (logs x) ready)

pub ready_starts : (log_a log_b : List Entry) → IsReady A log_a → IsReady B log_b → StartsLinked log_a log_b
ready_starts log_a log_b a b = record {
  linked = record {
    sound = sound;
    begun = λ x. ready_begun logs x (only x);
    frames = tt;
    accepted_from = λ x. ready_accepted logs x (only x);
    acked_from = λ x. ready_acked logs x (only x);
    taken_in_order = λ x. ready_order x (logs x) (only x);
  };
  formed_a = a.formed;
  formed_b = b.formed;
  fresh_a = a.fresh;
  fresh_b = b.fresh;
}
  where
    logs : Logs
    logs = both log_a log_b

    only : (x : Who) → list_all (is_ready_entry x) (both log_a log_b x) ≡ true
    only A = a.only
    only B = b.only

    sound : (x : Who) → IsSound x (both log_a log_b x)
    sound A = ready_sound A log_a a.only
    sound B = ready_sound B log_b b.only

-- nothing is there yet
pub nothing_ready : (x : Who) → IsReady x []
nothing_ready x = record { only = refl; formed = refl; fresh = refl }

pub example_ready : IsReady A ready_log
example_ready = record { only = refl; formed = refl; fresh = refl }
