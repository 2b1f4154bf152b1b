-- OpenTransaction transactions: what stands beside the log, and how it is kept when the log grows or a transaction does.
use Rattle.std.proofs.Common.{◌≡◌, ℕ, Bool, true, false, List, [], ◌∷◌, ◌++◌, ◌+◌, ◌≤◌, ◌<◌, Option, Some, None, refl, sym, ◌∙◌, ap, subst, length, arith, cond, inl, inr, append-nil, append_assoc, length-append}
use Rattle.std.specs.Prelude.{filter, flat_map, find, ◌⊎◌, not, IsTrue, ⊤, ◌==◌, ◌&&◌, ◌||◌, option_map, is_none}
use Rattle.std.specs.List.{list_any, AllByRecursion}
use Rattle.std.proofs.lemmas.List.Folds.{list_any-append}
use Rattle.std.proofs.lemmas.Grind.{flat_map-append}
use Rattle.sb_log.specs.declared.identifiers.Handle.{Handle}
use Rattle.sb_log.specs.declared.identifiers.SideId.{SideId}
use Rattle.sb_log.specs.declared.identifiers.Who.{Who}
use Rattle.sb_log.specs.declared.entries.Entry.{Entry}
use Rattle.sb_log.specs.declared.entries.Entry.TheVariants.{Defined, Txn, Accepted, Acked, Fired, Expired, QueueSet}
use Rattle.sb_log.specs.declared.entries.Op.{Op}
use Rattle.sb_log.specs.declared.entries.Op.TheVariants.{Begin, Send, Took, End, Cleanup, Move, Timer, Put, Delete}
use Rattle.sb_log.specs.declared.messages.Item.{Item}
use Rattle.sb_model.specs.Sides.{same_side, same_id, is_home}
use Rattle.sb_model.specs.Sides.{Making, makings, made, made_by_op, has_side, is_of, ops_of}
use Rattle.sb_model.specs.Items.{items, items_from, taken, taken_by}
use Rattle.sb_model.specs.Groups.{group_of}
use Rattle.sb_model.specs.Transactions.{OpenTransaction, with_ops, is_free, holds_other}
use Rattle.sb_model.specs.Instance.{low_half}
use Rattle.sb_model.specs.Logs.{WellFormed, is_allowed, are_ops_allowed}
use Rattle.sb_model.specs.Statements.{txn_entries}
use Rattle.sb_laws.proofs.Allowed.{NewIn, initiator_of, has_handle, both_true, new_by_begins, begins_handle, ops_grown, ops_join, entries_join}
use Rattle.sb_model.specs.Links.{IsSound, BeginsHere, MakesTarget, EndsForGood, sends_on}
use Rattle.sb_laws.proofs.Growth.{ops_of-append, makings-append, items_from-append}
use Rattle.sb_laws.proofs.Sides.{sides_same, ids_same}
use Rattle.sb_laws.proofs.Grow.{all_weaker, all_append, shuts, ended_right, ended_join, ended_behind, or_true_left, or_true_right, or_false}
use Rattle.sb_laws.proofs.Delivered.{made_has_side}
use Rattle.sb_laws.proofs.Taking.{InOrder, is_mine, in_order_arrived, in_order_merged, apart_up, new_mine}
use Rattle.sb_laws.proofs.Views.{txn_is_view, begins_make, ops_view, items_view, taken_view, begins, moves, touches, any_weaker, moves_touches, shuts_touches, sends_touches, has_side_view, begun_in_view, group_view, group_quiet, group_made, no_takes}

clash : {P : Type 0} → true ≡ false → P
clash e = cc

-- these numbers are those of items
abbrev pub AreWithin : List Item → List ℕ → Type 0
AreWithin its ns = AllByRecursion (λ n. n ≤ length its) ns

-- ---- one log

pub record LogOk (x : Who) (log : List Entry) : Type 0 where
  pub formed : WellFormed log
  pub sound : IsSound x log
  pub in_order : InOrder (items log) (taken log)
  pub within : AreWithin (items log) (taken log)

-- ---- one open transaction

-- a side that the transaction concerns was begun by it, or its group in the log is held
abbrev pub Holds : List Entry → List Op → List Handle → SideId → Type 0
Holds log ops groups s = (list_any (begins s) ops ≡ true) ⊎ ((g : Handle) × (group_of log s ≡ Some g) × (list_any (same_id g) groups ≡ true))

abbrev pub BeginsBelow : ℕ → Op → Type 0
BeginsBelow next (Begin handle g header) = low_half handle.0 < next
BeginsBelow next _ = ⊤

pub record OpenOk (x : Who) (log : List Entry) (next next_tx tx : ℕ) (ops : List Op) (groups : List Handle) : Type 0 where
  pub below : tx < next_tx
  pub held : (s : SideId) → list_any (touches (items log) s) ops ≡ true → Holds log ops groups s
  pub begins_new : (s : SideId) → list_any (begins s) ops ≡ true → has_side log s ≡ false
  pub begins_below : AllByRecursion (BeginsBelow next) ops
  pub own_tags : AllByRecursion (BeginsHere x) ops
  pub ended : EndsForGood (ops_of log ++ ops)
  pub in_order : InOrder (items log) (taken log ++ flat_map taken_by ops)
  pub within : AreWithin (items log) (flat_map taken_by ops)
  pub allowed : are_ops_allowed log tx [] ops ≡ true

-- two open transactions
pub record Apart (tx : ℕ) (ops : List Op) (groups : List Handle) (other : ℕ) (other_ops : List Op) (other_groups : List Handle) : Type 0 where
  pub txs : (tx == other) ≡ false
  pub groups_apart : (g : Handle) → list_any (same_id g) groups ≡ true → list_any (same_id g) other_groups ≡ true → ⊥
  pub begins_apart : (s : SideId) → list_any (begins s) ops ≡ true → list_any (begins s) other_ops ≡ true → ⊥

has_from_group : (log : List Entry) (s : SideId) (g : Handle) → group_of log s ≡ Some g → has_side log s ≡ true
has_from_group log s g e = let m = group_made log s g e in made_has_side log s m.0 m.1

-- no side concerns both
pub no_conflict : (x : Who) (log : List Entry) (n m t u : ℕ) (ops ups : List Op) (gs hs : List Handle) →
    OpenOk x log n m t ops gs → OpenOk x log n m u ups hs → Apart t ops gs u ups hs →
    (s : SideId) → list_any (touches (items log) s) ops ≡ true → list_any (touches (items log) s) ups ≡ true → ⊥
no_conflict x log n m t u ops ups gs hs a b apart s e f = both (a.held s e) (b.held s f)
  where
    both : Holds log ops gs s → Holds log ups hs s → ⊥
    both (inl p) (inl q) = apart.begins_apart s p q
    both (inl p) (inr q) = clash (sym (has_from_group log s q.0 q.1) ∙ a.begins_new s p)
    both (inr p) (inl q) = clash (sym (has_from_group log s p.0 p.1) ∙ b.begins_new s q)
    both (inr p) (inr q) = apart.groups_apart p.0 p.2 (subst (λ g. list_any (same_id g) hs ≡ true) (some_is q.0 p.0 (sym q.1 ∙ p.1)) q.2)
      where
        some_is : (g h : Handle) → Some g ≡ Some h → g ≡ h
        some_is g h k = cc

-- ---- a commit

counted_view : (x : Who) (log : List Entry) (tx : ℕ) (ops : List Op) → LogOk x log → EndsForGood (ops_of log ++ ops) → AllByRecursion (BeginsHere x) ops → IsSound x (with_ops log tx ops)
counted_view x log tx ops h ended tags = record {
  own_tags = subst (AllByRecursion (BeginsHere x)) (sym (ops_view log tx ops)) (all_append (BeginsHere x) (ops_of log) ops h.sound.own_tags tags);
  targets = targets_view ops;
  ended = subst EndsForGood (sym (ops_view log tx ops)) ended;
}
  where
    targets_view : (os : List Op) → AllByRecursion MakesTarget (with_ops log tx os)
    targets_view [] = h.sound.targets
    targets_view (o ∷ os) = all_append MakesTarget log (Txn tx (o ∷ os) ∷ []) h.sound.targets (tt, tt)

formed_view : (log : List Entry) (tx : ℕ) (ops : List Op) → WellFormed log → are_ops_allowed log tx [] ops ≡ true → WellFormed (with_ops log tx ops)
formed_view log tx [] h e = h
formed_view log tx (op ∷ ops) h e = entries_join [] log (Txn tx (op ∷ ops) ∷ []) h (both_true (are_ops_allowed log tx [] (op ∷ ops)) true e refl)

-- the log after a commit
pub log_committed : (x : Who) (log : List Entry) (n m tx : ℕ) (ops : List Op) (groups : List Handle) → LogOk x log → OpenOk x log n m tx ops groups → LogOk x (with_ops log tx ops)
log_committed x log n m tx ops groups h o = record {
  formed = formed_view log tx ops h.formed o.allowed;
  sound = counted_view x log tx ops h o.ended o.own_tags;
  in_order = subst (λ its. InOrder its (taken (with_ops log tx ops))) (sym (items_view log tx ops)) (subst (InOrder (items log)) (sym (taken_view log tx ops)) o.in_order);
  within = subst (λ its. AreWithin its (taken (with_ops log tx ops))) (sym (items_view log tx ops))
      (subst (AreWithin (items log)) (sym (taken_view log tx ops)) (all_append (λ n. n ≤ length (items log)) (taken log) (flat_map taken_by ops) h.within o.within));
}

-- another open transaction after a commit
pub open_committed : (x : Who) (log : List Entry) (n m t u : ℕ) (ops ups : List Op) (gs hs : List Handle) →
    OpenOk x log n m t ops gs → OpenOk x log n m u ups hs → Apart t ops gs u ups hs → OpenOk x (with_ops log t ops) n m u ups hs
open_committed x log n m t u ops ups gs hs a b apart = record {
  below = b.below;
  held = λ s e. later s (subst (λ its. list_any (touches its s) ups ≡ true) (items_view log t ops) e);
  begins_new = λ s e. has_side_view log t ops s ∙ or_false (has_side log s) (list_any (begins s) ops) (b.begins_new s e) (not_begun s e);
  begins_below = b.begins_below;
  own_tags = b.own_tags;
  ended = subst (λ l. EndsForGood (l ++ ups)) (sym (ops_view log t ops))
      (ended_join (ops_of log ++ ops) ups a.ended (ended_right (ops_of log) ups b.ended) (λ s e. silent s (subst (λ c. c ≡ true) (list_any-append (shuts s) (ops_of log) ops) e)));
  in_order = subst (λ its. InOrder its (taken (with_ops log t ops) ++ flat_map taken_by ups)) (sym (items_view log t ops))
      (subst (λ l. InOrder (items log) (l ++ flat_map taken_by ups)) (sym (taken_view log t ops))
      (in_order_merged (items log) (taken log) (flat_map taken_by ops) (flat_map taken_by ups) a.in_order b.in_order none_of_one));
  within = subst (λ its. AreWithin its (flat_map taken_by ups)) (sym (items_view log t ops)) b.within;
  allowed = subst (λ l. are_ops_allowed l u [] ups ≡ true) (txn_is_view log t ops) (ops_grown log (txn_entries t ops) u [] ups (new_by_begins (makings (txn_entries t ops)) ups new) b.allowed);
}
  where
    conflict : (s : SideId) → list_any (touches (items log) s) ops ≡ true → list_any (touches (items log) s) ups ≡ true → ⊥
    conflict = no_conflict x log n m t u ops ups gs hs a b apart

    false_or : (c : Bool) → (c ≡ true → ⊥) → c ≡ false
    false_or true f = absurd (f refl)
    false_or false f = refl

    not_begun : (s : SideId) → list_any (begins s) ups ≡ true → list_any (begins s) ops ≡ false
    not_begun s e = false_or (list_any (begins s) ops) (λ f. apart.begins_apart s f e)

    made_entries : (os : List Op) → makings (txn_entries t os) ≡ flat_map made_by_op os
    made_entries [] = refl
    made_entries (o ∷ os) = append-nil (flat_map made_by_op (o ∷ os))

    new : (h : Handle) → list_any (begins (initiator_of h)) ups ≡ true → (list_any (is_of (initiator_of h)) (makings (txn_entries t ops)) ≡ false) × (list_any (has_handle h) (makings (txn_entries t ops)) ≡ false)
    new h e =
        let none : list_any (begins (initiator_of h)) ops ≡ false = not_begun (initiator_of h) e in
        (ap (list_any (is_of (initiator_of h))) (made_entries ops) ∙ begins_make (initiator_of h) ops ∙ none, ap (list_any (has_handle h)) (made_entries ops) ∙ begins_handle h ops ∙ none)

    later : (s : SideId) → list_any (touches (items log) s) ups ≡ true → Holds (with_ops log t ops) ups hs s
    later s e = from (b.held s e)
      where
        from : Holds log ups hs s → Holds (with_ops log t ops) ups hs s
        from (inl p) = inl p
        from (inr q) =
            let made_there = group_made log s q.0 q.1 in
            let still : list_any (moves s) ops ≡ false =
            false_or (list_any (moves s) ops) (λ f. conflict s (any_weaker (moves s) (touches (items log) s) (moves_touches (items log) s) ops f) e) in
            inr (q.0, group_view log t ops s made_there.0 made_there.1 still ∙ q.1, q.2)

    silent : (s : SideId) → (list_any (shuts s) (ops_of log) || list_any (shuts s) ops) ≡ true → list_any (sends_on s) ups ≡ false
    silent s e = by_test (list_any (shuts s) (ops_of log)) refl e
      where
        by_test : (c : Bool) → list_any (shuts s) (ops_of log) ≡ c → (list_any (shuts s) (ops_of log) || list_any (shuts s) ops) ≡ true → list_any (sends_on s) ups ≡ false
        by_test true f g = ended_behind (ops_of log) ups s b.ended f
        by_test false f g = false_or (list_any (sends_on s) ups)
            (λ k. conflict s (any_weaker (shuts s) (touches (items log) s) (shuts_touches (items log) s) ops (sym (ap (λ c. c || list_any (shuts s) ops) f) ∙ g))
            (any_weaker (sends_on s) (touches (items log) s) (sends_touches (items log) s) ups k))

    none_of_one : (s : SideId) → (filter (is_mine (items log) s) (flat_map taken_by ops) ≡ []) ⊎ (filter (is_mine (items log) s) (flat_map taken_by ups) ≡ [])
    none_of_one s = by_test (list_any (touches (items log) s) ops) refl
      where
        by_test : (c : Bool) → list_any (touches (items log) s) ops ≡ c → (filter (is_mine (items log) s) (flat_map taken_by ops) ≡ []) ⊎ (filter (is_mine (items log) s) (flat_map taken_by ups) ≡ [])
        by_test false f = inl (no_takes (items log) s ops f)
        by_test true f = inr (no_takes (items log) s ups (false_or (list_any (touches (items log) s) ups) (conflict s f)))

-- ---- an entry without operations

begins_initiator : (s : SideId) (ops : List Op) → list_any (begins s) ops ≡ true → s.initiator ≡ true
begins_initiator s [] e = cc
begins_initiator s (op ∷ ops) e = by_test (begins s op) refl (begins_initiator s ops)
  where
    one : (o : Op) → begins s o ≡ true → s.initiator ≡ true
    one (Begin handle g header) f = ap (λ z. z.initiator) (sym (sides_same (record { conversation = handle; initiator = true }) s f))
    one (Send a b c) f = cc
    one (End a b) f = cc
    one (Cleanup a) f = cc
    one (Move a b) f = cc
    one (Took a b) f = cc
    one (Timer a b) f = cc
    one (Put a b c d) f = cc
    one (Delete a b) f = cc

    by_test : (b : Bool) → begins s op ≡ b → (list_any (begins s) ops ≡ true → s.initiator ≡ true) → s.initiator ≡ true
    by_test true f rest = one op f
    by_test false f rest = rest (sym (ap (λ c. c || list_any (begins s) ops) f) ∙ e)

-- a making's own handle is counted, and so is its conversation if it isn't a target's
abbrev pub IsCounted : Who → ℕ → Making → Type 0
IsCounted x next m = (m.side.initiator ≡ true → low_half m.side.conversation.0 < next) × (IsTrue (is_home x m.handle) → low_half m.handle.0 < next)

module _ (log : List Entry) (e : Entry) (quiet : ops_of (e ∷ []) ≡ []) (target : MakesTarget e) where
  pub ops_quiet : ops_of (log ++ e ∷ []) ≡ ops_of log
  ops_quiet = ops_of-append log (e ∷ []) ∙ ap (λ l. ops_of log ++ l) quiet ∙ append-nil (ops_of log)

  taken_quiet : taken (log ++ e ∷ []) ≡ taken log
  taken_quiet = ap (flat_map taken_by) ops_quiet

  new_items : (n : ℕ) (f : Entry) → (items_from n (f ∷ []) ≡ []) ⊎ ((i : Item) × (items_from n (f ∷ []) ≡ i ∷ []) × (i.number ≡ n))
  new_items n (Accepted a b c d) = inr (_, refl, refl)
  new_items n (Fired a) = inr (_, refl, refl)
  new_items n (Expired a) = inr (_, refl, refl)
  new_items n (Defined a) = inl refl
  new_items n (Txn a b) = inl refl
  new_items n (Acked a b c) = inl refl
  new_items n (QueueSet a b) = inl refl

  items_quiet : (items (log ++ e ∷ []) ≡ items log) ⊎ ((i : Item) × (items (log ++ e ∷ []) ≡ items log ++ i ∷ []) × (i.number ≡ 1 + length (items log)))
  items_quiet = from (new_items (1 + length (items log)) e)
    where
      from : (items_from (1 + length (items log)) (e ∷ []) ≡ []) ⊎ ((i : Item) × (items_from (1 + length (items log)) (e ∷ []) ≡ i ∷ []) × (i.number ≡ 1 + length (items log))) →
          (items (log ++ e ∷ []) ≡ items log) ⊎ ((i : Item) × (items (log ++ e ∷ []) ≡ items log ++ i ∷ []) × (i.number ≡ 1 + length (items log)))
      from (inl p) = inl (items_from-append 1 log (e ∷ []) ∙ ap (λ l. items log ++ l) p ∙ append-nil (items log))
      from (inr q) = inr (q.0, items_from-append 1 log (e ∷ []) ∙ ap (λ l. items log ++ l) q.1, q.2)

  apart_new : (i : Item) → i.number ≡ 1 + length (items log) → (n : ℕ) → n ≤ length (items log) → (i.number == n) ≡ false
  apart_new i f n le = apart_up i.number n (omega (arith, f, le))

  pub in_order_quiet : (ns : List ℕ) → AreWithin (items log) ns → InOrder (items log) ns → InOrder (items (log ++ e ∷ [])) ns
  in_order_quiet ns within old = from items_quiet
    where
      from : (items (log ++ e ∷ []) ≡ items log) ⊎ ((i : Item) × (items (log ++ e ∷ []) ≡ items log ++ i ∷ []) × (i.number ≡ 1 + length (items log))) → InOrder (items (log ++ e ∷ [])) ns
      from (inl p) = subst (λ its. InOrder its ns) (sym p) old
      from (inr q) = subst (λ its. InOrder its ns) (sym q.1)
          (in_order_arrived (items log) ns q.0 (all_weaker (λ n. n ≤ length (items log)) (λ n. (q.0.number == n) ≡ false) (apart_new q.0 q.2) ns within) old)

  pub within_quiet : (ns : List ℕ) → AreWithin (items log) ns → AreWithin (items (log ++ e ∷ [])) ns
  within_quiet ns within = from items_quiet
    where
      from : (items (log ++ e ∷ []) ≡ items log) ⊎ ((i : Item) × (items (log ++ e ∷ []) ≡ items log ++ i ∷ []) × (i.number ≡ 1 + length (items log))) → AreWithin (items (log ++ e ∷ [])) ns
      from (inl p) = subst (λ its. AreWithin its ns) (sym p) within
      from (inr q) = subst (λ its. AreWithin its ns) (sym q.1) (all_weaker (λ n. n ≤ length (items log)) (λ n. n ≤ length (items log ++ q.0 ∷ [])) (λ n h. omega (arith, h, length-append (items log) (q.0 ∷ []))) ns within)

  mine_quiet : (s : SideId) (n : ℕ) → n ≤ length (items log) → is_mine (items (log ++ e ∷ [])) s n ≡ is_mine (items log) s n
  mine_quiet s n le = from items_quiet
    where
      from : (items (log ++ e ∷ []) ≡ items log) ⊎ ((i : Item) × (items (log ++ e ∷ []) ≡ items log ++ i ∷ []) × (i.number ≡ 1 + length (items log))) → is_mine (items (log ++ e ∷ [])) s n ≡ is_mine (items log) s n
      from (inl p) = ap (λ its. is_mine its s n) p
      from (inr q) = ap (λ its. is_mine its s n) q.1 ∙ new_mine (items log) q.0 s n (apart_new q.0 q.2 n le)

  touch_quiet : (s : SideId) (op : Op) → AreWithin (items log) (taken_by op) → touches (items (log ++ e ∷ [])) s op ≡ touches (items log) s op
  touch_quiet s (Took q n) h = mine_quiet s n h.0
  touch_quiet s (Begin a b c) h = refl
  touch_quiet s (Send a b c) h = refl
  touch_quiet s (End a b) h = refl
  touch_quiet s (Cleanup a) h = refl
  touch_quiet s (Move a b) h = refl
  touch_quiet s (Timer a b) h = refl
  touch_quiet s (Put a b c d) h = refl
  touch_quiet s (Delete a b) h = refl

  all_left' : (xs ys : List ℕ) → AreWithin (items log) (xs ++ ys) → AreWithin (items log) xs × AreWithin (items log) ys
  all_left' [] ys h = (tt, h)
  all_left' (n ∷ xs) ys h = let r = all_left' xs ys h.1 in ((h.0, r.0), r.1)

  touches_quiet : (s : SideId) (ops : List Op) → AreWithin (items log) (flat_map taken_by ops) → list_any (touches (items (log ++ e ∷ [])) s) ops ≡ list_any (touches (items log) s) ops
  touches_quiet s [] h = refl
  touches_quiet s (op ∷ ops) h =
      let r = all_left' (taken_by op) (flat_map taken_by ops) h in
      ap (λ b. b || list_any (touches (items (log ++ e ∷ [])) s) ops) (touch_quiet s op r.0) ∙ ap (λ b. touches (items log) s op || b) (touches_quiet s ops r.1)

  makes_no_initiator : (f : Entry) → ops_of (f ∷ []) ≡ [] → MakesTarget f → AllByRecursion (λ m. m.side.initiator ≡ false) (makings (f ∷ []))
  makes_no_initiator (Accepted a b (Some m) d) q t = (t, tt)
  makes_no_initiator (Accepted a b None d) q t = tt
  makes_no_initiator (Txn tx ops) q t = subst (λ l. AllByRecursion (λ m. m.side.initiator ≡ false) (flat_map made_by_op l ++ [])) (sym (sym (append-nil ops) ∙ q)) tt
  makes_no_initiator (Fired a) q t = tt
  makes_no_initiator (Expired a) q t = tt
  makes_no_initiator (Defined a) q t = tt
  makes_no_initiator (Acked a b c) q t = tt
  makes_no_initiator (QueueSet a b) q t = tt

  has_side_quiet : (s : SideId) → s.initiator ≡ true → has_side log s ≡ false → has_side (log ++ e ∷ []) s ≡ false
  has_side_quiet s i f =
      ap (list_any (is_of s)) (makings-append log (e ∷ [])) ∙ list_any-append (is_of s) (makings log) (makings (e ∷ []))
      ∙ or_false (has_side log s) (list_any (is_of s) (makings (e ∷ []))) f (none (makings (e ∷ [])) (makes_no_initiator e quiet target))
    where
      none : (ms : List Making) → AllByRecursion (λ m. m.side.initiator ≡ false) ms → list_any (is_of s) ms ≡ false
      none [] h = refl
      none (m ∷ ms) h = or_false (same_side m.side s) (list_any (is_of s) ms) (by_test (same_side m.side s) refl) (none ms h.1)
        where
          by_test : (b : Bool) → same_side m.side s ≡ b → same_side m.side s ≡ false
          by_test false g = g
          by_test true g = clash (sym (ap (λ z. z.initiator) (sides_same m.side s g) ∙ i) ∙ h.0)

  pub counted_quiet : (x : Who) (next : ℕ) → AllByRecursion (IsCounted x next) (makings log) → AllByRecursion (IsCounted x next) (makings (e ∷ [])) → AllByRecursion (IsCounted x next) (makings (log ++ e ∷ []))
  counted_quiet x next h new = subst (AllByRecursion (IsCounted x next)) (sym (makings-append log (e ∷ []))) (all_append (IsCounted x next) (makings log) (makings (e ∷ [])) h new)

  pub log_quiet : (x : Who) → is_allowed log e ≡ true → LogOk x log → LogOk x (log ++ e ∷ [])
  log_quiet x allowed h = record {
    formed = entries_join [] log (e ∷ []) h.formed (both_true (is_allowed log e) true allowed refl);
    sound = record {
      own_tags = subst (AllByRecursion (BeginsHere x)) (sym ops_quiet) h.sound.own_tags;
      targets = all_append MakesTarget log (e ∷ []) h.sound.targets (target, tt);
      ended = subst EndsForGood (sym ops_quiet) h.sound.ended;
    };
    in_order = subst (InOrder (items (log ++ e ∷ []))) (sym taken_quiet) (in_order_quiet (taken log) h.within h.in_order);
    within = subst (AreWithin (items (log ++ e ∷ []))) (sym taken_quiet) (within_quiet (taken log) h.within);
  }

  pub open_quiet : (x : Who) (n m tx : ℕ) (ops : List Op) (groups : List Handle) → AllByRecursion (NewIn (makings (e ∷ []))) ops → LogOk x log → OpenOk x log n m tx ops groups → OpenOk x (log ++ e ∷ []) n m tx ops groups
  open_quiet x n m tx ops groups new h o = record {
    below = o.below;
    held = λ s f. later s (o.held s (sym (touches_quiet s ops o.within) ∙ f));
    begins_new = λ s f. has_side_quiet s (begins_initiator s ops f) (o.begins_new s f);
    begins_below = o.begins_below;
    own_tags = o.own_tags;
    ended = subst (λ l. EndsForGood (l ++ ops)) (sym ops_quiet) o.ended;
    in_order = subst (λ l. InOrder (items (log ++ e ∷ [])) (l ++ flat_map taken_by ops)) (sym taken_quiet)
        (in_order_quiet (taken log ++ flat_map taken_by ops) (all_append (λ n. n ≤ length (items log)) (taken log) (flat_map taken_by ops) h.within o.within) o.in_order);
    within = within_quiet (flat_map taken_by ops) o.within;
    allowed = ops_grown log (e ∷ []) tx [] ops new o.allowed;
  }
    where
      later : (s : SideId) → Holds log ops groups s → Holds (log ++ e ∷ []) ops groups s
      later s (inl p) = inl p
      later s (inr q) = let there = group_made log s q.0 q.1 in inr (q.0, group_quiet log (e ∷ []) s there.0 quiet there.1 ∙ q.1, q.2)

-- ---- the counters rise

begins_later : (n m : ℕ) (op : Op) → n ≤ m → BeginsBelow n op → BeginsBelow m op
begins_later n m (Begin a b c) le h = omega (arith, le, h)
begins_later n m (Send a b c) le h = tt
begins_later n m (End a b) le h = tt
begins_later n m (Cleanup a) le h = tt
begins_later n m (Move a b) le h = tt
begins_later n m (Took a b) le h = tt
begins_later n m (Timer a b) le h = tt
begins_later n m (Put a b c d) le h = tt
begins_later n m (Delete a b) le h = tt

pub open_later : (x : Who) (log : List Entry) (n m k l tx : ℕ) (ops : List Op) (groups : List Handle) → n ≤ k → m ≤ l → OpenOk x log n m tx ops groups → OpenOk x log k l tx ops groups
open_later x log n m k l tx ops groups le le' o = record {
  below = let b = o.below in omega (arith, b, le');
  held = o.held;
  begins_new = o.begins_new;
  begins_below = all_weaker (BeginsBelow n) (BeginsBelow k) (λ op h. begins_later n k op le h) ops o.begins_below;
  own_tags = o.own_tags;
  ended = o.ended;
  in_order = o.in_order;
  within = o.within;
  allowed = o.allowed;
}

-- a transaction that has done nothing
pub open_new : (x : Who) (log : List Entry) (n m tx : ℕ) (groups : List Handle) → tx < m → LogOk x log → OpenOk x log n m tx [] groups
open_new x log n m tx groups lt h = record {
  below = lt;
  held = λ s e. clash (sym e);
  begins_new = λ s e. clash (sym e);
  begins_below = tt;
  own_tags = tt;
  ended = subst EndsForGood (sym (append-nil (ops_of log))) h.sound.ended;
  in_order = subst (InOrder (items log)) (sym (append-nil (taken log))) h.in_order;
  within = tt;
  allowed = refl;
}

-- ---- a plan in a transaction

abbrev pub IsNewBegin : Who → ℕ → ℕ → Op → Type 0
IsNewBegin x low high (Begin handle g header) = IsTrue (is_home x handle) × (low ≤ low_half handle.0) × (low_half handle.0 < high)
IsNewBegin x low high _ = ⊤

-- what a plan owes, in the view of its transaction
pub record PlanOk (x : Who) (log : List Entry) (opens : List OpenTransaction) (next high tx : ℕ) (before : List Op) (ops : List Op) (groups : List Handle) : Type 0 where
  pub free : AllByRecursion (λ g. is_free opens g tx ≡ true) groups
  pub held : (s : SideId) → list_any (touches (items log) s) ops ≡ true → Holds (with_ops log tx before) ops groups s
  pub begins_new : AllByRecursion (IsNewBegin x next high) ops
  pub ended : EndsForGood (ops_of (with_ops log tx before) ++ ops)
  pub in_order : InOrder (items log) (taken (with_ops log tx before) ++ flat_map taken_by ops)
  pub within : AreWithin (items log) (flat_map taken_by ops)
  pub allowed : are_ops_allowed log tx before ops ≡ true

any_or : {X : Type 0} (p : X → Bool) (xs ys : List X) → list_any p (xs ++ ys) ≡ true → (list_any p xs ≡ true) ⊎ (list_any p ys ≡ true)
any_or p xs ys e = by_test (list_any p xs) (list_any p ys) (sym (list_any-append p xs ys) ∙ e)
  where
    by_test : (b c : Bool) → (b || c) ≡ true → (b ≡ true) ⊎ (c ≡ true)
    by_test true c f = inl refl
    by_test false c f = inr f

any_into_left : {X : Type 0} (p : X → Bool) (xs ys : List X) → list_any p xs ≡ true → list_any p (xs ++ ys) ≡ true
any_into_left p xs ys e = list_any-append p xs ys ∙ or_true_left (list_any p xs) (list_any p ys) e

any_into_right : {X : Type 0} (p : X → Bool) (xs ys : List X) → list_any p ys ≡ true → list_any p (xs ++ ys) ≡ true
any_into_right p xs ys e = list_any-append p xs ys ∙ or_true_right (list_any p xs) (list_any p ys) e

-- a side that a new begin makes has a low half that is not below
new_low : (x : Who) (low high : ℕ) (s : SideId) (ops : List Op) → AllByRecursion (IsNewBegin x low high) ops → list_any (begins s) ops ≡ true → low ≤ low_half s.conversation.0
new_low x low high s [] h e = clash (sym e)
new_low x low high s (op ∷ ops) h e = by_test (begins s op) refl (new_low x low high s ops h.1)
  where
    one : (o : Op) → IsNewBegin x low high o → begins s o ≡ true → low ≤ low_half s.conversation.0
    one (Begin handle g header) k f = subst (λ z. low ≤ low_half z.conversation.0) (sides_same (record { conversation = handle; initiator = true }) s f) k.1
    one (Send a b c) k f = clash (sym f)
    one (End a b) k f = clash (sym f)
    one (Cleanup a) k f = clash (sym f)
    one (Move a b) k f = clash (sym f)
    one (Took a b) k f = clash (sym f)
    one (Timer a b) k f = clash (sym f)
    one (Put a b c d) k f = clash (sym f)
    one (Delete a b) k f = clash (sym f)

    by_test : (b : Bool) → begins s op ≡ b → (list_any (begins s) ops ≡ true → low ≤ low_half s.conversation.0) → low ≤ low_half s.conversation.0
    by_test true f rest = one op h.0 f
    by_test false f rest = rest (sym (ap (λ c. c || list_any (begins s) ops) f) ∙ e)

-- one that was begun has a low half that is
old_low : (next : ℕ) (s : SideId) (ops : List Op) → AllByRecursion (BeginsBelow next) ops → list_any (begins s) ops ≡ true → low_half s.conversation.0 < next
old_low next s [] h e = clash (sym e)
old_low next s (op ∷ ops) h e = by_test (begins s op) refl (old_low next s ops h.1)
  where
    one : (o : Op) → BeginsBelow next o → begins s o ≡ true → low_half s.conversation.0 < next
    one (Begin handle g header) k f = subst (λ z. low_half z.conversation.0 < next) (sides_same (record { conversation = handle; initiator = true }) s f) k
    one (Send a b c) k f = clash (sym f)
    one (End a b) k f = clash (sym f)
    one (Cleanup a) k f = clash (sym f)
    one (Move a b) k f = clash (sym f)
    one (Took a b) k f = clash (sym f)
    one (Timer a b) k f = clash (sym f)
    one (Put a b c d) k f = clash (sym f)
    one (Delete a b) k f = clash (sym f)

    by_test : (b : Bool) → begins s op ≡ b → (list_any (begins s) ops ≡ true → low_half s.conversation.0 < next) → low_half s.conversation.0 < next
    by_test true f rest = one op h.0 f
    by_test false f rest = rest (sym (ap (λ c. c || list_any (begins s) ops) f) ∙ e)

not_both : (n m : ℕ) → n ≤ m → m < n → ⊥
not_both n m h k = absurd (omega (arith, h, k))

pub uncounted : (x : Who) (next : ℕ) (s : SideId) (ms : List Making) → AllByRecursion (IsCounted x next) ms → s.initiator ≡ true → next ≤ low_half s.conversation.0 → list_any (is_of s) ms ≡ false
uncounted x next s [] h i le = refl
uncounted x next s (m ∷ ms) h i le = or_false (same_side m.side s) (list_any (is_of s) ms) (by_test (same_side m.side s) refl) (uncounted x next s ms h.1 i le)
  where
    by_test : (b : Bool) → same_side m.side s ≡ b → same_side m.side s ≡ false
    by_test false g = g
    by_test true g =
        let same : m.side ≡ s = sides_same m.side s g in
        absurd (not_both next (low_half s.conversation.0) le (subst (λ z. low_half z.conversation.0 < next) same (h.0.0 (ap (λ z. z.initiator) same ∙ i))))

new_tags : (x : Who) (low high : ℕ) (op : Op) → IsNewBegin x low high op → BeginsHere x op
new_tags x low high (Begin a b c) h = h.0
new_tags x low high (Send a b c) h = tt
new_tags x low high (End a b) h = tt
new_tags x low high (Cleanup a) h = tt
new_tags x low high (Move a b) h = tt
new_tags x low high (Took a b) h = tt
new_tags x low high (Timer a b) h = tt
new_tags x low high (Put a b c d) h = tt
new_tags x low high (Delete a b) h = tt

new_below : (x : Who) (low high : ℕ) (op : Op) → IsNewBegin x low high op → BeginsBelow high op
new_below x low high (Begin a b c) h = h.2
new_below x low high (Send a b c) h = tt
new_below x low high (End a b) h = tt
new_below x low high (Cleanup a) h = tt
new_below x low high (Move a b) h = tt
new_below x low high (Took a b) h = tt
new_below x low high (Timer a b) h = tt
new_below x low high (Put a b c d) h = tt
new_below x low high (Delete a b) h = tt

-- the transaction with the plan
pub open_planned : (x : Who) (log : List Entry) (opens : List OpenTransaction) (next high m tx : ℕ) (before ops : List Op) (held_groups groups : List Handle) → next ≤ high →
    AllByRecursion (IsCounted x next) (makings log) → OpenOk x log next m tx before held_groups → PlanOk x log opens next high tx before ops groups →
    OpenOk x log high m tx (before ++ ops) (held_groups ++ groups)
open_planned x log opens next high m tx before ops held_groups groups le counted o p = record {
  below = o.below;
  held = λ s e. either s (any_or (touches (items log) s) before ops e);
  begins_new = λ s e. new s (any_or (begins s) before ops e);
  begins_below = all_append (BeginsBelow high) before ops (all_weaker (BeginsBelow next) (BeginsBelow high) (λ op h. begins_later next high op le h) before o.begins_below) (all_weaker (IsNewBegin x next high) (BeginsBelow high) (new_below x next high) ops p.begins_new);
  own_tags = all_append (BeginsHere x) before ops o.own_tags (all_weaker (IsNewBegin x next high) (BeginsHere x) (new_tags x next high) ops p.begins_new);
  ended = subst EndsForGood (ap (λ l. l ++ ops) (ops_view log tx before) ∙ append_assoc (ops_of log) before ops) p.ended;
  in_order = subst (InOrder (items log))
      (ap (λ l. l ++ flat_map taken_by ops) (taken_view log tx before) ∙ append_assoc (taken log) (flat_map taken_by before) (flat_map taken_by ops) ∙ ap (λ l. taken log ++ l) (sym (flat_map-append taken_by before ops))) p.in_order;
  within = subst (AreWithin (items log)) (sym (flat_map-append taken_by before ops)) (all_append (λ n. n ≤ length (items log)) (flat_map taken_by before) (flat_map taken_by ops) o.within p.within);
  allowed = ops_join log tx [] before ops o.allowed p.allowed;
}
  where
    new : (s : SideId) → (list_any (begins s) before ≡ true) ⊎ (list_any (begins s) ops ≡ true) → has_side log s ≡ false
    new s (inl e) = o.begins_new s e
    new s (inr e) = uncounted x next s (makings log) counted (begins_initiator s ops e) (new_low x next high s ops p.begins_new e)

    grown : (s : SideId) → Holds log before held_groups s → Holds log (before ++ ops) (held_groups ++ groups) s
    grown s (inl q) = inl (any_into_left (begins s) before ops q)
    grown s (inr q) = inr (q.0, q.1, any_into_left (same_id q.0) held_groups groups q.2)

    planned_held : (s : SideId) → Holds (with_ops log tx before) ops groups s → Holds log (before ++ ops) (held_groups ++ groups) s
    planned_held s (inl q) = inl (any_into_right (begins s) before ops q)
    planned_held s (inr q) = by_move (list_any (moves s) before) refl
      where
        there : (k : Making) × (made (with_ops log tx before) s ≡ Some k)
        there = group_made (with_ops log tx before) s q.0 q.1

        by_making : (k : Option Making) → made log s ≡ k → list_any (moves s) before ≡ false → Holds log (before ++ ops) (held_groups ++ groups) s
        by_making None f none = inl (any_into_left (begins s) before ops (begun_in_view log tx before s there.0 there.1 f))
        by_making (Some k) f none = inr (q.0, sym (group_view log tx before s k f none) ∙ q.1, any_into_right (same_id q.0) held_groups groups q.2)

        by_move : (b : Bool) → list_any (moves s) before ≡ b → Holds log (before ++ ops) (held_groups ++ groups) s
        by_move true f = grown s (o.held s (any_weaker (moves s) (touches (items log) s) (moves_touches (items log) s) before f))
        by_move false f = by_making (made log s) refl f

    either : (s : SideId) → (list_any (touches (items log) s) before ≡ true) ⊎ (list_any (touches (items log) s) ops ≡ true) → Holds log (before ++ ops) (held_groups ++ groups) s
    either s (inl e) = grown s (o.held s e)
    either s (inr e) = planned_held s (p.held s e)

-- a group that is free is in no other transaction
pub free_of_others : (opens : List OpenTransaction) (g : Handle) (tx : ℕ) → is_free opens g tx ≡ true → AllByRecursion (λ o. (o.tx == tx) ≡ false → list_any (same_id g) o.groups ≡ false) opens
free_of_others [] g tx e = tt
free_of_others (o ∷ opens) g tx e = by_test (holds_other g tx o) refl e (free_of_others opens g tx)
  where
    not_held : (b c : Bool) → (not b && c) ≡ false → b ≡ false → c ≡ false
    not_held true c f g = clash g
    not_held false c f g = f

    by_test : (b : Bool) → holds_other g tx o ≡ b → is_none (option_map (λ k. k.tx) (cond b (Some o) (find (holds_other g tx) opens))) ≡ true →
        (is_free opens g tx ≡ true → AllByRecursion (λ k. (k.tx == tx) ≡ false → list_any (same_id g) k.groups ≡ false) opens) →
        AllByRecursion (λ k. (k.tx == tx) ≡ false → list_any (same_id g) k.groups ≡ false) (o ∷ opens)
    by_test true f h rest = clash (sym h)
    by_test false f h rest = ((λ k. not_held (o.tx == tx) (list_any (same_id g) o.groups) f k), rest h)

-- what stands among these groups
among : (P : Handle → Type 0) (g : Handle) (gs : List Handle) → AllByRecursion P gs → list_any (same_id g) gs ≡ true → P g
among P g [] h e = clash (sym e)
among P g (k ∷ gs) h e = by_test (same_id g k) refl (among P g gs h.1)
  where
    by_test : (b : Bool) → same_id g k ≡ b → (list_any (same_id g) gs ≡ true → P g) → P g
    by_test true f rest = subst P (sym (ids_same g k f)) h.0
    by_test false f rest = rest (sym (ap (λ c. c || list_any (same_id g) gs) f) ∙ e)

-- another transaction stays apart from the one with the plan
pub apart_planned : (x : Who) (log : List Entry) (opens : List OpenTransaction) (next high m tx u : ℕ) (before ops ups : List Op) (held_groups groups hs : List Handle) →
    OpenOk x log next m u ups hs → PlanOk x log opens next high tx before ops groups → ((g : Handle) → list_any (same_id g) groups ≡ true → list_any (same_id g) hs ≡ false) →
    Apart tx before held_groups u ups hs → Apart tx (before ++ ops) (held_groups ++ groups) u ups hs
apart_planned x log opens next high m tx u before ops ups held_groups groups hs o p free a = record {
  txs = a.txs;
  groups_apart = λ g e f. in_groups g f (any_or (same_id g) held_groups groups e);
  begins_apart = λ s e f. in_ops s f (any_or (begins s) before ops e);
}
  where
    in_groups : (g : Handle) → list_any (same_id g) hs ≡ true → (list_any (same_id g) held_groups ≡ true) ⊎ (list_any (same_id g) groups ≡ true) → ⊥
    in_groups g f (inl e) = a.groups_apart g e f
    in_groups g f (inr e) = clash (sym f ∙ free g e)

    in_ops : (s : SideId) → list_any (begins s) ups ≡ true → (list_any (begins s) before ≡ true) ⊎ (list_any (begins s) ops ≡ true) → ⊥
    in_ops s f (inl e) = a.begins_apart s e f
    in_ops s f (inr e) = not_both next (low_half s.conversation.0) (new_low x next high s ops p.begins_new e) (old_low next s ups o.begins_below f)

-- ---- the list of open transactions

abbrev pub IsOpenOk : Who → List Entry → ℕ → ℕ → OpenTransaction → Type 0
IsOpenOk x log next next_tx o = OpenOk x log next next_tx o.tx o.ops o.groups

abbrev pub AreApart : OpenTransaction → OpenTransaction → Type 0
AreApart o p = Apart o.tx o.ops o.groups p.tx p.ops p.groups

abbrev pub Pairwise : {X : Type 0} → (X → X → Type 0) → List X → Type 0
Pairwise R [] = ⊤
Pairwise R (x ∷ xs) = AllByRecursion (R x) xs × Pairwise R xs

pub record LiveOk (x : Who) (log : List Entry) (next next_tx : ℕ) (opens : List OpenTransaction) : Type 0 where
  pub each : AllByRecursion (IsOpenOk x log next next_tx) opens
  pub pairs : Pairwise AreApart opens
  pub counted : AllByRecursion (IsCounted x next) (makings log)
