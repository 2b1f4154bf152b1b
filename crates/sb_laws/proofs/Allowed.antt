-- Operations and entries that a log allows go on being allowed when it grows.
use Rattle.std.proofs.Common.{◌≡◌, ℕ, zero, suc, Bool, true, false, List, [], ◌∷◌, ◌++◌, ◌+◌, ◌≤◌, Option, Some, None, refl, sym, ◌∙◌, ap, subst, length, length-append, arith, inl, inr, append-nil, append_assoc, take}
use Rattle.std.specs.Prelude.{flat_map, find, not, ⊤, ◌⊎◌, ◌&&◌, ◌||◌, nat_le, is_some}
use Rattle.std.specs.Option.{option_or}
use Rattle.std.specs.List.{list_any, AllByRecursion}
use Rattle.std.proofs.lemmas.List.Folds.{list_any-append, find-append}
use Rattle.std.proofs.lemmas.Grind.{flat_map-append}
use Rattle.std.proofs.lemmas.Bool.Decides.{nat_tests}
use Rattle.sb_log.specs.declared.identifiers.Handle.{Handle}
use Rattle.sb_log.specs.declared.identifiers.SideId.{SideId}
use Rattle.sb_log.specs.declared.entries.Entry.{Entry}
use Rattle.sb_log.specs.declared.entries.Entry.TheVariants.{Txn}
use Rattle.sb_log.specs.declared.entries.Op.{Op}
use Rattle.sb_log.specs.declared.entries.Op.TheVariants.{Begin, Send, Took, End, Cleanup, Move, Timer, Put, Delete}
use Rattle.sb_model.specs.Sides.{Bytes, Making, makings, made_by_op, has_side, is_of, same_id, same_name}
use Rattle.sb_model.specs.Catalog.{definitions, ddl_of, queue_def, service_def, find_queue, find_service}
use Rattle.sb_model.specs.Items.{items, items_from}
use Rattle.sb_model.specs.Groups.{own_service}
use Rattle.sb_model.specs.Transactions.{with_ops}
use Rattle.sb_model.specs.Logs.{is_allowed, is_op_allowed, are_ops_allowed, are_allowed_after, is_item}
use Rattle.sb_laws.proofs.Sides.{both_left, both_right, side_self}
use Rattle.sb_laws.proofs.Growth.{makings-append, items_from-append}
use Rattle.sb_laws.proofs.Grow.{or_false, or_false_left, or_false_right, all_weaker}
use Rattle.sb_laws.proofs.Views.{items_view, makings_view, begins}

pub both_true : (a b : Bool) → a ≡ true → b ≡ true → (a && b) ≡ true
both_true true b e f = f
both_true false b e f = e

-- the initiator of a dialog with this handle
abbrev pub initiator_of : Handle → SideId
initiator_of handle = record { conversation = handle; initiator = true }

abbrev pub has_handle : Handle → Making → Bool
has_handle handle m = same_id m.handle handle

-- a begin's side and handle are none of these
abbrev pub NewIn : List Making → Op → Type 0
NewIn ms (Begin handle g header) = (list_any (is_of (initiator_of handle)) ms ≡ false) × (list_any (has_handle handle) ms ≡ false)
NewIn ms _ = ⊤

pub new_in_none : (ops : List Op) → AllByRecursion (NewIn []) ops
new_in_none [] = tt
new_in_none (Begin a b c ∷ ops) = ((refl, refl), new_in_none ops)
new_in_none (Send a b c ∷ ops) = (tt, new_in_none ops)
new_in_none (Took a b ∷ ops) = (tt, new_in_none ops)
new_in_none (End a b ∷ ops) = (tt, new_in_none ops)
new_in_none (Cleanup a ∷ ops) = (tt, new_in_none ops)
new_in_none (Move a b ∷ ops) = (tt, new_in_none ops)
new_in_none (Timer a b ∷ ops) = (tt, new_in_none ops)
new_in_none (Put a b c d ∷ ops) = (tt, new_in_none ops)
new_in_none (Delete a b ∷ ops) = (tt, new_in_none ops)

new_parts : (ms ks : List Making) (op : Op) → NewIn (ms ++ ks) op → NewIn ms op × NewIn ks op
new_parts ms ks (Begin h g d) e =
    let a : (list_any (is_of (initiator_of h)) ms || list_any (is_of (initiator_of h)) ks) ≡ false = sym (list_any-append (is_of (initiator_of h)) ms ks) ∙ e.0 in
    let b : (list_any (has_handle h) ms || list_any (has_handle h) ks) ≡ false = sym (list_any-append (has_handle h) ms ks) ∙ e.1 in (
      (or_false_left (list_any (is_of (initiator_of h)) ms) (list_any (is_of (initiator_of h)) ks) a, or_false_left (list_any (has_handle h) ms) (list_any (has_handle h) ks) b),
      (or_false_right (list_any (is_of (initiator_of h)) ms) (list_any (is_of (initiator_of h)) ks) a, or_false_right (list_any (has_handle h) ms) (list_any (has_handle h) ks) b),
    )
new_parts ms ks (Send a b c) e = (tt, tt)
new_parts ms ks (Took a b) e = (tt, tt)
new_parts ms ks (End a b) e = (tt, tt)
new_parts ms ks (Cleanup a) e = (tt, tt)
new_parts ms ks (Move a b) e = (tt, tt)
new_parts ms ks (Timer a b) e = (tt, tt)
new_parts ms ks (Put a b c d) e = (tt, tt)
new_parts ms ks (Delete a b) e = (tt, tt)

pub new_left : (ms ks : List Making) (ops : List Op) → AllByRecursion (NewIn (ms ++ ks)) ops → AllByRecursion (NewIn ms) ops
new_left ms ks ops h = all_weaker (NewIn (ms ++ ks)) (NewIn ms) (λ op k. (new_parts ms ks op k).0) ops h

pub new_right : (ms ks : List Making) (ops : List Op) → AllByRecursion (NewIn (ms ++ ks)) ops → AllByRecursion (NewIn ks) ops
new_right ms ks ops h = all_weaker (NewIn (ms ++ ks)) (NewIn ks) (λ op k. (new_parts ms ks op k).1) ops h

-- each begin among the operations is new
pub new_by_begins : (ms : List Making) (ops : List Op) → ((h : Handle) → list_any (begins (initiator_of h)) ops ≡ true → (list_any (is_of (initiator_of h)) ms ≡ false) × (list_any (has_handle h) ms ≡ false)) →
    AllByRecursion (NewIn ms) ops
new_by_begins ms [] f = tt
new_by_begins ms (op ∷ ops) f = (one op (λ h e. f h (into h (begins (initiator_of h) op) (list_any (begins (initiator_of h)) ops) e)), new_by_begins ms ops (λ h e. f h (behind (begins (initiator_of h) op) (list_any (begins (initiator_of h)) ops) e)))
  where
    into : (h : Handle) (a b : Bool) → a ≡ true → (a || b) ≡ true
    into h true b e = refl
    into h false b e = cc

    behind : (a b : Bool) → b ≡ true → (a || b) ≡ true
    behind true b e = refl
    behind false b e = e

    one : (o : Op) → ((h : Handle) → begins (initiator_of h) o ≡ true → (list_any (is_of (initiator_of h)) ms ≡ false) × (list_any (has_handle h) ms ≡ false)) → NewIn ms o
    one (Begin h g d) k = k h (side_same h)
      where
        side_same : (z : Handle) → begins (initiator_of z) (Begin z g d) ≡ true
        side_same z = side_self (initiator_of z)
    one (Send a b c) k = tt
    one (Took a b) k = tt
    one (End a b) k = tt
    one (Cleanup a) k = tt
    one (Move a b) k = tt
    one (Timer a b) k = tt
    one (Put a b c d) k = tt
    one (Delete a b) k = tt

-- the makings of operations have their conversation as handle
pub begins_handle : (h : Handle) (ops : List Op) → list_any (has_handle h) (flat_map made_by_op ops) ≡ list_any (begins (initiator_of h)) ops
begins_handle h [] = refl
begins_handle h (Begin a b c ∷ ops) = ap (λ d. d || list_any (has_handle h) (flat_map made_by_op ops)) (same (same_id a h)) ∙ ap (λ d. begins (initiator_of h) (Begin a b c) || d) (begins_handle h ops)
  where
    same : (d : Bool) → d ≡ (d && true)
    same true = refl
    same false = refl
begins_handle h (Send a b c ∷ ops) = begins_handle h ops
begins_handle h (Took a b ∷ ops) = begins_handle h ops
begins_handle h (End a b ∷ ops) = begins_handle h ops
begins_handle h (Cleanup a ∷ ops) = begins_handle h ops
begins_handle h (Move a b ∷ ops) = begins_handle h ops
begins_handle h (Timer a b ∷ ops) = begins_handle h ops
begins_handle h (Put a b c d ∷ ops) = begins_handle h ops
begins_handle h (Delete a b ∷ ops) = begins_handle h ops

-- ---- definitions stay

pub definitions_view : (log : List Entry) (tx : ℕ) (ops : List Op) → definitions (with_ops log tx ops) ≡ definitions log
definitions_view log tx [] = refl
definitions_view log tx (op ∷ ops) = flat_map-append ddl_of log (Txn tx (op ∷ ops) ∷ []) ∙ append-nil (definitions log)

pub found_more : {X : Type 0} (p : X → Bool) (xs ys : List X) → is_some (find p xs) ≡ true → is_some (find p (xs ++ ys)) ≡ true
found_more p xs ys e = ap is_some (find-append p xs ys) ∙ still (find p xs) (find p ys) e
  where
    still : {X : Type 0} (m o : Option X) → is_some m ≡ true → is_some (option_or m o) ≡ true
    still None o f = cc
    still (Some x) o f = refl

pub queue_more : (log more : List Entry) (q : Bytes) → is_some (find_queue log q) ≡ true → is_some (find_queue (log ++ more) q) ≡ true
queue_more log more q e =
    ap (λ ds. is_some (find (λ def. same_name def.name q) (flat_map queue_def ds))) (flat_map-append ddl_of log more)
    ∙ ap (λ defs. is_some (find (λ def. same_name def.name q) defs)) (flat_map-append queue_def (definitions log) (definitions more))
    ∙ found_more (λ def. same_name def.name q) (flat_map queue_def (definitions log)) (flat_map queue_def (definitions more)) e

pub service_more : (log more : List Entry) (name : Bytes) → is_some (find_service log name) ≡ true → is_some (find_service (log ++ more) name) ≡ true
service_more log more name e =
    ap (λ ds. is_some (find (λ def. same_name def.name name) (flat_map service_def ds))) (flat_map-append ddl_of log more)
    ∙ ap (λ defs. is_some (find (λ def. same_name def.name name) defs)) (flat_map-append service_def (definitions log) (definitions more))
    ∙ found_more (λ def. same_name def.name name) (flat_map service_def (definitions log)) (flat_map service_def (definitions more)) e

pub queue_view : (log : List Entry) (tx : ℕ) (ops : List Op) (q : Bytes) → is_some (find_queue (with_ops log tx ops) q) ≡ is_some (find_queue log q)
queue_view log tx ops q = ap (λ ds. is_some (find (λ def. same_name def.name q) (flat_map queue_def ds))) (definitions_view log tx ops)

pub service_view : (log : List Entry) (tx : ℕ) (ops : List Op) (name : Bytes) → is_some (find_service (with_ops log tx ops) name) ≡ is_some (find_service log name)
service_view log tx ops name = ap (λ ds. is_some (find (λ def. same_name def.name name) (flat_map service_def ds))) (definitions_view log tx ops)

item_more : (log more : List Entry) (n : ℕ) → is_item log n ≡ true → is_item (log ++ more) n ≡ true
item_more log more n e = both_true (nat_le 1 n) (nat_le n (length (items (log ++ more)))) (both_left (nat_le 1 n) (nat_le n (length (items log))) e)
    (higher n (length (items log)) (length (items (log ++ more))) (omega (arith, longer)) (both_right (nat_le 1 n) (nat_le n (length (items log))) e))
  where
    longer : length (items (log ++ more)) ≡ length (items log) + length (items_from (1 + length (items log)) more)
    longer = ap length (items_from-append 1 log more) ∙ length-append (items log) (items_from (1 + length (items log)) more)

    higher : (k a b : ℕ) → a ≤ b → nat_le k a ≡ true → nat_le k b ≡ true
    higher k a b le f = grind (arith, nat_tests)

-- ---- operations in a log that grows

module _ (log more : List Entry) (tx : ℕ) (done : List Op) where
  any_grown : (p : Making → Bool) → list_any p (makings (with_ops log tx done)) ≡ false → list_any p (makings more) ≡ false → list_any p (makings (with_ops (log ++ more) tx done)) ≡ false
  any_grown p e f =
      let old : (list_any p (makings log) || list_any p (flat_map made_by_op done)) ≡ false = sym (ap (list_any p) (makings_view log tx done) ∙ list_any-append p (makings log) (flat_map made_by_op done)) ∙ e in
      ap (list_any p) (makings_view (log ++ more) tx done) ∙ list_any-append p (makings (log ++ more)) (flat_map made_by_op done)
      ∙ or_false (list_any p (makings (log ++ more))) (list_any p (flat_map made_by_op done))
      (ap (list_any p) (makings-append log more) ∙ list_any-append p (makings log) (makings more)
      ∙ or_false (list_any p (makings log)) (list_any p (makings more)) (or_false_left (list_any p (makings log)) (list_any p (flat_map made_by_op done)) old) f)
      (or_false_right (list_any p (makings log)) (list_any p (flat_map made_by_op done)) old)

  side_grown : (s : SideId) → has_side (with_ops log tx done) s ≡ true → has_side (with_ops (log ++ more) tx done) s ≡ true
  side_grown s e = by_test (list_any (is_of s) (makings log)) refl
    where
      parts : (list_any (is_of s) (makings log) || list_any (is_of s) (flat_map made_by_op done)) ≡ true
      parts = sym (ap (list_any (is_of s)) (makings_view log tx done) ∙ list_any-append (is_of s) (makings log) (flat_map made_by_op done)) ∙ e

      whole : has_side (with_ops (log ++ more) tx done) s ≡ ((list_any (is_of s) (makings log) || list_any (is_of s) (makings more)) || list_any (is_of s) (flat_map made_by_op done))
      whole = ap (list_any (is_of s)) (makings_view (log ++ more) tx done) ∙ list_any-append (is_of s) (makings (log ++ more)) (flat_map made_by_op done)
          ∙ ap (λ b. b || list_any (is_of s) (flat_map made_by_op done)) (ap (list_any (is_of s)) (makings-append log more) ∙ list_any-append (is_of s) (makings log) (makings more))

      or_last : (b c : Bool) → c ≡ true → (b || c) ≡ true
      or_last true c f = refl
      or_last false c f = f

      by_test : (b : Bool) → list_any (is_of s) (makings log) ≡ b → has_side (with_ops (log ++ more) tx done) s ≡ true
      by_test true f = whole ∙ ap (λ b. (b || list_any (is_of s) (makings more)) || list_any (is_of s) (flat_map made_by_op done)) f
      by_test false f = whole ∙ or_last (list_any (is_of s) (makings log) || list_any (is_of s) (makings more)) (list_any (is_of s) (flat_map made_by_op done))
          (sym (ap (λ b. b || list_any (is_of s) (flat_map made_by_op done)) f) ∙ parts)

  op_grown : (op : Op) → NewIn (makings more) op → is_op_allowed (with_ops log tx done) op ≡ true → is_op_allowed (with_ops (log ++ more) tx done) op ≡ true
  op_grown (Begin h g d) new e =
      let V : List Entry = with_ops log tx done in
      let s : SideId = initiator_of h in
      let name : Bytes = own_service (initiator_of h) d in
      let first : (not (has_side (with_ops log tx done) s) && not (list_any (has_handle h) (makings (with_ops log tx done)))) ≡ true =
      both_left (not (has_side (with_ops log tx done) s) && not (list_any (has_handle h) (makings (with_ops log tx done)))) (is_some (find_service (with_ops log tx done) name)) e in
      both_true (not (has_side (with_ops (log ++ more) tx done) s) && not (list_any (has_handle h) (makings (with_ops (log ++ more) tx done)))) (is_some (find_service (with_ops (log ++ more) tx done) name))
      (both_true (not (has_side (with_ops (log ++ more) tx done) s)) (not (list_any (has_handle h) (makings (with_ops (log ++ more) tx done))))
      (ap not (any_grown (is_of s) (not_true (has_side (with_ops log tx done) s) (both_left (not (has_side (with_ops log tx done) s)) (not (list_any (has_handle h) (makings (with_ops log tx done)))) first)) new.0))
      (ap not (any_grown (has_handle h) (not_true (list_any (has_handle h) (makings (with_ops log tx done))) (both_right (not (has_side (with_ops log tx done) s)) (not (list_any (has_handle h) (makings (with_ops log tx done)))) first)) new.1)))
      (service_view (log ++ more) tx done name ∙ service_more log more name (sym (service_view log tx done name)
      ∙ both_right (not (has_side (with_ops log tx done) s) && not (list_any (has_handle h) (makings (with_ops log tx done)))) (is_some (find_service (with_ops log tx done) name)) e))
    where
      not_true : (b : Bool) → not b ≡ true → b ≡ false
      not_true true f = cc
      not_true false f = refl
  op_grown (Took q n) new e = both_true (is_some (find_queue (with_ops (log ++ more) tx done) q)) (is_item (with_ops (log ++ more) tx done) n)
      (queue_view (log ++ more) tx done q ∙ queue_more log more q (sym (queue_view log tx done q) ∙ both_left (is_some (find_queue (with_ops log tx done) q)) (is_item (with_ops log tx done) n) e))
      (ap (λ its. nat_le 1 n && nat_le n (length its)) (items_view (log ++ more) tx done) ∙ item_more log more n
      (sym (ap (λ its. nat_le 1 n && nat_le n (length its)) (items_view log tx done)) ∙ both_right (is_some (find_queue (with_ops log tx done) q)) (is_item (with_ops log tx done) n) e))
  op_grown (Send s b c) new e = side_grown s e
  op_grown (End s b) new e = side_grown s e
  op_grown (Cleanup s) new e = side_grown s e
  op_grown (Move s b) new e = side_grown s e
  op_grown (Timer s b) new e = side_grown s e
  op_grown (Put a b c d) new e = refl
  op_grown (Delete a b) new e = refl

pub ops_grown : (log more : List Entry) (tx : ℕ) (done ops : List Op) → AllByRecursion (NewIn (makings more)) ops → are_ops_allowed log tx done ops ≡ true → are_ops_allowed (log ++ more) tx done ops ≡ true
ops_grown log more tx done [] new e = refl
ops_grown log more tx done (op ∷ ops) new e = both_true (is_op_allowed (with_ops (log ++ more) tx done) op) (are_ops_allowed (log ++ more) tx (done ++ op ∷ []) ops)
    (op_grown log more tx done op new.0 (both_left (is_op_allowed (with_ops log tx done) op) (are_ops_allowed log tx (done ++ op ∷ []) ops) e))
    (ops_grown log more tx (done ++ op ∷ []) ops new.1 (both_right (is_op_allowed (with_ops log tx done) op) (are_ops_allowed log tx (done ++ op ∷ []) ops) e))

-- ---- more operations

pub ops_join : (log : List Entry) (tx : ℕ) (done xs ys : List Op) → are_ops_allowed log tx done xs ≡ true → are_ops_allowed log tx (done ++ xs) ys ≡ true → are_ops_allowed log tx done (xs ++ ys) ≡ true
ops_join log tx done [] ys e f = subst (λ l. are_ops_allowed log tx l ys ≡ true) (append-nil done) f
ops_join log tx done (x ∷ xs) ys e f = both_true (is_op_allowed (with_ops log tx done) x) (are_ops_allowed log tx (done ++ x ∷ []) (xs ++ ys))
    (both_left (is_op_allowed (with_ops log tx done) x) (are_ops_allowed log tx (done ++ x ∷ []) xs) e)
    (ops_join log tx (done ++ x ∷ []) xs ys (both_right (is_op_allowed (with_ops log tx done) x) (are_ops_allowed log tx (done ++ x ∷ []) xs) e)
    (subst (λ l. are_ops_allowed log tx l ys ≡ true) (sym (append_assoc done (x ∷ []) xs)) f))

-- a take of an item that is there, whatever stands in the transaction
abbrev pub AllowedTake : List Entry → Op → Type 0
AllowedTake log (Took q n) = is_op_allowed log (Took q n) ≡ true
AllowedTake log _ = ⊥

-- one operation that the view allows, or takes alone
abbrev pub AllowedIn : List Entry → List Op → Type 0
AllowedIn log ops = ((op : Op) × (ops ≡ op ∷ []) × (is_op_allowed log op ≡ true)) ⊎ AllByRecursion (AllowedTake log) ops

pub takes_allowed : (log : List Entry) (tx : ℕ) (done ops : List Op) → AllByRecursion (AllowedTake log) ops → are_ops_allowed log tx done ops ≡ true
takes_allowed log tx done [] h = refl
takes_allowed log tx done (Took q n ∷ ops) h = both_true (is_op_allowed (with_ops log tx done) (Took q n)) (are_ops_allowed log tx (done ++ Took q n ∷ []) ops)
    (ap (λ b. b && is_item (with_ops log tx done) n) (queue_view log tx done q) ∙ ap (λ its. is_some (find_queue log q) && (nat_le 1 n && nat_le n (length its))) (items_view log tx done) ∙ h.0)
    (takes_allowed log tx (done ++ Took q n ∷ []) ops h.1)
takes_allowed log tx done (Begin a b c ∷ ops) h = absurd h.0
takes_allowed log tx done (Send a b c ∷ ops) h = absurd h.0
takes_allowed log tx done (End a b ∷ ops) h = absurd h.0
takes_allowed log tx done (Cleanup a ∷ ops) h = absurd h.0
takes_allowed log tx done (Move a b ∷ ops) h = absurd h.0
takes_allowed log tx done (Timer a b ∷ ops) h = absurd h.0
takes_allowed log tx done (Put a b c d ∷ ops) h = absurd h.0
takes_allowed log tx done (Delete a b ∷ ops) h = absurd h.0

-- and in the log itself
takes_in_log : (log : List Entry) (tx : ℕ) (done ops : List Op) → AllByRecursion (AllowedTake (with_ops log tx done)) ops → AllByRecursion (AllowedTake log) ops
takes_in_log log tx done ops h = all_weaker (AllowedTake (with_ops log tx done)) (AllowedTake log) one ops h
  where
    one : (op : Op) → AllowedTake (with_ops log tx done) op → AllowedTake log op
    one (Took q n) e = sym (ap (λ b. b && is_item (with_ops log tx done) n) (queue_view log tx done q) ∙ ap (λ its. is_some (find_queue log q) && (nat_le 1 n && nat_le n (length its))) (items_view log tx done)) ∙ e
    one (Begin a b c) e = e
    one (Send a b c) e = e
    one (End a b) e = e
    one (Cleanup a) e = e
    one (Move a b) e = e
    one (Timer a b) e = e
    one (Put a b c d) e = e
    one (Delete a b) e = e

pub ops_from_view : (log : List Entry) (tx : ℕ) (done ops : List Op) → AllowedIn (with_ops log tx done) ops → are_ops_allowed log tx done ops ≡ true
ops_from_view log tx done ops (inl k) = subst (λ l. are_ops_allowed log tx done l ≡ true) (sym k.1) (both_true (is_op_allowed (with_ops log tx done) k.0) true k.2 refl)
ops_from_view log tx done ops (inr h) = takes_allowed log tx done ops (takes_in_log log tx done ops h)

-- ---- entries

pub entries_join : (log xs ys : List Entry) → are_allowed_after log xs ≡ true → are_allowed_after (log ++ xs) ys ≡ true → are_allowed_after log (xs ++ ys) ≡ true
entries_join log [] ys e f = subst (λ l. are_allowed_after l ys ≡ true) (append-nil log) f
entries_join log (x ∷ xs) ys e f = both_true (is_allowed log x) (are_allowed_after (log ++ x ∷ []) (xs ++ ys)) (both_left (is_allowed log x) (are_allowed_after (log ++ x ∷ []) xs) e)
    (entries_join (log ++ x ∷ []) xs ys (both_right (is_allowed log x) (are_allowed_after (log ++ x ∷ []) xs) e) (subst (λ l. are_allowed_after l ys ≡ true) (sym (append_assoc log (x ∷ []) xs)) f))

pub entries_taken : (log es : List Entry) (k : ℕ) → are_allowed_after log es ≡ true → are_allowed_after log (take k es) ≡ true
entries_taken log es zero e = refl
entries_taken log [] (suc k) e = refl
entries_taken log (x ∷ es) (suc k) e = both_true (is_allowed log x) (are_allowed_after (log ++ x ∷ []) (take k es)) (both_left (is_allowed log x) (are_allowed_after (log ++ x ∷ []) es) e)
    (entries_taken (log ++ x ∷ []) es k (both_right (is_allowed log x) (are_allowed_after (log ++ x ∷ []) es) e))
