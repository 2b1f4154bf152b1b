-- The log as an open transaction sees it, and what an operation concerns.
use Rattle.std.proofs.Common.{◌≡◌, ℕ, Bool, true, false, List, [], ◌∷◌, ◌++◌, Option, Some, None, refl, sym, ◌∙◌, ap, append-nil}
use Rattle.std.specs.Prelude.{filter, flat_map, find, ◌||◌, option_map, unwrap_or}
use Rattle.std.specs.Option.{option_or}
use Rattle.std.specs.List.{list_any, last_or}
use Rattle.std.proofs.lemmas.List.Folds.{list_any-append, find-append}
use Rattle.std.proofs.lemmas.Grind.{flat_map-append}
use Rattle.std.proofs.lemmas.List.Elements.{filter-append}
use Rattle.sb_log.specs.declared.identifiers.Handle.{Handle}
use Rattle.sb_log.specs.declared.identifiers.SideId.{SideId}
use Rattle.sb_log.specs.declared.entries.Entry.{Entry}
use Rattle.sb_log.specs.declared.entries.Entry.TheVariants.{Txn}
use Rattle.sb_log.specs.declared.entries.Op.{Op}
use Rattle.sb_log.specs.declared.entries.Op.TheVariants.{Begin, Send, Took, End, Cleanup, Move, Timer, Put, Delete}
use Rattle.sb_log.specs.declared.messages.Item.{Item}
use Rattle.sb_model.specs.Sides.{same_side}
use Rattle.sb_model.specs.Sides.{Making, makings, made, made_by_op, has_side, is_of, ops_of}
use Rattle.sb_model.specs.Items.{items, taken, taken_by}
use Rattle.sb_model.specs.Groups.{group_of, group_moved}
use Rattle.sb_model.specs.Transactions.{with_ops}
use Rattle.sb_model.specs.Statements.{txn_entries}
use Rattle.sb_model.specs.Links.{sends_on}
use Rattle.sb_laws.proofs.Growth.{ops_of-append, makings-append, items_from-append}
use Rattle.sb_laws.proofs.Grow.{shuts, or_true_left, or_true_right, or_false_left, or_false_right}
use Rattle.sb_laws.proofs.Delivered.{made_is_find}
use Rattle.sb_laws.proofs.Taking.{is_mine}

-- ---- a log followed by one transaction

pub ops_view : (log : List Entry) (tx : ℕ) (ops : List Op) → ops_of (with_ops log tx ops) ≡ ops_of log ++ ops
ops_view log tx [] = sym (append-nil (ops_of log))
ops_view log tx (op ∷ ops) = ops_of-append log (Txn tx (op ∷ ops) ∷ []) ∙ ap (λ l. ops_of log ++ l) (append-nil (op ∷ ops))

pub items_view : (log : List Entry) (tx : ℕ) (ops : List Op) → items (with_ops log tx ops) ≡ items log
items_view log tx [] = refl
items_view log tx (op ∷ ops) = items_from-append 1 log (Txn tx (op ∷ ops) ∷ []) ∙ append-nil (items log)

pub makings_view : (log : List Entry) (tx : ℕ) (ops : List Op) → makings (with_ops log tx ops) ≡ makings log ++ flat_map made_by_op ops
makings_view log tx [] = sym (append-nil (makings log))
makings_view log tx (op ∷ ops) = makings-append log (Txn tx (op ∷ ops) ∷ []) ∙ ap (λ l. makings log ++ l) (append-nil (flat_map made_by_op (op ∷ ops)))

pub taken_view : (log : List Entry) (tx : ℕ) (ops : List Op) → taken (with_ops log tx ops) ≡ taken log ++ flat_map taken_by ops
taken_view log tx ops = ap (flat_map taken_by) (ops_view log tx ops) ∙ flat_map-append taken_by (ops_of log) ops

pub txn_is_view : (log : List Entry) (tx : ℕ) (ops : List Op) → log ++ txn_entries tx ops ≡ with_ops log tx ops
txn_is_view log tx [] = append-nil log
txn_is_view log tx (op ∷ ops) = refl

pub made_view : (log : List Entry) (tx : ℕ) (ops : List Op) (s : SideId) →
    made (with_ops log tx ops) s ≡ option_or (made log s) (find (is_of s) (flat_map made_by_op ops))
made_view log tx ops s =
    made_is_find (with_ops log tx ops) s ∙ ap (find (is_of s)) (makings_view log tx ops) ∙ find-append (is_of s) (makings log) (flat_map made_by_op ops)
    ∙ ap (λ o. option_or o (find (is_of s) (flat_map made_by_op ops))) (sym (made_is_find log s))

-- ---- what an operation does with a side

abbrev pub begins : SideId → Op → Bool
begins s (Begin handle g header) = same_side (record { conversation = handle; initiator = true }) s
begins s _ = false

abbrev pub moves : SideId → Op → Bool
moves s (Move side g) = same_side side s
moves s _ = false

-- the operation concerns the side; a taken item is told by its number among these items
abbrev pub touches : List Item → SideId → Op → Bool
touches its s (Begin handle g header) = same_side (record { conversation = handle; initiator = true }) s
touches its s (Send side kind body) = same_side side s
touches its s (Took q n) = is_mine its s n
touches its s (End side last) = same_side side s
touches its s (Cleanup side) = same_side side s
touches its s (Move side g) = same_side side s
touches its s (Timer side at) = same_side side s
touches its s _ = false

pub any_weaker : {X : Type 0} (p q : X → Bool) → ((x : X) → p x ≡ true → q x ≡ true) → (xs : List X) → list_any p xs ≡ true → list_any q xs ≡ true
any_weaker p q f [] e = cc
any_weaker p q f (x ∷ xs) e = by_test (p x) refl (any_weaker p q f xs)
  where
    by_test : (b : Bool) → p x ≡ b → (list_any p xs ≡ true → list_any q xs ≡ true) → (q x || list_any q xs) ≡ true
    by_test true g rest = or_true_left (q x) (list_any q xs) (f x g)
    by_test false g rest = or_true_right (q x) (list_any q xs) (rest (sym (ap (λ b. b || list_any p xs) g) ∙ e))

pub moves_touches : (its : List Item) (s : SideId) (op : Op) → moves s op ≡ true → touches its s op ≡ true
moves_touches its s (Move side g) e = e
moves_touches its s (Begin a b c) e = cc
moves_touches its s (Send a b c) e = cc
moves_touches its s (Took a b) e = cc
moves_touches its s (End a b) e = cc
moves_touches its s (Cleanup a) e = cc
moves_touches its s (Timer a b) e = cc
moves_touches its s (Put a b c d) e = cc
moves_touches its s (Delete a b) e = cc

pub shuts_touches : (its : List Item) (s : SideId) (op : Op) → shuts s op ≡ true → touches its s op ≡ true
shuts_touches its s (End side last) e = e
shuts_touches its s (Cleanup side) e = e
shuts_touches its s (Move a b) e = cc
shuts_touches its s (Begin a b c) e = cc
shuts_touches its s (Send a b c) e = cc
shuts_touches its s (Took a b) e = cc
shuts_touches its s (Timer a b) e = cc
shuts_touches its s (Put a b c d) e = cc
shuts_touches its s (Delete a b) e = cc

pub sends_touches : (its : List Item) (s : SideId) (op : Op) → sends_on s op ≡ true → touches its s op ≡ true
sends_touches its s (Send side k b) e = e
sends_touches its s (End a b) e = cc
sends_touches its s (Cleanup a) e = cc
sends_touches its s (Move a b) e = cc
sends_touches its s (Begin a b c) e = cc
sends_touches its s (Took a b) e = cc
sends_touches its s (Timer a b) e = cc
sends_touches its s (Put a b c d) e = cc
sends_touches its s (Delete a b) e = cc

pub begins_touches : (its : List Item) (s : SideId) (op : Op) → begins s op ≡ true → touches its s op ≡ true
begins_touches its s (Begin a b c) e = e
begins_touches its s (Send a b c) e = cc
begins_touches its s (End a b) e = cc
begins_touches its s (Cleanup a) e = cc
begins_touches its s (Move a b) e = cc
begins_touches its s (Took a b) e = cc
begins_touches its s (Timer a b) e = cc
begins_touches its s (Put a b c d) e = cc
begins_touches its s (Delete a b) e = cc

begins_makes : (s : SideId) (op : Op) (ms : List Making) → list_any (is_of s) (made_by_op op ++ ms) ≡ (begins s op || list_any (is_of s) ms)
begins_makes s (Begin a b c) ms = refl
begins_makes s (Send a b c) ms = refl
begins_makes s (End a b) ms = refl
begins_makes s (Cleanup a) ms = refl
begins_makes s (Move a b) ms = refl
begins_makes s (Took a b) ms = refl
begins_makes s (Timer a b) ms = refl
begins_makes s (Put a b c d) ms = refl
begins_makes s (Delete a b) ms = refl

pub begins_make : (s : SideId) (ops : List Op) → list_any (is_of s) (flat_map made_by_op ops) ≡ list_any (begins s) ops
begins_make s [] = refl
begins_make s (op ∷ ops) = begins_makes s op (flat_map made_by_op ops) ∙ ap (λ b. begins s op || b) (begins_make s ops)

pub has_side_view : (log : List Entry) (tx : ℕ) (ops : List Op) (s : SideId) → has_side (with_ops log tx ops) s ≡ (has_side log s || list_any (begins s) ops)
has_side_view log tx ops s =
    ap (list_any (is_of s)) (makings_view log tx ops) ∙ list_any-append (is_of s) (makings log) (flat_map made_by_op ops) ∙ ap (λ b. has_side log s || b) (begins_make s ops)

-- what isn't there is not found
pub find_none : {X : Type 0} (p : X → Bool) (xs : List X) → list_any p xs ≡ false → find p xs ≡ None
find_none p [] e = refl
find_none p (x ∷ xs) e = rw (or_false_left (p x) (list_any p xs) e) (find_none p xs (or_false_right (p x) (list_any p xs) e))

-- a side that only the transaction's view has was begun by it
pub begun_in_view : (log : List Entry) (tx : ℕ) (ops : List Op) (s : SideId) (m : Making) →
    made (with_ops log tx ops) s ≡ Some m → made log s ≡ None → list_any (begins s) ops ≡ true
begun_in_view log tx ops s m e none = by_test (list_any (begins s) ops) refl
  where
    by_test : (b : Bool) → list_any (begins s) ops ≡ b → list_any (begins s) ops ≡ true
    by_test true f = f
    by_test false f = absurd (clash (sym (sym (made_view log tx ops s) ∙ e) ∙ ap (λ o. option_or o (find (is_of s) (flat_map made_by_op ops))) none ∙ find_none (is_of s) (flat_map made_by_op ops) (begins_make s ops ∙ f)))
      where
        clash : Some m ≡ None → ⊥
        clash g = cc

no_move : (s : SideId) (op : Op) → moves s op ≡ false → group_moved s op ≡ []
no_move s (Move side g) e = rw e refl
no_move s (Begin a b c) e = refl
no_move s (Send a b c) e = refl
no_move s (End a b) e = refl
no_move s (Cleanup a) e = refl
no_move s (Took a b) e = refl
no_move s (Timer a b) e = refl
no_move s (Put a b c d) e = refl
no_move s (Delete a b) e = refl

pub no_moves : (s : SideId) (ops : List Op) → list_any (moves s) ops ≡ false → flat_map (group_moved s) ops ≡ []
no_moves s [] e = refl
no_moves s (op ∷ ops) e =
    ap (λ l. l ++ flat_map (group_moved s) ops) (no_move s op (or_false_left (moves s op) (list_any (moves s) ops) e)) ∙ no_moves s ops (or_false_right (moves s op) (list_any (moves s) ops) e)

-- the group of a side whose making and moves are the same
group_from : (log longer : List Entry) (s : SideId) → made longer s ≡ made log s → flat_map (group_moved s) (ops_of longer) ≡ flat_map (group_moved s) (ops_of log) → group_of longer s ≡ group_of log s
group_from log longer s e f =
    ap (λ o. option_map (λ m. unwrap_or (last_or None (flat_map (group_moved s) (ops_of longer))) m.group) o) e
    ∙ ap (λ l. option_map (λ m. unwrap_or (last_or None l) m.group) (made log s)) f

pub group_view : (log : List Entry) (tx : ℕ) (ops : List Op) (s : SideId) (m : Making) → made log s ≡ Some m → list_any (moves s) ops ≡ false → group_of (with_ops log tx ops) s ≡ group_of log s
group_view log tx ops s m e none = group_from log (with_ops log tx ops) s
    (made_view log tx ops s ∙ ap (λ o. option_or o (find (is_of s) (flat_map made_by_op ops))) e ∙ sym e)
    (ap (flat_map (group_moved s)) (ops_view log tx ops) ∙ flat_map-append (group_moved s) (ops_of log) ops ∙ ap (λ l. flat_map (group_moved s) (ops_of log) ++ l) (no_moves s ops none) ∙ append-nil (flat_map (group_moved s) (ops_of log)))

-- entries without operations leave the group of a side that is there
pub group_quiet : (log more : List Entry) (s : SideId) (m : Making) → ops_of more ≡ [] → made log s ≡ Some m → group_of (log ++ more) s ≡ group_of log s
group_quiet log more s m quiet e = group_from log (log ++ more) s
    (made_is_find (log ++ more) s ∙ ap (find (is_of s)) (makings-append log more) ∙ find-append (is_of s) (makings log) (makings more)
    ∙ ap (λ o. option_or o (find (is_of s) (makings more))) (sym (made_is_find log s) ∙ e) ∙ sym e)
    (ap (flat_map (group_moved s)) (ops_of-append log more ∙ ap (λ l. ops_of log ++ l) quiet ∙ append-nil (ops_of log)))

pub group_made : (log : List Entry) (s : SideId) (g : Handle) → group_of log s ≡ Some g → (m : Making) × (made log s ≡ Some m)
group_made log s g e = from (made log s) refl e
  where
    from : (o : Option Making) → made log s ≡ o → option_map (λ m. unwrap_or (last_or None (flat_map (group_moved s) (ops_of log))) m.group) o ≡ Some g → (m : Making) × (made log s ≡ Some m)
    from (Some m) f h = (m, f)
    from None f h = absurd (clash h)
      where
        clash : None ≡ Some g → ⊥
        clash k = cc

pub made_group : (log : List Entry) (s : SideId) (m : Making) → made log s ≡ Some m → (g : Handle) × (group_of log s ≡ Some g)
made_group log s m e =
    (unwrap_or (last_or None (flat_map (group_moved s) (ops_of log))) m.group, ap (option_map (λ k. unwrap_or (last_or None (flat_map (group_moved s) (ops_of log))) k.group)) e)

-- what concerns no item of the side takes none
no_take : (its : List Item) (t : SideId) (op : Op) → touches its t op ≡ false → filter (is_mine its t) (taken_by op) ≡ []
no_take its t (Took q n) e = rw e refl
no_take its t (Begin a b c) e = refl
no_take its t (Send a b c) e = refl
no_take its t (End a b) e = refl
no_take its t (Cleanup a) e = refl
no_take its t (Move a b) e = refl
no_take its t (Timer a b) e = refl
no_take its t (Put a b c d) e = refl
no_take its t (Delete a b) e = refl

pub no_takes : (its : List Item) (t : SideId) (ops : List Op) → list_any (touches its t) ops ≡ false → filter (is_mine its t) (flat_map taken_by ops) ≡ []
no_takes its t [] e = refl
no_takes its t (op ∷ ops) e =
    filter-append (is_mine its t) (taken_by op) (flat_map taken_by ops)
    ∙ ap (λ l. l ++ filter (is_mine its t) (flat_map taken_by ops)) (no_take its t op (or_false_left (touches its t op) (list_any (touches its t) ops) e))
    ∙ no_takes its t ops (or_false_right (touches its t op) (list_any (touches its t) ops) e)
