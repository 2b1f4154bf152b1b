-- What waits by a log waits by the log with a transaction's operations, as the transaction sees it.
use Rattle.std.proofs.Common.{◌≡◌, ℕ, Bool, true, false, cond, not, ◌&&◌, ◌||◌, ◌==◌, List, [], ◌∷◌, ◌++◌, map, refl, ap, sym, subst, ◌∙◌, append-nil}
use Rattle.std.proofs.Math.Bool.{and-false}
use Rattle.std.specs.Prelude.{Option, None, Some, All, IsSome, IsTrue, filter, find, is_some, flat_map, option_and_then, option_map, unwrap_or}
use Rattle.std.specs.List.{AllByRecursion, cons_option, last_or, list_any}
use Rattle.std.specs.Option.{option_eq, option_map_or, option_or}
use Rattle.std.proofs.lemmas.Grind.{flat_map-append}
use Rattle.std.proofs.lemmas.List.Elements.{All-filter, All-map, All-nil, All-weaker, recursion_from_All}
use Rattle.std.proofs.lemmas.List.Folds.{list_any-append}
use Rattle.std.proofs.lemmas.Simd.{map-map}
use Rattle.sb_log.specs.declared.definitions.Ddl.{Ddl}
use Rattle.sb_log.specs.declared.entries.Entry.{Entry}
use Rattle.sb_log.specs.declared.entries.Entry.TheVariants.{Txn}
use Rattle.sb_log.specs.declared.entries.Op.{Op}
use Rattle.sb_log.specs.declared.entries.Op.TheVariants.{Begin, Send, Took, End, Cleanup, Move, Timer, Put, Delete}
use Rattle.sb_log.specs.declared.identifiers.Handle.{Handle}
use Rattle.sb_log.specs.declared.identifiers.SideId.{SideId}
use Rattle.sb_log.specs.declared.messages.Item.{Item}
use Rattle.sb_model.specs.Catalog.{ddl_of, definitions, priority_def, service_def}
use Rattle.sb_model.specs.Groups.{far_service, group_moved, group_of, level_among, level_made, level_of, own_service}
use Rattle.sb_model.specs.Items.{is_taken, item_of, items, items_from, next_number, own_end, queue_of, taken, taken_by, waiting, waits_at, waits_in}
use Rattle.sb_model.specs.Messages.{cleans, ends_side, is_cleaned, is_ended}
use Rattle.sb_model.specs.Sides.{Bytes, Making, before_made, is_of, made, made_by, ops_of, ops_of_entry, same_name}
use Rattle.sb_model.specs.Transactions.{with_ops}
use Rattle.sb_pick.specs.Of.{IsOf, handle_of, placed}
use Rattle.sb_pick.specs.Picked.{after, is_left, moved, stands_in, withdraws}
use Rattle.sb_pick.specs.Waiting.{Waiting, is_known, waiting_of}
use Rattle.sb_pick.proofs.Each.{all_filtered, filter_both, filter_of, filter_swap, map_of}
use Rattle.sb_pick.proofs.Lists.{filter-map}

-- ---- a log with one more transaction

ops_more : (log : List Entry) (tx : ℕ) (ops : List Op) → ops_of (with_ops log tx ops) ≡ ops_of log ++ ops
ops_more log tx [] = sym (append-nil (ops_of log))
ops_more log tx (op ∷ ops) =
    flat_map-append ops_of_entry log (Txn tx (op ∷ ops) ∷ []) ∙ ap (λ x. ops_of log ++ x) (append-nil (op ∷ ops))

any_more : (p : Op → Bool) (log : List Entry) (tx : ℕ) (ops : List Op) → list_any p (ops_of (with_ops log tx ops)) ≡ (list_any p (ops_of log) || list_any p ops)
any_more p log tx ops = ap (list_any p) (ops_more log tx ops) ∙ list_any-append p (ops_of log) ops

items_txn : (n : ℕ) (log : List Entry) (tx : ℕ) (ops : List Op) → items_from n (log ++ Txn tx ops ∷ []) ≡ items_from n log
items_txn n [] tx ops = refl
items_txn n (e ∷ log) tx ops = ap (cons_option (item_of n e)) (items_txn (next_number n (item_of n e)) log tx ops)

items_more : (log : List Entry) (tx : ℕ) (ops : List Op) → items (with_ops log tx ops) ≡ items log
items_more log tx [] = refl
items_more log tx (op ∷ ops) = items_txn 1 log tx (op ∷ ops)

pub made_behind : (log more : List Entry) (s : SideId) (m : Making) → made log s ≡ Some m → made (log ++ more) s ≡ Some m
made_behind [] more s m e = cc
made_behind (x ∷ log) more s m e = by (find (is_of s) (made_by x)) (made_behind log more s m) e
  where
    by : (o : Option Making) → (made log s ≡ Some m → made (log ++ more) s ≡ Some m) → option_or o (made log s) ≡ Some m → option_or o (made (log ++ more) s) ≡ Some m
    by None rest h = rest h
    by (Some n) rest h = h

made_more : (log : List Entry) (tx : ℕ) (ops : List Op) (s : SideId) (m : Making) → made log s ≡ Some m → made (with_ops log tx ops) s ≡ Some m
made_more log tx [] s m e = e
made_more log tx (op ∷ ops) s m e = made_behind log (Txn tx (op ∷ ops) ∷ []) s m e

definitions_more : (log : List Entry) (tx : ℕ) (ops : List Op) → definitions (with_ops log tx ops) ≡ definitions log
definitions_more log tx [] = refl
definitions_more log tx (op ∷ ops) = flat_map-append ddl_of log (Txn tx (op ∷ ops) ∷ []) ∙ append-nil (definitions log)

-- the queue of a side made under a header, by the definitions
abbrev pub queue_by : List Ddl → SideId → Option Making → Option Bytes
queue_by ds s o =
    option_and_then (λ header. option_map (λ def. def.queue) (find (λ def. same_name def.name (own_end s header)) (flat_map service_def ds))) (option_map (λ m. m.header) o)

queue_more : (log : List Entry) (tx : ℕ) (ops : List Op) (s : SideId) (m : Making) → made log s ≡ Some m → queue_of (with_ops log tx ops) s ≡ queue_of log s
queue_more log tx ops s m e =
    ap (λ ds. queue_by ds s (made (with_ops log tx ops) s)) (definitions_more log tx ops)
    ∙ ap (queue_by (definitions log) s) (made_more log tx ops s m e ∙ sym e)

defined_before : (log : List Entry) (tx : ℕ) (ops : List Op) (s : SideId) → definitions (before_made (log ++ Txn tx ops ∷ []) s) ≡ definitions (before_made log s)
defined_before [] tx ops s = by_test (list_any (is_of s) (made_by (Txn tx ops)))
  where
    by_test : (t : Bool) → definitions (cond t [] (Txn tx ops ∷ [])) ≡ []
    by_test true = refl
    by_test false = refl
defined_before (e ∷ log) tx ops s = by_test (list_any (is_of s) (made_by e)) (defined_before log tx ops s)
  where
    by_test : (t : Bool) → definitions (before_made (log ++ Txn tx ops ∷ []) s) ≡ definitions (before_made log s) →
        definitions (cond t [] (e ∷ before_made (log ++ Txn tx ops ∷ []) s)) ≡ definitions (cond t [] (e ∷ before_made log s))
    by_test true rest = refl
    by_test false rest = ap (λ ds. ddl_of e ++ ds) rest

level_made_more : (log : List Entry) (tx : ℕ) (ops : List Op) (m : Making) → level_made (with_ops log tx ops) m ≡ level_made log m
level_made_more log tx [] m = refl
level_made_more log tx (op ∷ ops) m =
    ap (λ ds. level_among (flat_map priority_def ds) m.header.contract (own_service m.side m.header) (far_service m.side m.header)) (defined_before log tx (op ∷ ops) m.side)

level_more : (log : List Entry) (tx : ℕ) (ops : List Op) (s : SideId) (m : Making) → made log s ≡ Some m → level_of (with_ops log tx ops) s ≡ level_of log s
level_more log tx ops s m e =
    ap (λ o. unwrap_or (option_map (level_made (with_ops log tx ops)) o) 5) (made_more log tx ops s m e)
    ∙ level_made_more log tx ops m
    ∙ ap (λ o. unwrap_or (option_map (level_made log) o) 5) (sym e)

-- ---- the group of the last move

pub last_or-append : {A : Type 0} (o : Option A) (xs ys : List A) → last_or o (xs ++ ys) ≡ last_or (last_or o xs) ys
last_or-append o [] ys = refl
last_or-append o (x ∷ xs) ys = last_or-append (Some x) xs ys

some_last : {A : Type 0} (x : A) (xs : List A) (a b : A) → unwrap_or (last_or (Some x) xs) a ≡ unwrap_or (last_or (Some x) xs) b
some_last x [] a b = refl
some_last x (y ∷ xs) a b = some_last y xs a b

pub last_behind : {A : Type 0} (o : Option A) (xs : List A) (a : A) → unwrap_or (last_or o xs) a ≡ unwrap_or (last_or None xs) (unwrap_or o a)
last_behind o [] a = refl
last_behind o (x ∷ xs) a = some_last x xs a (unwrap_or o a)

-- the group of a side, by its moves
abbrev pub group_by : List Handle → Option Making → Option Handle
group_by moves o = option_map (λ m. unwrap_or (last_or None moves) m.group) o

group_more : (log : List Entry) (tx : ℕ) (ops : List Op) (s : SideId) (m : Making) (none : Handle) → made log s ≡ Some m →
    unwrap_or (group_of (with_ops log tx ops) s) none ≡ unwrap_or (last_or None (flat_map (group_moved s) ops)) (unwrap_or (group_of log s) none)
group_more log tx ops s m none e =
    let before : List Handle = flat_map (group_moved s) (ops_of log) in
    let own : List Handle = flat_map (group_moved s) ops in
    ap (λ o. unwrap_or (group_by (flat_map (group_moved s) (ops_of (with_ops log tx ops))) o) none) (made_more log tx ops s m e)
    ∙ ap (λ xs. unwrap_or (last_or None (flat_map (group_moved s) xs)) m.group) (ops_more log tx ops)
    ∙ ap (λ xs. unwrap_or (last_or None xs) m.group) (flat_map-append (group_moved s) (ops_of log) ops)
    ∙ ap (λ o. unwrap_or o m.group) (last_or-append None before own)
    ∙ last_behind (last_or None before) own m.group
    ∙ ap (λ o. unwrap_or (last_or None own) (unwrap_or (group_by before o) none)) (sym e)

-- ---- what is withdrawn

or_swap : (a b c d : Bool) → ((a || b) || (c || d)) ≡ ((a || c) || (b || d))
or_swap true b c d = refl
or_swap false true true d = refl
or_swap false true false d = refl
or_swap false false c d = refl

three_ways : (a b c d e f : Bool) → ((a || (b || c)) || (d || (e || f))) ≡ ((a || d) || ((b || e) || (c || f)))
three_ways a b c d e f = or_swap a (b || c) d (e || f) ∙ ap (λ x. (a || d) || x) (or_swap b c e f)

no_more : (b : Bool) → b ≡ ((b || false) || false)
no_more true = refl
no_more false = refl

or_none : (b : Bool) → b ≡ (b || false)
or_none true = refl
or_none false = refl

abbrev is_item : Item → ℕ → Bool
is_item item n = n == item.number

withdraws_one : (item : Item) (op : Op) → withdraws item op ≡ (list_any (is_item item) (taken_by op) || (ends_side item.side op || cleans item.side op))
withdraws_one item (Begin h g hd) = refl
withdraws_one item (Send s k b) = refl
withdraws_one item (Took q n) = no_more (n == item.number)
withdraws_one item (End s l) = or_none (ends_side item.side (End s l))
withdraws_one item (Cleanup s) = refl
withdraws_one item (Move s g) = refl
withdraws_one item (Timer s at) = refl
withdraws_one item (Put t k n b) = refl
withdraws_one item (Delete t k) = refl

abbrev takes_any : Item → List Op → Bool
takes_any item ops = list_any (is_item item) (flat_map taken_by ops)

withdraws_any : (item : Item) (ops : List Op) → list_any (withdraws item) ops ≡ (takes_any item ops || (list_any (ends_side item.side) ops || list_any (cleans item.side) ops))
withdraws_any item [] = refl
withdraws_any item (op ∷ ops) =
    ap (λ t. t || list_any (withdraws item) ops) (withdraws_one item op)
    ∙ ap (λ t. (list_any (is_item item) (taken_by op) || (ends_side item.side op || cleans item.side op)) || t) (withdraws_any item ops)
    ∙ three_ways (list_any (is_item item) (taken_by op)) (ends_side item.side op) (cleans item.side op) (takes_any item ops) (list_any (ends_side item.side) ops) (list_any (cleans item.side) ops)
    ∙ ap (λ t. t || ((ends_side item.side op || list_any (ends_side item.side) ops) || (cleans item.side op || list_any (cleans item.side) ops)))
    (sym (list_any-append (is_item item) (taken_by op) (flat_map taken_by ops)))

-- ---- what waits

left_out : (a t k e f c d : Bool) → (a && not (t || k) && not (e || f) && not (c || d)) ≡ ((a && not t && not e && not c) && not (k || (f || d)))
left_out false t k e f c d = refl
left_out true true k e f c d = refl
left_out true false true e f c d = sym (and-false (not e && not c))
left_out true false false true f c d = refl
left_out true false false false true c d = sym (and-false (not c))
left_out true false false false false true d = refl
left_out true false false false false false d = refl

abbrev pub waits_by : Option Bytes → Bool → Bool → Bool → Bytes → Bool
waits_by own is_out ended cleaned q = option_eq same_name own (Some q) && not is_out && not ended && not cleaned

taken_more : (log : List Entry) (tx : ℕ) (ops : List Op) (item : Item) → is_taken (with_ops log tx ops) item.number ≡ (is_taken log item.number || takes_any item ops)
taken_more log tx ops item =
    ap (λ xs. list_any (is_item item) (flat_map taken_by xs)) (ops_more log tx ops)
    ∙ ap (list_any (is_item item)) (flat_map-append taken_by (ops_of log) ops)
    ∙ list_any-append (is_item item) (taken log) (flat_map taken_by ops)

abbrev is_left_item : List Op → Item → Bool
is_left_item ops item = not (list_any (withdraws item) ops)

waits_more : (log : List Entry) (tx : ℕ) (ops : List Op) (q : Bytes) (item : Item) (m : Making) → made log item.side ≡ Some m →
    waits_in (with_ops log tx ops) q item ≡ (waits_in log q item && is_left_item ops item)
unfolding waits_at
waits_more log tx ops q item m e =
    let s : SideId = item.side in
    let later : List Entry = with_ops log tx ops in
    let own_ends : Bool = list_any (ends_side s) ops in
    let own_cleans : Bool = list_any (cleans s) ops in
    ap (λ o. waits_by o (is_taken later item.number) (is_ended later s) (is_cleaned later s) q) (queue_more log tx ops s m e)
    ∙ ap (λ t. waits_by (queue_of log s) t (is_ended later s) (is_cleaned later s) q) (taken_more log tx ops item)
    ∙ ap (λ t. waits_by (queue_of log s) (is_taken log item.number || takes_any item ops) t (is_cleaned later s) q) (any_more (ends_side s) log tx ops)
    ∙ ap (λ t. waits_by (queue_of log s) (is_taken log item.number || takes_any item ops) (is_ended log s || own_ends) t q) (any_more (cleans s) log tx ops)
    ∙ left_out (option_eq same_name (queue_of log s) (Some q)) (is_taken log item.number) (takes_any item ops) (is_ended log s) own_ends (is_cleaned log s) own_cleans
    ∙ ap (λ t. waits_by (queue_of log s) (is_taken log item.number) (is_ended log s) (is_cleaned log s) q && not t) (sym (withdraws_any item ops))

-- ---- what waits with what its side has

placed_more : (log : List Entry) (tx : ℕ) (ops : List Op) (q : Bytes) (item : Item) (m : Making) → made log item.side ≡ Some m →
    placed (with_ops log tx ops) q item ≡ moved ops (placed log q item)
placed_more log tx ops q item m e =
    let s : SideId = item.side in
    let later : List Entry = with_ops log tx ops in
    ap (λ o. waiting_of item (option_map_or (λ n. n.handle) o s.conversation) q (unwrap_or (group_of later s) s.conversation) (level_of later s)) (made_more log tx ops s m e ∙ sym e)
    ∙ ap (λ g. waiting_of item (handle_of log s) q g (level_of later s)) (group_more log tx ops s m s.conversation e)
    ∙ ap (λ l. waiting_of item (handle_of log s) q (unwrap_or (last_or None (flat_map (group_moved s) ops)) (unwrap_or (group_of log s) s.conversation)) l) (level_more log tx ops s m e)

-- ---- a side that has a queue is made

pub has_making : (log : List Entry) (s : SideId) → IsSome (queue_of log s) → IsSome (made log s)
has_making log s h = by (made log s) refl
  where
    by : (o : Option Making) → made log s ≡ o → IsSome o
    by None e = subst (λ o. IsSome (queue_by (definitions log) s o)) e h
    by (Some m) e = refl

-- what is so of the making of a side that has a queue
pub by_making : {A : Type 0} (log : List Entry) (s : SideId) (x y : A) → ((m : Making) → made log s ≡ Some m → x ≡ y) → IsSome (queue_of log s) → x ≡ y
by_making {A} log s x y so h = by (made log s) refl (has_making log s h)
  where
    by : (o : Option Making) → made log s ≡ o → IsSome o → x ≡ y
    by None e i = cc
    by (Some m) e i = so m e

abbrev pub HasQueue : List Entry → Item → Type 0
HasQueue log item = IsSome (queue_of log item.side)

module _ (log : List Entry) (queues : List Bytes) (ws : List Waiting) (tx : ℕ) (ops : List Op) (is : IsOf log queues ws) where
  abbrev later : List Entry
  later = with_ops log tx ops

  all_placed : AllByRecursion (HasQueue log) (items log)
  all_placed = recursion_from_All (HasQueue log) (items log) is.in_queue

  view_waits : (q : Bytes) → IsTrue (is_known queues q) → filter (stands_in q) (after ops ws) ≡ map (placed later q) (waiting later q)
  view_waits q known =
      let left : List Item = filter (is_left_item ops) (waiting log q) in
      filter-map (moved ops) (stands_in q) (filter (is_left ops) ws)
      ∙ ap (map (moved ops)) (filter_swap (stands_in q) (is_left ops) ws ∙ ap (filter (is_left ops)) (is.waiting q known) ∙ filter-map (placed log q) (is_left ops) (waiting log q))
      ∙ map-map (moved ops) (placed log q) left
      ∙ sym (map_of (HasQueue log) (placed later q) (λ item. moved ops (placed log q item))
      (λ item h. by_making log item.side (placed later q item) (moved ops (placed log q item)) (λ m e. placed_more log tx ops q item m e) h)
      left (all_filtered (HasQueue log) (is_left_item ops) (waiting log q) (all_filtered (HasQueue log) (waits_in log q) (items log) all_placed)))
      ∙ ap (map (placed later q))
      (filter_both (is_left_item ops) (waits_in log q) (items log)
      ∙ sym (filter_of (HasQueue log) (waits_in later q) (λ item. waits_in log q item && is_left_item ops item)
      (λ item h. by_making log item.side (waits_in later q item) (waits_in log q item && is_left_item ops item) (λ m e. waits_more log tx ops q item m e) h)
      (items log) all_placed)
      ∙ ap (filter (waits_in later q)) (sym (items_more log tx ops)))

  has_queue_later : (item : Item) → HasQueue log item → HasQueue later item
  has_queue_later item h = by_making log item.side (is_some (queue_of later item.side)) true (λ m e. ap is_some (queue_more log tx ops item.side m e) ∙ h) h

  -- what the transaction sees waits in its view
  pub view_is : IsOf later queues (after ops ws)
  view_is = record {
    waiting = view_waits;
    known = All-map (λ w. IsTrue (is_known queues w.queue)) (moved ops) (filter (is_left ops) ws) (All-filter (is_left ops) (λ w. IsTrue (is_known queues w.queue)) ws is.known);
    in_queue = subst (All (HasQueue later)) (sym (items_more log tx ops)) (All-weaker (HasQueue log) (HasQueue later) has_queue_later (items log) is.in_queue);
  }

pub nothing_waits : (queues : List Bytes) → IsOf [] queues []
nothing_waits queues = record { waiting = λ q known. refl; known = All-nil (λ w. IsTrue (is_known queues w.queue)); in_queue = All-nil (HasQueue []) }
