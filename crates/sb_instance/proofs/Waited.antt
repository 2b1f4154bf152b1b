-- What waits in a queue goes on to, when statements that make, end, clean and move no side are done; and what a RECEIVE of the first item gives.
use Rattle.std.proofs.Common.{◌≡◌, ℕ, ◌+◌, ◌≤◌, Bool, true, false, cond, not, List, [], ◌∷◌, ◌++◌, map, take, drop, refl, sym, ap, subst, ◌∙◌, append-nil, arith}
use Rattle.std.proofs.Math.Bool.{and-true, and-false}
use Rattle.std.specs.Prelude.{pos, ◌&&◌, ◌||◌, ◌==◌, nat_lt, Option, Some, None, Result, Ok, Err, IfSome, filter, find, flat_map, option_and_then, option_map, unwrap_or}
use Rattle.std.specs.List.{cons_option, last_or, list_any}
use Rattle.std.specs.Option.{option_eq, option_map_or, option_or}
use Rattle.std.proofs.lemmas.Bool.{eq-eqb}
use Rattle.std.proofs.lemmas.Grind.{flat_map-append}
use Rattle.std.proofs.lemmas.List.Folds.{list_any-append}
use Rattle.std.proofs.lemmas.Simd.{map-map}
use Rattle.sb_log.specs.declared.definitions.Ddl.{Ddl}
use Rattle.sb_log.specs.declared.definitions.QueueDef.{QueueDef}
use Rattle.sb_log.specs.declared.entries.Entry.{Entry}
use Rattle.sb_log.specs.declared.entries.Entry.TheVariants.{Txn}
use Rattle.sb_log.specs.declared.entries.Op.{Op}
use Rattle.sb_log.specs.declared.identifiers.Handle.{Handle}
use Rattle.sb_log.specs.declared.identifiers.SideId.{SideId}
use Rattle.sb_log.specs.declared.identifiers.Who.{Who}
use Rattle.sb_log.specs.declared.messages.Item.{Item}
use Rattle.sb_log.specs.declared.messages.ReceivedItem.{ReceivedItem}
use Rattle.sb_log.specs.declared.refusals.Refusal.{Refusal}
use Rattle.sb_log.specs.declared.refusals.Refusal.TheVariants as refusal
use Rattle.sb_log.specs.declared.requests.Filter.TheVariants as filters
use Rattle.sb_log.specs.declared.requests.Reply.{Reply}
use Rattle.sb_model.specs.Catalog.{ddl_of, definitions, find_queue, is_on, priority_def, queue_def, queue_is_on, service_def, setting}
use Rattle.sb_model.specs.Groups.{far_service, group_moved, group_of, level_among, level_made, level_of, own_service}
use Rattle.sb_model.specs.Instance.{Part}
use Rattle.sb_model.specs.Items.{is_taken, item_of, items, items_from, next_number, own_end, queue_of, taken, taken_by, waits_at, waits_in}
use Rattle.sb_model.specs.Messages.{cleans, ends_side, is_cleaned, is_ended}
use Rattle.sb_model.specs.Pick.{candidates, first_items, is_free_item, item_before, pick, pick_first}
use Rattle.sb_model.specs.Refusals.{need, unless_refused, when}
use Rattle.sb_model.specs.Replies.{Planned, given_item, receive, received}
use Rattle.sb_model.specs.Sides.{Bytes, Making, before_made, is_of, made, made_by, made_by_op, ops_of, same_id, same_name}
use Rattle.sb_model.specs.Sorting.{in_order}
use Rattle.sb_model.specs.Statements.{txn_entries}
use Rattle.sb_model.specs.Transactions.{is_free}
use Rattle.sb_instance.specs.Asked.{ask_of}
use Rattle.sb_instance.specs.Candidates.{Placed, given, given_by, placed, placed_before, takes}
use Rattle.sb_instance.specs.Running.{Commits, running}
use Rattle.sb_instance.specs.Sending.{IsQuiet}
use Rattle.sb_instance.specs.Waiting.{IsWaiting, TakesNone, in_line, line}
use Rattle.sb_instance.specs.declared.waiting.Waiting.{Waiting}
use Rattle.sb_instance.proofs.Carried.{same_map}
use Rattle.sb_instance.proofs.Lines.{Rises, filter_all, filter_both, filter_same, first_passes, first_taken, in_order_same, map_same, rises_filter}
use Rattle.sb_instance.proofs.Placing.{in_order-map}
use Rattle.sb_instance.proofs.Sent.{any_more, ops_more, quiet_takes}
use Rattle.sb_instance.proofs.Untaken.{number_is}

-- ---- a log with one more transaction of such operations

items_more : (n : ℕ) (log : List Entry) (tx : ℕ) (ops : List Op) → items_from n (log ++ txn_entries tx ops) ≡ items_from n log
items_more n [] tx [] = refl
items_more n [] tx (op ∷ ops) = refl
items_more n (e ∷ log) tx ops = ap (cons_option (item_of n e)) (items_more (next_number n (item_of n e)) log tx ops)

made_more : (log : List Entry) (tx : ℕ) (ops : List Op) (s : SideId) → flat_map made_by_op ops ≡ [] → made (log ++ txn_entries tx ops) s ≡ made log s
made_more [] tx [] s e = refl
made_more [] tx (op ∷ ops) s e = ap (λ ms. option_or (find (is_of s) ms) None) e
made_more (x ∷ log) tx ops s e = ap (λ o. option_or (find (is_of s) (made_by x)) o) (made_more log tx ops s e)

defined_by_txn : (tx : ℕ) (ops : List Op) → definitions (txn_entries tx ops) ≡ []
defined_by_txn tx [] = refl
defined_by_txn tx (op ∷ ops) = refl

set_by_txn : (tx : ℕ) (ops : List Op) (q : Bytes) → flat_map (setting q) (txn_entries tx ops) ≡ []
set_by_txn tx [] q = refl
set_by_txn tx (op ∷ ops) q = refl

definitions_more : (log : List Entry) (tx : ℕ) (ops : List Op) → definitions (log ++ txn_entries tx ops) ≡ definitions log
definitions_more log tx ops =
    flat_map-append ddl_of log (txn_entries tx ops) ∙ ap (λ ds. definitions log ++ ds) (defined_by_txn tx ops) ∙ append-nil (definitions log)

settings_more : (log : List Entry) (tx : ℕ) (ops : List Op) (q : Bytes) → flat_map (setting q) (log ++ txn_entries tx ops) ≡ flat_map (setting q) log
settings_more log tx ops q =
    flat_map-append (setting q) log (txn_entries tx ops) ∙ ap (λ xs. flat_map (setting q) log ++ xs) (set_by_txn tx ops q) ∙ append-nil (flat_map (setting q) log)

queue_on_more : (log : List Entry) (tx : ℕ) (ops : List Op) (q : Bytes) → queue_is_on (log ++ txn_entries tx ops) q ≡ queue_is_on log q
queue_on_more log tx ops q =
    ap (λ ds. unwrap_or (option_map (is_on (log ++ txn_entries tx ops)) (find (λ def. same_name def.name q) (flat_map queue_def ds))) false) (definitions_more log tx ops)
    ∙ ap (λ o. unwrap_or o false)
    (same_map (is_on (log ++ txn_entries tx ops)) (is_on log) (find_queue log q) (λ def. ap (λ xs. unwrap_or (last_or None xs) def.on) (settings_more log tx ops def.name)))

-- the queue of a side made under a header, by the definitions
abbrev queue_by : List Ddl → SideId → Option Making → Option Bytes
queue_by ds s o =
    option_and_then (λ header. option_map (λ def. def.queue) (find (λ def. same_name def.name (own_end s header)) (flat_map service_def ds))) (option_map (λ m. m.header) o)

queue_more : (log : List Entry) (tx : ℕ) (ops : List Op) (s : SideId) → IsQuiet ops → queue_of (log ++ txn_entries tx ops) s ≡ queue_of log s
queue_more log tx ops s q =
    ap (λ ds. queue_by ds s (made (log ++ txn_entries tx ops) s)) (definitions_more log tx ops)
    ∙ ap (queue_by (definitions log) s) (made_more log tx ops s q.makes)

-- the group of a side, by its moves
abbrev group_by : List Handle → Option Making → Option Handle
group_by moves o = option_map (λ m. unwrap_or (last_or None moves) m.group) o

moves_more : (log : List Entry) (tx : ℕ) (ops : List Op) (s : SideId) → IsQuiet ops → flat_map (group_moved s) (ops_of (log ++ txn_entries tx ops)) ≡ flat_map (group_moved s) (ops_of log)
moves_more log tx ops s q =
    ap (flat_map (group_moved s)) (ops_more log tx ops) ∙ flat_map-append (group_moved s) (ops_of log) ops
    ∙ ap (λ gs. flat_map (group_moved s) (ops_of log) ++ gs) (q.moves s) ∙ append-nil (flat_map (group_moved s) (ops_of log))

group_more : (log : List Entry) (tx : ℕ) (ops : List Op) (s : SideId) → IsQuiet ops → group_of (log ++ txn_entries tx ops) s ≡ group_of log s
group_more log tx ops s q =
    ap (λ gs. group_by gs (made (log ++ txn_entries tx ops) s)) (moves_more log tx ops s q)
    ∙ ap (group_by (flat_map (group_moved s) (ops_of log))) (made_more log tx ops s q.makes)

defined_before_more : (log : List Entry) (tx : ℕ) (ops : List Op) (s : SideId) → definitions (before_made (log ++ txn_entries tx ops) s) ≡ definitions (before_made log s)
defined_before_more [] tx [] s = refl
defined_before_more [] tx (op ∷ ops) s = by_test (list_any (is_of s) (made_by (Txn tx (op ∷ ops))))
  where
    by_test : (t : Bool) → definitions (cond t [] (Txn tx (op ∷ ops) ∷ [])) ≡ []
    by_test true = refl
    by_test false = refl
defined_before_more (e ∷ log) tx ops s = by_test (list_any (is_of s) (made_by e)) (defined_before_more log tx ops s)
  where
    by_test : (t : Bool) → definitions (before_made (log ++ txn_entries tx ops) s) ≡ definitions (before_made log s) →
        definitions (cond t [] (e ∷ before_made (log ++ txn_entries tx ops) s)) ≡ definitions (cond t [] (e ∷ before_made log s))
    by_test true rest = refl
    by_test false rest = ap (λ ds. ddl_of e ++ ds) rest

level_made_more : (log : List Entry) (tx : ℕ) (ops : List Op) (m : Making) → level_made (log ++ txn_entries tx ops) m ≡ level_made log m
level_made_more log tx ops m =
    ap (λ ds. level_among (flat_map priority_def ds) m.header.contract (own_service m.side m.header) (far_service m.side m.header)) (defined_before_more log tx ops m.side)

level_more : (log : List Entry) (tx : ℕ) (ops : List Op) (s : SideId) → IsQuiet ops → level_of (log ++ txn_entries tx ops) s ≡ level_of log s
level_more log tx ops s q =
    ap (λ o. unwrap_or o 5) (same_map (level_made (log ++ txn_entries tx ops)) (level_made log) (made (log ++ txn_entries tx ops) s) (level_made_more log tx ops))
    ∙ ap (λ o. unwrap_or (option_map (level_made log) o) 5) (made_more log tx ops s q.makes)

taken_more : (log : List Entry) (tx : ℕ) (ops : List Op) (n : ℕ) → is_taken (log ++ txn_entries tx ops) n ≡ (is_taken log n || list_any (λ m. m == n) (flat_map taken_by ops))
taken_more log tx ops n =
    ap (λ xs. list_any (λ m. m == n) (flat_map taken_by xs)) (ops_more log tx ops)
    ∙ ap (list_any (λ m. m == n)) (flat_map-append taken_by (ops_of log) ops)
    ∙ list_any-append (λ m. m == n) (taken log) (flat_map taken_by ops)

-- ---- the items that may be taken

-- no operation takes the item
abbrev is_left : List Op → Item → Bool
is_left ops item = not (list_any (λ m. m == item.number) (flat_map taken_by ops))

abbrev waits_by : Option Bytes → Bool → Bool → Bool → Bytes → Bool
waits_by own is_out ended cleaned q = option_eq same_name own (Some q) && not is_out && not ended && not cleaned

left_out : (a t k e c : Bool) → (a && not (t || k) && not e && not c) ≡ ((a && not t && not e && not c) && not k)
left_out false t k e c = refl
left_out true true k e c = refl
left_out true false true e c = sym (and-false (not e && not c))
left_out true false false e c = sym (and-true (not e && not c))

waits_more : (log : List Entry) (tx : ℕ) (ops : List Op) (q : Bytes) (item : Item) → IsQuiet ops → waits_in (log ++ txn_entries tx ops) q item ≡ (waits_in log q item && is_left ops item)
unfolding waits_at
waits_more log tx ops q item quiet =
    let s : SideId = item.side in
    let later : List Entry = log ++ txn_entries tx ops in
    ap (λ o. waits_by o (is_taken later item.number) (is_ended later s) (is_cleaned later s) q) (queue_more log tx ops s quiet)
    ∙ ap (λ t. waits_by (queue_of log s) t (is_ended later s) (is_cleaned later s) q) (taken_more log tx ops item.number)
    ∙ ap (λ t. waits_by (queue_of log s) (is_taken log item.number || list_any (λ m. m == item.number) (flat_map taken_by ops)) t (is_cleaned later s) q)
    (any_more (ends_side s) log tx ops (quiet.ends s))
    ∙ ap (λ t. waits_by (queue_of log s) (is_taken log item.number || list_any (λ m. m == item.number) (flat_map taken_by ops)) (is_ended log s) t q)
    (any_more (cleans s) log tx ops (quiet.clean s))
    ∙ left_out (option_eq same_name (queue_of log s) (Some q)) (is_taken log item.number) (list_any (λ m. m == item.number) (flat_map taken_by ops)) (is_ended log s) (is_cleaned log s)

-- whether a RECEIVE may take the item
abbrev may_take : List Entry → Bytes → Item → Bool
may_take log q item = waits_in log q item && is_free_item log [] 0 item

last_of_three : (w l f : Bool) → ((w && l) && f) ≡ ((w && f) && l)
last_of_three false l f = refl
last_of_three true false f = sym (and-false f)
last_of_three true true f = sym (and-true f)

may_take_more : (log : List Entry) (tx : ℕ) (ops : List Op) (q : Bytes) (item : Item) → IsQuiet ops → may_take (log ++ txn_entries tx ops) q item ≡ (may_take log q item && is_left ops item)
may_take_more log tx ops q item quiet =
    ap (λ o. waits_in (log ++ txn_entries tx ops) q item && option_map_or (λ g. is_free [] g 0) o false) (group_more log tx ops item.side quiet)
    ∙ ap (λ w. w && is_free_item log [] 0 item) (waits_more log tx ops q item quiet)
    ∙ last_of_three (waits_in log q item) (is_left ops item) (is_free_item log [] 0 item)

may_be_taken : (log : List Entry) (q : Bytes) → candidates log [] 0 q filters.All ≡ filter (may_take log q) (items log)
may_be_taken log q = filter_both (is_free_item log [] 0) (waits_in log q) (items log)

candidates_more : (log : List Entry) (tx : ℕ) (ops : List Op) (q : Bytes) → IsQuiet ops →
    candidates (log ++ txn_entries tx ops) [] 0 q filters.All ≡ filter (is_left ops) (candidates log [] 0 q filters.All)
candidates_more log tx ops q quiet =
    may_be_taken (log ++ txn_entries tx ops) q
    ∙ ap (filter (may_take (log ++ txn_entries tx ops) q)) (items_more 1 log tx ops)
    ∙ filter_same (may_take (log ++ txn_entries tx ops) q) (λ item. may_take log q item && is_left ops item) (items log) (λ item. may_take_more log tx ops q item quiet)
    ∙ sym (filter_both (is_left ops) (may_take log q) (items log))
    ∙ ap (filter (is_left ops)) (sym (may_be_taken log q))

-- ---- the line

abbrev before_by : ℕ → ℕ → ℕ → ℕ → Bool
before_by la lb a b = nat_lt lb la || ((la == lb) && nat_lt a b)

before_more : (log : List Entry) (tx : ℕ) (ops : List Op) (a b : Item) → IsQuiet ops → item_before (log ++ txn_entries tx ops) a b ≡ item_before log a b
before_more log tx ops a b quiet =
    ap (λ l. before_by l (level_of (log ++ txn_entries tx ops) b.side) a.number b.number) (level_more log tx ops a.side quiet)
    ∙ ap (λ l. before_by (level_of log a.side) l a.number b.number) (level_more log tx ops b.side quiet)

abbrev given_as : Option Making → Option Handle → Item → ReceivedItem
given_as o g item = record { handle = option_map_or (λ m. m.handle) o item.side.conversation; group = unwrap_or g item.side.conversation; item = item }

given_more : (log : List Entry) (tx : ℕ) (ops : List Op) (item : Item) → IsQuiet ops → given_item (ask_of (log ++ txn_entries tx ops)) item ≡ given_item (ask_of log) item
given_more log tx ops item quiet =
    ap (λ o. given_as o (group_of (log ++ txn_entries tx ops) item.side) item) (made_more log tx ops item.side quiet.makes)
    ∙ ap (λ g. given_as (made log item.side) g item) (group_more log tx ops item.side quiet)

-- the line is that of what is left
line_more : (log : List Entry) (tx : ℕ) (ops : List Op) (q : Bytes) → IsQuiet ops →
    line (log ++ txn_entries tx ops) q ≡ map (given_item (ask_of log)) (in_order (item_before log) (filter (is_left ops) (candidates log [] 0 q filters.All)))
line_more log tx ops q quiet =
    map_same (given_item (ask_of (log ++ txn_entries tx ops))) (given_item (ask_of log)) (in_line (log ++ txn_entries tx ops) q) (λ item. given_more log tx ops item quiet)
    ∙ ap (map (given_item (ask_of log)))
    (in_order_same (item_before (log ++ txn_entries tx ops)) (item_before log) (candidates (log ++ txn_entries tx ops) [] 0 q filters.All) (λ a b. before_more log tx ops a b quiet)
    ∙ ap (in_order (item_before log)) (candidates_more log tx ops q quiet))

-- where none is taken, it is the same
line_kept : (log : List Entry) (tx : ℕ) (ops : List Op) (q : Bytes) → IsQuiet ops → TakesNone ops → line (log ++ txn_entries tx ops) q ≡ line log q
line_kept log tx ops q quiet none =
    line_more log tx ops q quiet
    ∙ ap (λ xs. map (given_item (ask_of log)) (in_order (item_before log) xs))
    (filter_all (is_left ops) (candidates log [] 0 q filters.All) (λ item. ap (λ ks. not (list_any (λ m. m == item.number) ks)) none))

rises_behind : (n : ℕ) (o : Option Item) (rest : List Item) → ((item : Item) → Some item ≡ o → item.number ≡ n) → Rises (λ item. item.number) (next_number n o) rest →
    Rises (λ item. item.number) n (cons_option o rest)
rises_behind n None rest is h = h
rises_behind n (Some item) rest is h = let same : n ≡ item.number = sym (is item refl) in (subst (λ m. n ≤ m) same at_least, subst (λ m. Rises (λ x. x.number) (m + 1) rest) same h)
  where
    at_least : n ≤ n
    at_least = omega arith

items_rise : (n : ℕ) (log : List Entry) → Rises (λ item. item.number) n (items_from n log)
items_rise n [] = tt
items_rise n (e ∷ log) =
    rises_behind n (item_of n e) (items_from (next_number n (item_of n e)) log) (number_is n e) (items_rise (next_number n (item_of n e)) log)

candidates_rise : (log : List Entry) (q : Bytes) → Rises (λ item. item.number) 1 (candidates log [] 0 q filters.All)
candidates_rise log q =
    rises_filter (λ item. item.number) (is_free_item log [] 0) 1 (filter (waits_in log q) (items log))
    (rises_filter (λ item. item.number) (waits_in log q) 1 (items log) (items_rise 1 log))

no_more : (b : Bool) → (b || false) ≡ b
no_more true = refl
no_more false = refl

-- where the first is taken, it is the line behind it
line_behind : (log : List Entry) (tx : ℕ) (q : Bytes) (first : Item) (behind : List Item) → in_line log q ≡ first ∷ behind →
    line (log ++ txn_entries tx (takes q (given_item (ask_of log) first) ∷ [])) q ≡ map (given_item (ask_of log)) behind
line_behind log tx q first behind is =
    let item : ReceivedItem = given_item (ask_of log) first in
    let ops : List Op = takes q item ∷ [] in
    line_more log tx ops q (quiet_takes q (item ∷ []))
    ∙ ap (λ xs. map (given_item (ask_of log)) (in_order (item_before log) xs))
    (filter_same (is_left ops) (λ item. not (first.number == item.number)) (candidates log [] 0 q filters.All) (λ item. ap not (no_more (first.number == item.number))))
    ∙ ap (map (given_item (ask_of log)))
    (first_taken (λ item. item.number) (item_before log) 1 (candidates log [] 0 q filters.All) first behind (candidates_rise log q) is)

-- ---- what is noted

-- the candidates in order are the line
pub line_found : (log : List Entry) (q : Bytes) (found sorted : List Placed) → found ≡ map (placed log) (candidates log [] 0 q filters.All) → sorted ≡ in_order placed_before found →
    map given sorted ≡ line log q
line_found log q found sorted are_found are_sorted =
    ap (map given) (are_sorted ∙ ap (in_order placed_before) are_found ∙ in_order-map (placed log) placed_before (candidates log [] 0 q filters.All))
    ∙ map-map given (placed log) (in_line log q)

-- what is noted stays so where none is taken
kept_by : (log : List Entry) (tx : ℕ) (ops : List Op) (waiting : Option Waiting) → IsQuiet ops → TakesNone ops → IfSome waiting (IsWaiting log) → IfSome waiting (IsWaiting (log ++ txn_entries tx ops))
kept_by log tx ops None quiet none so = tt
kept_by log tx ops (Some w) quiet none so =
    record { on = queue_on_more log tx ops w.queue ∙ so.on; rest = so.rest ∙ sym (line_kept log tx ops w.queue quiet none) }

pub kept_committed : (before after : Part) (who : Who) (log : List Entry) (next tx : ℕ) (who2 : Who) (log2 : List Entry) (next2 tx2 : ℕ) (ops : List Op) (told : Reply) (result : Result Reply Refusal)
    (waiting : Option Waiting) → running who log next tx ≡ before → running who2 log2 next2 tx2 ≡ after → Commits before ops told result after → IsQuiet ops → TakesNone ops
    → IfSome waiting (IsWaiting log) → IfSome waiting (IsWaiting log2)
kept_committed before after who log next tx who2 log2 next2 tx2 ops told (Ok given) waiting is again commits quiet none so =
    let before_is : before.log ≡ log = ap (λ (p : Part). p.log) (sym is) in
    let tx_is : before.next_tx ≡ tx = ap (λ (p : Part). p.next_tx) (sym is) in
    let left : log2 ≡ before.log ++ txn_entries before.next_tx ops = ap (λ (p : Part). p.log) (again ∙ commits.1) in
    subst (λ l. IfSome waiting (IsWaiting l)) (sym (left ∙ ap (λ l. l ++ txn_entries before.next_tx ops) before_is ∙ ap (λ n. log ++ txn_entries n ops) tx_is))
    (kept_by log tx ops waiting quiet none so)
kept_committed before after who log next tx who2 log2 next2 tx2 ops told (Err r) waiting is again commits quiet none so =
    let left : log2 ≡ log = ap (λ (p : Part). p.log) (again ∙ commits.1 ∙ sym is) in
    subst (λ l. IfSome waiting (IsWaiting l)) (sym left) so

-- the first of a list that is a view of another
record IsFirst {A B : Type 0} (f : A → B) (xs : List A) (y : B) (ys : List B) : Type 0 where
  first : A
  behind : List A
  is : xs ≡ first ∷ behind
  shown : f first ≡ y
  rest : map f behind ≡ ys

first_of : {A B : Type 0} (f : A → B) (xs : List A) (y : B) (ys : List B) → y ∷ ys ≡ map f xs → IsFirst f xs y ys
first_of f [] y ys e = cc
first_of f (x ∷ xs) y ys e = record { first = x; behind = xs; is = refl; shown = cc; rest = cc }

-- what is noted without its first item is so once that item is taken
taken_by_rest : (log : List Entry) (tx : ℕ) (q : Bytes) (items rest : List ReceivedItem) → rest ≡ line log q → items ≡ take 1 rest → drop 1 rest ≡ line (log ++ txn_entries tx (map (takes q) items)) q
taken_by_rest log tx q items [] is front =
    is ∙ ap (λ l. line l q) (sym (append-nil log)) ∙ ap (λ xs. line (log ++ txn_entries tx (map (takes q) xs)) q) (sym front)
taken_by_rest log tx q items (x ∷ more) is front =
    let parts : IsFirst (given_item (ask_of log)) (in_line log q) x more = first_of (given_item (ask_of log)) (in_line log q) x more is in
    sym parts.rest ∙ sym (line_behind log tx q parts.first parts.behind parts.is)
    ∙ ap (λ y. line (log ++ txn_entries tx (takes q y ∷ [])) q) parts.shown
    ∙ ap (λ xs. line (log ++ txn_entries tx (map (takes q) xs)) q) (sym front)

pub rest_waiting : (before after : Part) (who2 : Who) (log2 : List Entry) (next2 tx2 : ℕ) (w left : Waiting) (items : List ReceivedItem) → running who2 log2 next2 tx2 ≡ after →
    (log2 ≡ before.log ++ txn_entries before.next_tx (map (takes w.queue) items)) → IsWaiting before.log w → items ≡ take 1 w.rest.items → left.queue ≡ w.queue → left.rest.items ≡ drop 1 w.rest.items
    → IsWaiting log2 left
rest_waiting before after who2 log2 next2 tx2 w left items again written so front same rest =
    subst (λ l. IsWaiting l left) (sym written)
    (record {
      on = ap (queue_is_on (before.log ++ txn_entries before.next_tx (map (takes w.queue) items))) same
          ∙ queue_on_more before.log before.next_tx (map (takes w.queue) items) w.queue ∙ so.on;
      rest = rest ∙ taken_by_rest before.log before.next_tx w.queue items w.rest.items so.rest front
          ∙ ap (line (before.log ++ txn_entries before.next_tx (map (takes w.queue) items))) (sym same);
    })

-- ---- what a RECEIVE of the first item gives

given_of_group : (log : List Entry) (i : Item) (is : List Item) (o : Option Handle) → group_of log i.side ≡ o → option_map_or (λ g. is_free [] g 0) o false ≡ true →
    given_item (ask_of log) i ∷ [] ≡ given_by log (option_map (λ g. record { group = g; items = first_items (Some 1) (filter (λ item. option_eq same_id (group_of log item.side) (Some g)) (i ∷ is)) }) o)
given_of_group log i is None group free = cc
given_of_group log i is (Some g) group free =
    let others : List Item = filter (λ item. option_eq same_id (group_of log item.side) (Some g)) is in
    let same : option_eq same_id (group_of log i.side) (Some g) ≡ true = ap (λ o. option_eq same_id o (Some g)) group ∙ eq-eqb g.0 g.0 refl in
    sym (ap (λ t. map (given_item (ask_of log)) (take 1 (cond t (i ∷ others) others))) same)

given_in_line : (log : List Entry) (sorted : List Item) (xs : List ReceivedItem) → ((i : Item) (is : List Item) → sorted ≡ i ∷ is → is_free_item log [] 0 i ≡ true) →
    xs ≡ take 1 (map (given_item (ask_of log)) sorted) → xs ≡ given_by log (pick_first log (Some 1) sorted)
given_in_line log [] xs free front = front
given_in_line log (i ∷ is) xs free front = front ∙ given_of_group log i is (group_of log i.side) refl (free i is refl)

pub first_given : (log : List Entry) (w : Waiting) (xs : List ReceivedItem) → IsWaiting log w → xs ≡ take 1 w.rest.items → xs ≡ given_by log (pick log [] 0 w.queue (Some 1) filters.All)
first_given log w xs so front =
    given_in_line log (in_line log w.queue) xs
    (λ i is sorted. first_passes (is_free_item log [] 0) (item_before log) (filter (waits_in log w.queue) (items log)) i is sorted)
    (front ∙ ap (take 1) so.rest)

-- ---- its checks

abbrev asked_by : List Entry → Bytes → Planned → Option QueueDef → Planned
asked_by log q rest o = need o (refusal.NoQueue q) (λ def. unless_refused (option_and_then (λ d. when (not (is_on log d)) (refusal.QueueOff q)) o) rest)

passed_by : (log : List Entry) (q : Bytes) (rest : Planned) (o : Option QueueDef) → unwrap_or (option_map (is_on log) o) false ≡ true → asked_by log q rest o ≡ rest
passed_by log q rest None on = cc
passed_by log q rest (Some def) on = ap (λ t. unless_refused (when (not t) (refusal.QueueOff q)) rest) on

pub first_passes_checks : (log : List Entry) (w : Waiting) → IsWaiting log w →
    receive (ask_of log) w.queue (Some (pos 1)) filters.All ≡ received (ask_of log) w.queue (pick log [] 0 w.queue (Some 1) filters.All)
first_passes_checks log w so = passed_by log w.queue (received (ask_of log) w.queue (pick log [] 0 w.queue (Some 1) filters.All)) (find_queue log w.queue) so.on
