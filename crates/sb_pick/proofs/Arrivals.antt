-- What waits by a log and what an entry behind it brings wait by the longer log.
use Rattle.std.proofs.Common.{◌≡◌, ℕ, ◌+◌, Bool, true, false, cond, not, ◌&&◌, ◌||◌, ◌==◌, List, [], ◌∷◌, ◌++◌, length, map, refl, ap, sym, subst, ◌∙◌, append-nil, arith}
use Rattle.std.specs.Prelude.{Option, None, Some, All, IsSome, IsTrue, filter, find, flat_map, is_some, option_map, suc, unwrap_or}
use Rattle.std.specs.List.{AllByRecursion, cons_option, list_any}
use Rattle.std.specs.Option.{option_map_or, option_or}
use Rattle.std.specs.Cmp.Lexicographic.{same_text}
use Rattle.std.proofs.lemmas.Grind.{flat_map-append}
use Rattle.std.proofs.lemmas.List.{map-append}
use Rattle.std.proofs.lemmas.List.Elements.{All-append, All-cons, All-nil, All-push, All-weaker, filter-append, recursion_from_All}
use Rattle.std.proofs.lemmas.List.Folds.{find-append}
use Rattle.sb_log.specs.declared.definitions.ServiceDef.{ServiceDef}
use Rattle.sb_log.specs.declared.entries.Entry.{Entry}
use Rattle.sb_log.specs.declared.identifiers.SideId.{SideId}
use Rattle.sb_log.specs.declared.messages.Item.{Item}
use Rattle.sb_model.specs.Catalog.{ddl_of, definitions, priorities, service_def}
use Rattle.sb_model.specs.Groups.{far_service, group_moved, group_of, level_among, level_made, level_of, own_service}
use Rattle.sb_model.specs.Items.{is_taken, item_of, items, items_from, next_number, own_end, queue_of, taken_by, waiting, waits_at, waits_in}
use Rattle.sb_model.specs.Messages.{cleans, ends_side, is_cleaned, is_ended}
use Rattle.sb_model.specs.Sides.{Bytes, Making, before_made, is_of, made, made_by, ops_of, ops_of_entry, same_name}
use Rattle.sb_pick.specs.Of.{HasNoOperations, IsOf, brings, handle_of, placed}
use Rattle.sb_pick.specs.Picked.{stands_in}
use Rattle.sb_pick.specs.Waiting.{Waiting, is_known, waiting_of}
use Rattle.sb_pick.proofs.Each.{all_filtered, filter_of, map_of}
use Rattle.sb_pick.proofs.Handles.{made_self}
use Rattle.sb_pick.proofs.Views.{HasQueue, by_making, group_by, made_behind, queue_by, waits_by}

-- ---- items of a longer log

module _ (e : Entry) where
  items_behind : (n : ℕ) (log : List Entry) → items_from n (log ++ e ∷ []) ≡ items_from n log ++ cons_option (item_of (n + length (items_from n log)) e) []
  items_behind n [] = let same : n ≡ n + 0 = omega arith in ap (λ k. cons_option (item_of k e) []) same
  items_behind n (x ∷ log) = by (item_of n x) (items_behind n log) (items_behind (n + 1) log)
    where
      by : (o : Option Item) → items_from n (log ++ e ∷ []) ≡ items_from n log ++ cons_option (item_of (n + length (items_from n log)) e) [] →
          items_from (n + 1) (log ++ e ∷ []) ≡ items_from (n + 1) log ++ cons_option (item_of (n + 1 + length (items_from (n + 1) log)) e) [] →
          cons_option o (items_from (next_number n o) (log ++ e ∷ []))
          ≡ cons_option o (items_from (next_number n o) log) ++ cons_option (item_of (n + length (cons_option o (items_from (next_number n o) log))) e) []
      by None same next = same
      by (Some item) same next =
          let later : List Item = items_from (n + 1) log in
          let count : n + 1 + length later ≡ n + suc (length later) = omega arith in
          ap (λ xs. item ∷ xs) (next ∙ ap (λ k. later ++ cons_option (item_of k e) []) count)

some_first : {A B : Type 0} (f : A → B) (o p : Option A) → IsSome (option_map f o) → option_map f (option_or o p) ≡ option_map f o
some_first f None p h = cc
some_first f (Some x) p h = refl

none_passes : {A : Type 0} (p : A → Bool) (xs : List A) → list_any p xs ≡ false → find p xs ≡ None
none_passes p [] e = refl
none_passes {A} p (x ∷ xs) e = by (p x) refl e (none_passes p xs)
  where
    by : (t : Bool) → p x ≡ t → (t || list_any p xs) ≡ false → (list_any p xs ≡ false → find p xs ≡ None) → cond t (Some x) (find p xs) ≡ None
    by true is h rest = cc
    by false is h rest = rest h

before_same : (log more : List Entry) (s : SideId) (m : Making) → made log s ≡ Some m → before_made (log ++ more) s ≡ before_made log s
before_same [] more s m h = cc
before_same (x ∷ log) more s m h = by (list_any (is_of s) (made_by x)) refl (before_same log more s m)
  where
    by : (t : Bool) → list_any (is_of s) (made_by x) ≡ t → (made log s ≡ Some m → before_made (log ++ more) s ≡ before_made log s) →
        cond t [] (x ∷ before_made (log ++ more) s) ≡ cond t [] (x ∷ before_made log s)
    by true is rest = refl
    by false is rest = ap (λ xs. x ∷ xs) (rest (sym (ap (λ o. option_or o (made log s)) (none_passes (is_of s) (made_by x) is)) ∙ h))

first_true : (a b c d : Bool) → (a && b && c && d) ≡ true → a ≡ true
first_true true b c d h = refl
first_true false b c d h = h

others_true : (a b c d x : Bool) → (a && b && c && d) ≡ true → (x && b && c && d) ≡ x
others_true true b c d true h = h
others_true true b c d false h = refl
others_true false b c d x h = cc

-- ---- what a log says of a side stays

module _ (log : List Entry) (e : Entry) (nothing : HasNoOperations e) where
  abbrev longer : List Entry
  longer = log ++ e ∷ []

  ops_same : ops_of longer ≡ ops_of log
  ops_same = flat_map-append ops_of_entry log (e ∷ []) ∙ ap (λ xs. ops_of log ++ (xs ++ [])) nothing ∙ append-nil (ops_of log)

  queue_stays : (s : SideId) (m : Making) → made log s ≡ Some m → IsSome (queue_of log s) → queue_of longer s ≡ queue_of log s
  queue_stays s m is h =
      let test : ServiceDef → Bool = λ def. same_name def.name (own_end s m.header) in
      let before : List ServiceDef = flat_map service_def (definitions log) in
      let more : List ServiceDef = flat_map service_def (flat_map ddl_of (e ∷ [])) in
      let there : IsSome (option_map (λ def. def.queue) (find test before)) = subst (λ o. IsSome (queue_by (definitions log) s o)) is h in
      ap (queue_by (definitions longer) s) (made_behind log (e ∷ []) s m is)
      ∙ ap (λ ds. option_map (λ def. def.queue) (find test (flat_map service_def ds))) (flat_map-append ddl_of log (e ∷ []))
      ∙ ap (λ xs. option_map (λ def. def.queue) (find test xs)) (flat_map-append service_def (definitions log) (flat_map ddl_of (e ∷ [])))
      ∙ ap (option_map (λ def. def.queue)) (find-append test before more)
      ∙ some_first (λ def. def.queue) (find test before) (find test more) there
      ∙ sym (ap (queue_by (definitions log) s) is)

  group_stays : (s : SideId) (m : Making) → made log s ≡ Some m → group_of longer s ≡ group_of log s
  group_stays s m is =
      ap (group_by (flat_map (group_moved s) (ops_of longer))) (made_behind log (e ∷ []) s m is ∙ sym is)
      ∙ ap (λ ops. group_by (flat_map (group_moved s) ops) (made log s)) ops_same

  level_stays : (s : SideId) (m : Making) → made log s ≡ Some m → level_of longer s ≡ level_of log s
  level_stays s m is =
      ap (λ o. unwrap_or (option_map (level_made longer) o) 5) (made_behind log (e ∷ []) s m is)
      ∙ ap (λ l. level_among (priorities l) m.header.contract (own_service m.side m.header) (far_service m.side m.header)) (before_same log (e ∷ []) m.side m (made_self log s m is))
      ∙ ap (λ o. unwrap_or (option_map (level_made log) o) 5) (sym is)

  placed_stays : (q : Bytes) (item : Item) (m : Making) → made log item.side ≡ Some m → placed longer q item ≡ placed log q item
  placed_stays q item m is =
      let s : SideId = item.side in
      ap (λ o. waiting_of item (option_map_or (λ n. n.handle) o s.conversation) q (unwrap_or (group_of longer s) s.conversation) (level_of longer s)) (made_behind log (e ∷ []) s m is ∙ sym is)
      ∙ ap (λ g. waiting_of item (handle_of log s) q (unwrap_or g s.conversation) (level_of longer s)) (group_stays s m is)
      ∙ ap (λ l. waiting_of item (handle_of log s) q (unwrap_or (group_of log s) s.conversation) l) (level_stays s m is)

  waits_stays : (q : Bytes) (item : Item) → HasQueue log item → waits_in longer q item ≡ waits_in log q item
  unfolding waits_at
  waits_stays q item h =
      let s : SideId = item.side in
      ap (λ o. waits_by o (is_taken longer item.number) (is_ended longer s) (is_cleaned longer s) q) (by_making log s (queue_of longer s) (queue_of log s) (λ m is. queue_stays s m is h) h)
      ∙ ap (λ ops. waits_by (queue_of log s) (list_any (λ n. n == item.number) (flat_map taken_by ops)) (list_any (ends_side s) ops) (list_any (cleans s) ops) q) ops_same

  -- ---- what waits

  module _ (queues : List Bytes) (ws : List Waiting) (is : IsOf log queues ws) where
    all_placed : AllByRecursion (HasQueue log) (items log)
    all_placed = recursion_from_All (HasQueue log) (items log) is.in_queue

    abbrev brought : Bytes → List Item
    brought q = filter (waits_in longer q) (cons_option (brings log e) [])

    waiting_longer : (q : Bytes) → waiting longer q ≡ waiting log q ++ brought q
    waiting_longer q =
        ap (filter (waits_in longer q)) (items_behind e 1 log)
        ∙ filter-append (waits_in longer q) (items log) (cons_option (brings log e) [])
        ∙ ap (λ xs. xs ++ brought q) (filter_of (HasQueue log) (waits_in longer q) (waits_in log q) (waits_stays q) (items log) all_placed)

    placed_longer : (q : Bytes) → IsTrue (is_known queues q) → map (placed longer q) (waiting longer q) ≡ filter (stands_in q) ws ++ map (placed longer q) (brought q)
    placed_longer q known =
        ap (map (placed longer q)) (waiting_longer q)
        ∙ map-append (placed longer q) (waiting log q) (brought q)
        ∙ ap (λ xs. xs ++ map (placed longer q) (brought q))
        (map_of (HasQueue log) (placed longer q) (placed log q)
        (λ item h. by_making log item.side (placed longer q item) (placed log q item) (λ m e. placed_stays q item m e) h)
        (waiting log q) (all_filtered (HasQueue log) (waits_in log q) (items log) all_placed)
        ∙ sym (is.waiting q known))

    queues_stay : (item : Item) → HasQueue log item → HasQueue longer item
    queues_stay item h =
        by_making log item.side (is_some (queue_of longer item.side)) true (λ m e. ap is_some (queue_stays item.side m e h) ∙ h) h

    all_later : All (HasQueue longer) (cons_option (brings log e) []) → All (HasQueue longer) (items longer)
    all_later more =
        subst (All (HasQueue longer)) (sym (items_behind e 1 log))
        (All-append (HasQueue longer) (items log) (cons_option (brings log e) []) (All-weaker (HasQueue log) (HasQueue longer) queues_stay (items log) is.in_queue) more)

    none_brought : ((q : Bytes) → IsTrue (is_known queues q) → brought q ≡ []) → All (HasQueue longer) (cons_option (brings log e) []) → IsOf longer queues ws
    none_brought none more = record {
      waiting = λ q known. sym (placed_longer q known ∙ ap (λ xs. filter (stands_in q) ws ++ map (placed longer q) xs) (none q known) ∙ append-nil (filter (stands_in q) ws));
      known = is.known;
      in_queue = all_later more;
    }

    -- an entry that brings nothing
    pub brings_nothing : brings log e ≡ None → IsOf longer queues ws
    brings_nothing none = none_brought
        (λ q known. ap (λ o. filter (waits_in longer q) (cons_option o [])) none)
        (subst (λ o. All (HasQueue longer) (cons_option o [])) (sym none) (All-nil (HasQueue longer)))

    -- ---- an item that waits

    module _ (item : Item) (q : Bytes) (known : IsTrue (is_known queues q)) (brought_is : brings log e ≡ Some item) (waits : waits_in longer q item ≡ true) where
      of_queue : (own : Option Bytes) (is_out ended cleaned : Bool) (other : Bytes) → waits_by own is_out ended cleaned q ≡ true → waits_by own is_out ended cleaned other ≡ same_name q other
      of_queue None is_out ended cleaned other h = cc
      of_queue (Some name) is_out ended cleaned other h =
          let same : name ≡ q = same_text name q (sym (first_true (same_name name q) (not is_out) (not ended) (not cleaned) h)) in
          others_true (same_name name q) (not is_out) (not ended) (not cleaned) (same_name name other) h ∙ ap (λ n. same_name n other) same

      has_queue : (own : Option Bytes) (is_out ended cleaned : Bool) → waits_by own is_out ended cleaned q ≡ true → IsSome own
      has_queue None is_out ended cleaned h = cc
      has_queue (Some name) is_out ended cleaned h = refl

      waits_there : (other : Bytes) → waits_in longer other item ≡ same_name q other
      unfolding waits_at
      waits_there other = of_queue (queue_of longer item.side) (is_taken longer item.number) (is_ended longer item.side) (is_cleaned longer item.side) other waits

      item_has_queue : HasQueue longer item
      unfolding waits_at
      item_has_queue = has_queue (queue_of longer item.side) (is_taken longer item.number) (is_ended longer item.side) (is_cleaned longer item.side) waits

      one : (other : Bytes) (t : Bool) → same_name q other ≡ t → cond t (placed longer q item ∷ []) [] ≡ map (placed longer other) (cond t (item ∷ []) [])
      one other true same = ap (λ n. placed longer n item ∷ []) (same_text q other (sym same))
      one other false same = refl

      arrives : (other : Bytes) → IsTrue (is_known queues other) → filter (stands_in other) (ws ++ placed longer q item ∷ []) ≡ map (placed longer other) (waiting longer other)
      arrives other other_known =
          filter-append (stands_in other) ws (placed longer q item ∷ [])
          ∙ ap (λ xs. filter (stands_in other) ws ++ xs)
          (one other (same_name q other) refl
          ∙ ap (λ t. map (placed longer other) (cond t (item ∷ []) [])) (sym (waits_there other))
          ∙ ap (λ o. map (placed longer other) (filter (waits_in longer other) (cons_option o []))) (sym brought_is))
          ∙ sym (placed_longer other other_known)

      pub brings_item : IsOf longer queues (ws ++ placed longer q item ∷ [])
      brings_item = record {
        waiting = arrives;
        known = All-push (λ w. IsTrue (is_known queues w.queue)) ws (placed longer q item) is.known known;
        in_queue = all_later (subst (λ o. All (HasQueue longer) (cons_option o [])) (sym brought_is) (All-cons (HasQueue longer) item [] item_has_queue (All-nil (HasQueue longer))));
      }

    -- an item that doesn't wait
    pub brings_unseen : (item : Item) → brings log e ≡ Some item → IsSome (queue_of longer item.side) → ((q : Bytes) → IsTrue (is_known queues q) → waits_in longer q item ≡ false) → IsOf longer queues ws
    brings_unseen item brought_is has unseen = none_brought
        (λ q known.
        ap (λ o. filter (waits_in longer q) (cons_option o [])) brought_is
        ∙ ap (λ t. cond t (item ∷ []) []) (unseen q known))
        (subst (λ o. All (HasQueue longer) (cons_option o [])) (sym brought_is) (All-cons (HasQueue longer) item [] has (All-nil (HasQueue longer))))
