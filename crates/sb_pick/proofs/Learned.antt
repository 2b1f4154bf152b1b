-- Nothing waits in a queue that becomes known.
use Rattle.std.proofs.Common.{◌≡◌, Bool, true, false, cond, ◌||◌, List, [], ◌∷◌, ◌++◌, map, refl, ap, sym, subst, ◌∙◌}
use Rattle.std.specs.Prelude.{Option, None, Some, IsTrue, filter}
use Rattle.std.specs.Cmp.Lexicographic.{same_text}
use Rattle.std.specs.List.{AllByRecursion}
use Rattle.std.proofs.lemmas.List.Elements.{All-weaker, recursion_from_All}
use Rattle.std.proofs.lemmas.List.Folds.{list_any-append}
use Rattle.sb_log.specs.declared.entries.Entry.{Entry}
use Rattle.sb_model.specs.Items.{waiting}
use Rattle.sb_model.specs.Sides.{Bytes, same_name}
use Rattle.sb_pick.specs.Of.{IsOf, placed}
use Rattle.sb_pick.specs.Picked.{stands_in}
use Rattle.sb_pick.specs.Waiting.{Waiting, is_known, known_after, queue_defined, with_defined, with_queue}
use Rattle.sb_pick.proofs.Places.{stays}

or_none : (a : Bool) → (a || false) ≡ true → a ≡ true
or_none true e = refl
or_none false e = e

filter_none : {A : Type 0} (p : A → Bool) (xs : List A) → AllByRecursion (λ x. p x ≡ false) xs → filter p xs ≡ []
filter_none p [] h = refl
filter_none p (x ∷ xs) h = ap (λ t. cond t (x ∷ filter p xs) (filter p xs)) h.0 ∙ filter_none p xs h.1

-- what waits in a known queue isn't in one that isn't known
elsewhere : (queues : List Bytes) (q : Bytes) → is_known queues q ≡ false → (w : Waiting) → IsTrue (is_known queues w.queue) → stands_in q w ≡ false
elsewhere queues q unknown w known = by (stands_in q w) refl
  where
    by : (t : Bool) → stands_in q w ≡ t → t ≡ false
    by true e = sym (subst (λ n. IsTrue (is_known queues n)) (same_text w.queue q (sym e)) known) ∙ unknown
    by false e = refl

-- a queue that is known only now is the new one
only_now : (queues : List Bytes) (d q : Bytes) → is_known queues q ≡ false → IsTrue (is_known (with_queue queues d) q) → q ≡ d
only_now queues d q unknown = by (is_known queues d)
  where
    by : (t : Bool) → IsTrue (is_known (cond t queues (queues ++ d ∷ [])) q) → q ≡ d
    by true h = let no : false ≡ true = sym unknown ∙ h in cc
    by false h =
        let last : (same_name q d || false) ≡ true = ap (λ t. t || (same_name q d || false)) (sym unknown) ∙ sym (list_any-append (same_name q) queues (d ∷ [])) ∙ h in
        same_text q d (sym (or_none (same_name q d) last))

module _ (log : List Entry) (queues : List Bytes) (ws : List Waiting) (is : IsOf log queues ws) where
  nothing_there : (q : Bytes) → is_known queues q ≡ false → filter (stands_in q) ws ≡ []
  nothing_there q unknown =
      filter_none (stands_in q) ws (recursion_from_All (λ w. stands_in q w ≡ false) ws
      (All-weaker (λ w. IsTrue (is_known queues w.queue)) (λ w. stands_in q w ≡ false) (elsewhere queues q unknown) ws is.known))

  one_more : (d : Bytes) → waiting log d ≡ [] → IsOf log (with_queue queues d) ws
  one_more d none = record {
    waiting = λ q known. by q (is_known queues q) refl known;
    known = All-weaker (λ w. IsTrue (is_known queues w.queue)) (λ w. IsTrue (is_known (with_queue queues d) w.queue)) (λ w. stays queues (Some d) w.queue) ws is.known;
    in_queue = is.in_queue;
  }
    where
      by : (q : Bytes) (t : Bool) → is_known queues q ≡ t → IsTrue (is_known (with_queue queues d) q) → filter (stands_in q) ws ≡ map (placed log q) (waiting log q)
      by q true before known = is.waiting q before
      by q false unknown known =
          nothing_there q unknown ∙ ap (map (placed log q)) (sym (ap (waiting log) (only_now queues d q unknown known) ∙ none))

  grown : (o : Option Bytes) → ((q : Bytes) → o ≡ Some q → waiting log q ≡ []) → IsOf log (with_defined queues o) ws
  grown None none = is
  grown (Some d) none = one_more d (none d refl)

pub known_grows : (log : List Entry) (queues : List Bytes) (ws : List Waiting) (entry : Entry) → IsOf log queues ws → ((q : Bytes) → queue_defined entry ≡ Some q → waiting log q ≡ []) → IsOf log (known_after queues entry) ws
known_grows log queues ws entry is none = grown log queues ws is (queue_defined entry) none
