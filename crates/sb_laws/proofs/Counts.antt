-- The counts of rollbacks in the state, and what a rollback makes of them.
use Rattle.std.proofs.Common.{◌≡◌, ℕ, Bool, true, false, List, [], ◌∷◌, ◌++◌, ◌+◌, Option, Some, refl, sym, ◌∙◌, ap, subst, arith, cond, append-nil, append_assoc, map}
use Rattle.std.specs.Prelude.{filter, find, flat_map, fold, not, ◌==◌, ◌&&◌, ◌||◌, is_none, unwrap_or, option_map}
use Rattle.std.specs.Option.{option_map_or}
use Rattle.std.specs.List.{list_any, AllByRecursion}
use Rattle.std.specs.Cmp.Lexicographic.{same_text}
use Rattle.std.proofs.lemmas.Bool.Decides.{nat_tests}
use Rattle.std.proofs.lemmas.Grind.{flat_map-append}
use Rattle.std.proofs.lemmas.List.Folds.{list_any-append}
use Rattle.std.proofs.lemmas.Option.{same_Some}
use Rattle.sb_log.specs.declared.definitions.QueueDef.{QueueDef}
use Rattle.sb_log.specs.declared.definitions.Ddl.{Ddl}
use Rattle.sb_log.specs.declared.definitions.Ddl.TheVariants as ddl
use Rattle.sb_log.specs.declared.entries.Entry.{Entry}
use Rattle.sb_log.specs.declared.entries.Entry.TheVariants.{Defined, Txn, Accepted, Acked, Fired, Expired, QueueSet}
use Rattle.sb_model.specs.Sides.{Bytes, same_name}
use Rattle.sb_model.specs.Catalog.{queues, definitions, ddl_of, queue_def, find_queue, is_on, queue_is_on}
use Rattle.sb_model.specs.Transactions.{OpenTransaction}
use Rattle.sb_model.specs.Instance.{Part, Count, has_name, without_counts, turned_on_by, queue_taken, ops_in}
use Rattle.sb_model.specs.Rollbacks.{count_of, set_count, queues_of, disables, off_entry, is_held_by, count_after}
use Rattle.sb_model.specs.Poison.{received_from, ends_count, turns_off_queue, has_poison_handling, one_more}
use Rattle.sb_model.specs.Logs.{is_allowed, is_ddl_allowed, are_allowed_after, WellFormed}
use Rattle.sb_laws.proofs.Sides.{both_left, both_right}
use Rattle.sb_laws.proofs.Grow.{or_false, all_weaker}
use Rattle.sb_laws.proofs.Opens.{Pairwise}
use Rattle.sb_laws.proofs.Parts.{pairs_push, pairs_filter}
use Rattle.sb_laws.proofs.Defines.{names_self}
use Rattle.sb_laws.proofs.Delivered.{found_passes}

clash : {P : Type 0} → true ≡ false → P
clash e = cc

pub names_same : (a b : Bytes) → same_name a b ≡ true → a ≡ b
names_same a b e = same_text a b (sym e)

-- a test of names is the same both ways
pub names_turned : (a b : Bytes) → same_name a b ≡ same_name b a
names_turned a b = by_test (same_name a b) refl (same_name b a) refl
  where
    by_test : (c : Bool) → same_name a b ≡ c → (d : Bool) → same_name b a ≡ d → c ≡ d
    by_test true e true f = refl
    by_test false e false f = refl
    by_test true e false f = clash (sym (subst (λ z. same_name b z ≡ true) (sym (names_same a b e)) (names_self b)) ∙ f)
    by_test false e true f = clash (sym (subst (λ z. same_name a z ≡ true) (sym (names_same b a f)) (names_self a)) ∙ e)

-- ---- counts without some names

pub count_without : (counts : List Count) (names : List Bytes) (q : Bytes) → count_of (without_counts counts names) q ≡ cond (has_name names q) 0 (count_of counts q)
count_without [] names q = by_test (has_name names q)
  where
    by_test : (c : Bool) → (let z : ℕ = 0 in z) ≡ cond c 0 0
    by_test true = refl
    by_test false = refl
count_without (c ∷ counts) names q = by_same (same_name c.queue q) refl (has_name names c.queue) refl (count_without counts names q)
  where
    numbered : Option Count → ℕ
    numbered o = option_map_or (λ z. z.number) o 0

    same_names : same_name c.queue q ≡ true → has_name names c.queue ≡ has_name names q
    same_names e = ap (has_name names) (names_same c.queue q e)

    by_same : (a : Bool) → same_name c.queue q ≡ a → (b : Bool) → has_name names c.queue ≡ b → count_of (without_counts counts names) q ≡ cond (has_name names q) 0 (count_of counts q) →
        count_of (cond (not b) (c ∷ without_counts counts names) (without_counts counts names)) q ≡ cond (has_name names q) 0 (option_map_or (λ z. z.number) (cond a (Some c) (find (λ z. same_name z.queue q) counts)) 0)
    by_same true e true f rest = rest ∙ ap (λ d. cond d 0 (count_of counts q)) (sym (same_names e) ∙ f) ∙ sym (ap (λ d. cond d 0 c.number) (sym (same_names e) ∙ f))
    by_same true e false f rest = ap (λ d. option_map_or (λ z. z.number) (cond d (Some c) (find (λ z. same_name z.queue q) (without_counts counts names))) 0) e ∙ sym (ap (λ d. cond d 0 c.number) (sym (same_names e) ∙ f))
    by_same false e true f rest = rest
    by_same false e false f rest = ap (λ d. option_map_or (λ z. z.number) (cond d (Some c) (find (λ z. same_name z.queue q) (without_counts counts names))) 0) e ∙ rest

count_set : (counts : List Count) (name : Bytes) (n : ℕ) (q : Bytes) → count_of (set_count counts name n) q ≡ cond (same_name name q) n (count_of counts q)
count_set counts name n q = by_test (same_name name q) refl
  where
    by_test : (a : Bool) → same_name name q ≡ a → option_map_or (λ z. z.number) (cond a (Some (record { queue = name; number = n })) (find (λ z. same_name z.queue q) (without_counts counts (name ∷ [])))) 0 ≡ cond a n (count_of counts q)
    by_test true e = refl
    by_test false e = count_without counts (name ∷ []) q ∙ ap (λ b. cond b 0 (count_of counts q)) (or_false (same_name q name) false (names_turned q name ∙ e) refl)

-- ---- what ends a count

pub ends_are : (es : List Entry) (q : Bytes) → has_name (flat_map turned_on_by es ++ flat_map queue_taken (flat_map ops_in es)) q ≡ list_any (ends_count q) es
ends_are es q = list_any-append (same_name q) (flat_map turned_on_by es) (flat_map queue_taken (flat_map ops_in es)) ∙ among es
  where
    mix : (a b c d : Bool) → ((a || b) || (c || d)) ≡ ((a || c) || (b || d))
    mix true b c d = refl
    mix false true true d = refl
    mix false true false d = refl
    mix false false true d = refl
    mix false false false d = refl

    one : (e : Entry) → (list_any (same_name q) (turned_on_by e) || list_any (same_name q) (flat_map queue_taken (ops_in e))) ≡ ends_count q e
    one (Txn tx ops) = refl
    one (QueueSet name on) = by_on on
      where
        off : (b : Bool) → (let c : Bool = false in c) ≡ (b && false)
        off true = refl
        off false = refl

        keep : (b : Bool) → ((b || false) || false) ≡ (b && true)
        keep true = refl
        keep false = refl

        by_on : (c : Bool) → (list_any (same_name q) (cond c (name ∷ []) []) || false) ≡ (same_name name q && c)
        by_on true = keep (same_name q name) ∙ ap (λ b. b && true) (names_turned q name)
        by_on false = off (same_name name q)
    one (Defined a) = refl
    one (Accepted a b c d) = refl
    one (Acked a b c) = refl
    one (Fired a) = refl
    one (Expired a) = refl

    among : (ks : List Entry) → (list_any (same_name q) (flat_map turned_on_by ks) || list_any (same_name q) (flat_map queue_taken (flat_map ops_in ks))) ≡ list_any (ends_count q) ks
    among [] = refl
    among (k ∷ ks) =
        ap (λ b. b || list_any (same_name q) (flat_map queue_taken (ops_in k ++ flat_map ops_in ks))) (list_any-append (same_name q) (turned_on_by k) (flat_map turned_on_by ks))
        ∙ ap (λ b. (list_any (same_name q) (turned_on_by k) || list_any (same_name q) (flat_map turned_on_by ks)) || b)
        (ap (list_any (same_name q)) (flat_map-append queue_taken (ops_in k) (flat_map ops_in ks)) ∙ list_any-append (same_name q) (flat_map queue_taken (ops_in k)) (flat_map queue_taken (flat_map ops_in ks)))
        ∙ mix (list_any (same_name q) (turned_on_by k)) (list_any (same_name q) (flat_map turned_on_by ks)) (list_any (same_name q) (flat_map queue_taken (ops_in k))) (list_any (same_name q) (flat_map queue_taken (flat_map ops_in ks)))
        ∙ ap (λ b. b || (list_any (same_name q) (flat_map turned_on_by ks) || list_any (same_name q) (flat_map queue_taken (flat_map ops_in ks)))) (one k) ∙ ap (λ b. ends_count q k || b) (among ks)

pub offs_end_none : (defs : List QueueDef) (q : Bytes) → list_any (ends_count q) (map off_entry defs) ≡ false
offs_end_none [] q = refl
offs_end_none (d ∷ defs) q = or_false (same_name d.name q && false) (list_any (ends_count q) (map off_entry defs)) (none (same_name d.name q)) (offs_end_none defs q)
  where
    none : (b : Bool) → (b && false) ≡ false
    none true = refl
    none false = refl

-- ---- names of queues

abbrev pub AreNamedApart : QueueDef → QueueDef → Type 0
AreNamedApart a b = same_name a.name b.name ≡ false

queues_push : (log : List Entry) (e : Entry) → is_allowed log e ≡ true → Pairwise AreNamedApart (queues log) → Pairwise AreNamedApart (queues (log ++ e ∷ []))
queues_push log e f h = subst (Pairwise AreNamedApart) (sym (ap (flat_map queue_def) (flat_map-append ddl_of log (e ∷ []) ∙ ap (λ l. definitions log ++ l) (append-nil (ddl_of e))) ∙ flat_map-append queue_def (definitions log) (ddl_of e))) (one e f)
  where
    none_same : (name : Bytes) (defs : List QueueDef) → is_none (find (λ def. same_name def.name name) defs) ≡ true → AllByRecursion (λ def. same_name def.name name ≡ false) defs
    none_same name [] g = tt
    none_same name (d ∷ defs) g = by_test (same_name d.name name) g (none_same name defs)
      where
        by_test : (b : Bool) → is_none (cond b (Some d) (find (λ def. same_name def.name name) defs)) ≡ true → (is_none (find (λ def. same_name def.name name) defs) ≡ true → AllByRecursion (λ def. same_name def.name name ≡ false) defs) →
            (b ≡ false) × AllByRecursion (λ def. same_name def.name name ≡ false) defs
        by_test true k rest = clash (sym k)
        by_test false k rest = (refl, rest k)

    plain : Pairwise AreNamedApart (queues log ++ [])
    plain = subst (Pairwise AreNamedApart) (sym (append-nil (queues log))) h

    defined : (d : Ddl) → is_ddl_allowed log d ≡ true → Pairwise AreNamedApart (queues log ++ flat_map queue_def (d ∷ []))
    defined (ddl.Queue d) g = pairs_push AreNamedApart (queues log) d h (none_same d.name (queues log) (both_left (is_none (find_queue log d.name)) _ g))
    defined (ddl.MessageType d) g = plain
    defined (ddl.Contract d) g = plain
    defined (ddl.Service d) g = plain
    defined (ddl.Route d) g = plain
    defined (ddl.Priority d) g = plain
    defined (ddl.Table d) g = plain
    defined (ddl.Procedure d) g = plain

    one : (k : Entry) → is_allowed log k ≡ true → Pairwise AreNamedApart (queues log ++ flat_map queue_def (ddl_of k))
    one (Defined d) g = defined d g
    one (Txn a b) g = plain
    one (Accepted a b c d) g = plain
    one (Acked a b c) g = plain
    one (Fired a) g = plain
    one (Expired a) g = plain
    one (QueueSet a b) g = plain

queues_more : (log es : List Entry) → are_allowed_after log es ≡ true → Pairwise AreNamedApart (queues log) → Pairwise AreNamedApart (queues (log ++ es))
queues_more log [] f h = subst (λ l. Pairwise AreNamedApart (queues l)) (sym (append-nil log)) h
queues_more log (e ∷ es) f h = subst (λ l. Pairwise AreNamedApart (queues l)) (append_assoc log (e ∷ []) es)
    (queues_more (log ++ e ∷ []) es (both_right (is_allowed log e) (are_allowed_after (log ++ e ∷ []) es) f) (queues_push log e (both_left (is_allowed log e) (are_allowed_after (log ++ e ∷ []) es) f) h))

-- in a well-formed log no two queues have one name
pub queues_apart : (log : List Entry) → WellFormed log → Pairwise AreNamedApart (queues log)
queues_apart log formed = queues_more [] log formed tt

-- ---- a rollback

find_filtered : {X : Type 0} (p f : X → Bool) (xs : List X) → ((x : X) → p x ≡ true → f x ≡ true) → find p (filter f xs) ≡ find p xs
find_filtered p f [] g = refl
find_filtered {X = X} p f (x ∷ xs) g = by_test (f x) refl (p x) refl (find_filtered p f xs g)
  where
    by_test : (a : Bool) → f x ≡ a → (b : Bool) → p x ≡ b → find p (filter f xs) ≡ find p xs → find p (cond a (x ∷ filter f xs) (filter f xs)) ≡ cond b (Some x) (find p xs)
    by_test true e true k rest = ap (λ d. cond d (Some x) (find p (filter f xs))) k
    by_test true e false k rest = ap (λ d. cond d (Some x) (find p (filter f xs))) k ∙ rest
    by_test false e true k rest = clash (sym (g x k) ∙ e)
    by_test false e false k rest = rest

module _ (room : Bool) (p : Part) (q : Bytes) where
  abbrev value : QueueDef → ℕ
  value def = cond (is_held_by room p def) 0 (count_of p.counts def.name + 1)

  fold_none : (defs : List QueueDef) (counts : List Count) → AllByRecursion (λ d. same_name d.name q ≡ false) defs → count_of (fold (count_after room p) counts defs) q ≡ count_of counts q
  fold_none [] counts h = refl
  fold_none (d ∷ defs) counts h = fold_none defs (set_count counts d.name (value d)) h.1 ∙ count_set counts d.name (value d) q ∙ ap (λ b. cond b (value d) (count_of counts q)) h.0

  fold_one : (defs : List QueueDef) (counts : List Count) (def : QueueDef) → Pairwise AreNamedApart defs → find (λ d. same_name d.name q) defs ≡ Some def → count_of (fold (count_after room p) counts defs) q ≡ value def
  fold_one [] counts def h e = cc
  fold_one (d ∷ defs) counts def h e = by_test (same_name d.name q) refl e (fold_one defs (set_count counts d.name (value d)) def h.1)
    where
      by_test : (b : Bool) → same_name d.name q ≡ b → cond b (Some d) (find (λ z. same_name z.name q) defs) ≡ Some def →
          (find (λ z. same_name z.name q) defs ≡ Some def → count_of (fold (count_after room p) (set_count counts d.name (value d)) defs) q ≡ value def) →
          count_of (fold (count_after room p) (set_count counts d.name (value d)) defs) q ≡ value def
      by_test true f g rest = fold_none defs (set_count counts d.name (value d)) (all_weaker (AreNamedApart d) (λ z. same_name z.name q ≡ false)
          (λ z k. names_turned z.name q ∙ subst (λ n. same_name n z.name ≡ false) (names_same d.name q f) k) defs h.0)
          ∙ count_set counts d.name (value d) q ∙ ap (λ b. cond b (value d) (count_of counts q)) f ∙ ap value (same_Some d def g)
      by_test false f g rest = rest g

-- what a rollback makes of a queue's count is what the history says
module _ (p : Part) (o : OpenTransaction) (q : Bytes) (apart : Pairwise AreNamedApart (queues p.log)) (room : Bool) where
  abbrev receives : QueueDef → Bool
  receives def = has_name (flat_map queue_taken o.ops) def.name

  abbrev anew_by : List Entry → Bool
  anew_by added = not (has_poison_handling p.log q) || (queue_is_on p.log q && not (list_any (turns_off_queue q) added))

  pub unreceived : received_from q o ≡ false → count_of (fold (count_after room p) p.counts (queues_of p o)) q ≡ count_of p.counts q
  unreceived e = fold_none room p q (queues_of p o) p.counts (others (queues p.log))
    where
      others : (defs : List QueueDef) → AllByRecursion (λ d. same_name d.name q ≡ false) (filter receives defs)
      others [] = tt
      others (d ∷ defs) = by_test (receives d) refl (others defs)
        where
          apart_names : receives d ≡ true → (b : Bool) → same_name d.name q ≡ b → same_name d.name q ≡ false
          apart_names f false g = g
          apart_names f true g = clash (sym (subst (λ n. has_name (flat_map queue_taken o.ops) n ≡ true) (names_same d.name q g) f) ∙ e)

          by_test : (b : Bool) → receives d ≡ b → AllByRecursion (λ z. same_name z.name q ≡ false) (filter receives defs) → AllByRecursion (λ z. same_name z.name q ≡ false) (cond b (d ∷ filter receives defs) (filter receives defs))
          by_test true f rest = (apart_names f (same_name d.name q) refl, rest)
          by_test false f rest = rest

  -- the queue is turned off exactly where it is disabled
  pub turned_off : (def : QueueDef) → received_from q o ≡ true → find_queue p.log q ≡ Some def → list_any (turns_off_queue q) (map off_entry (filter (disables p) (queues_of p o))) ≡ disables p def
  turned_off def e f = among (queues_of p o) (pairs_filter AreNamedApart receives (queues p.log) apart)
      (find_filtered (λ d. same_name d.name q) receives (queues p.log) (λ d g. subst (λ n. has_name (flat_map queue_taken o.ops) n ≡ true) (sym (names_same d.name q g)) e) ∙ f)
    where
      none : (defs : List QueueDef) → AllByRecursion (λ d. same_name d.name q ≡ false) defs → list_any (turns_off_queue q) (map off_entry (filter (disables p) defs)) ≡ false
      none [] h = refl
      none (d ∷ defs) h = by_test (disables p d) (none defs h.1)
        where
          by_test : (b : Bool) → list_any (turns_off_queue q) (map off_entry (filter (disables p) defs)) ≡ false → list_any (turns_off_queue q) (map off_entry (cond b (d ∷ filter (disables p) defs) (filter (disables p) defs))) ≡ false
          by_test true rest = or_false (same_name d.name q && true) (list_any (turns_off_queue q) (map off_entry (filter (disables p) defs))) (ap (λ b. b && true) h.0) rest
          by_test false rest = rest

      among : (defs : List QueueDef) → Pairwise AreNamedApart defs → find (λ d. same_name d.name q) defs ≡ Some def → list_any (turns_off_queue q) (map off_entry (filter (disables p) defs)) ≡ disables p def
      among [] h g = cc
      among (d ∷ defs) h g = by_name (same_name d.name q) refl g (among defs h.1)
        where
          rest_apart : same_name d.name q ≡ true → AllByRecursion (λ z. same_name z.name q ≡ false) defs
          rest_apart k = all_weaker (AreNamedApart d) (λ z. same_name z.name q ≡ false) (λ z i. names_turned z.name q ∙ subst (λ n. same_name n z.name ≡ false) (names_same d.name q k) i) defs h.0

          here : (b : Bool) → same_name d.name q ≡ true → list_any (turns_off_queue q) (map off_entry (cond b (d ∷ filter (disables p) defs) (filter (disables p) defs))) ≡ b
          here true k = ap (λ c. (c && true) || list_any (turns_off_queue q) (map off_entry (filter (disables p) defs))) k
          here false k = none defs (rest_apart k)

          skip : (b : Bool) → same_name d.name q ≡ false → list_any (turns_off_queue q) (map off_entry (filter (disables p) defs)) ≡ disables p def →
              list_any (turns_off_queue q) (map off_entry (cond b (d ∷ filter (disables p) defs) (filter (disables p) defs))) ≡ disables p def
          skip true k rest = ap (λ c. (c && true) || list_any (turns_off_queue q) (map off_entry (filter (disables p) defs))) k ∙ rest
          skip false k rest = rest

          by_name : (b : Bool) → same_name d.name q ≡ b → cond b (Some d) (find (λ z. same_name z.name q) defs) ≡ Some def →
              (find (λ z. same_name z.name q) defs ≡ Some def → list_any (turns_off_queue q) (map off_entry (filter (disables p) defs)) ≡ disables p def) → list_any (turns_off_queue q) (map off_entry (filter (disables p) (d ∷ defs))) ≡ disables p def
          by_name true k i rest = here (disables p d) k ∙ ap (disables p) (same_Some d def i)
          by_name false k i rest = skip (disables p d) k (rest i)

  pub received : (def : QueueDef) → received_from q o ≡ true → find_queue p.log q ≡ Some def →
      count_of (fold (count_after room p) p.counts (queues_of p o)) q ≡ one_more (count_of p.counts q) (anew_by (cond room (map off_entry (filter (disables p) (queues_of p o))) []))
  received def e f =
      fold_one room p q (queues_of p o) p.counts def (pairs_filter AreNamedApart receives (queues p.log) apart)
      (find_filtered (λ d. same_name d.name q) receives (queues p.log) (λ d g. subst (λ n. has_name (flat_map queue_taken o.ops) n ≡ true) (sym (names_same d.name q g)) e) ∙ f)
      ∙ ap (λ name. cond ((count_of p.counts name == 4) && (not def.poison || (((count_of p.counts name == 4) && def.poison && is_on p.log def) && not room))) 0 (count_of p.counts name + 1)) named
      ∙ logic (count_of p.counts q) def.poison (is_on p.log def) room
      ∙ sym (ap (one_more (count_of p.counts q)) (ap (λ r. not (option_map_or (λ d. d.poison) r false) || (unwrap_or (option_map (is_on p.log) r) false && not (list_any (turns_off_queue q) (cond room (map off_entry (filter (disables p) (queues_of p o))) [])))) f
      ∙ ap (λ b. not def.poison || (is_on p.log def && not b)) (off_is room)))
    where
      named : def.name ≡ q
      named = names_same def.name q (found_passes (λ d. same_name d.name q) (queues p.log) def f)

      off_is : (r : Bool) → list_any (turns_off_queue q) (cond r (map off_entry (filter (disables p) (queues_of p o))) []) ≡ (r && ((count_of p.counts q == 4) && def.poison && is_on p.log def))
      off_is true = turned_off def e f ∙ ap (λ name. (count_of p.counts name == 4) && def.poison && is_on p.log def) named
      off_is false = refl

      logic : (n : ℕ) (poison on r : Bool) → cond ((n == 4) && (not poison || (((n == 4) && poison && on) && not r))) 0 (n + 1) ≡ one_more n (not poison || (on && not (r && ((n == 4) && poison && on))))
      logic n poison on r = by_fifth (n == 4) refl
        where
          five : (k : ℕ) → (k + 1 == 5) ≡ (k == 4)
          five k = by_test (k == 4) refl
            where
              by_test : (c : Bool) → (k == 4) ≡ c → (k + 1 == 5) ≡ c
              by_test true i = grind (arith, nat_tests)
              by_test false i = grind (arith, nat_tests)

          by_rest : (a b c : Bool) → (not a || ((a && b) && not c)) ≡ (not a || (b && not (c && (a && b))))
          by_rest true true true = refl
          by_rest true true false = refl
          by_rest true false true = refl
          by_rest true false false = refl
          by_rest false b c = refl

          by_fifth : (c : Bool) → (n == 4) ≡ c → cond (c && (not poison || ((c && poison && on) && not r))) 0 (n + 1) ≡ cond ((n + 1 == 5) && (not poison || (on && not (r && (c && poison && on))))) 0 (n + 1)
          by_fifth true i = ap (λ b. cond b 0 (n + 1)) (by_rest poison on r) ∙ sym (ap (λ b. cond (b && (not poison || (on && not (r && (poison && on))))) 0 (n + 1)) (five n ∙ i))
          by_fifth false i = sym (ap (λ b. cond (b && (not poison || (on && not (r && false)))) 0 (n + 1)) (five n ∙ i))
