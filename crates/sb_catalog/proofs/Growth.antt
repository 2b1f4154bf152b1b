-- What is known grows with the log.
use Rattle.std.proofs.Common.{◌≡◌, ◌+◌, Bool, true, false, cond, List, [], ◌∷◌, ◌++◌, length, refl, ap, sym, subst, ◌∙◌, arith, length-append}
use Rattle.std.specs.Prelude.{if◌then◌else◌, flat_map, find, Option, Some, None, IsSome, IsTrue, is_none, option_map, unwrap_or}
use Rattle.std.specs.Cmp.Lexicographic.{nat_list_eq_equiv, same_text}
use Rattle.std.specs.List.{last_or}
use Rattle.std.specs.Option.{option_or}
use Rattle.std.proofs.lemmas.Grind.{flat_map-append}
use Rattle.std.proofs.lemmas.List.{append-nil}
use Rattle.std.proofs.lemmas.List.Folds.{find-append}
use Rattle.sb_log.specs.declared.definitions.Ddl.{Ddl}
use Rattle.sb_log.specs.declared.definitions.Ddl.TheVariants.{MessageType, Contract, Queue, Service, Route, Priority, Table, Procedure}
use Rattle.sb_log.specs.declared.definitions.QueueDef.{QueueDef}
use Rattle.sb_log.specs.declared.entries.Entry.{Entry}
use Rattle.sb_log.specs.declared.entries.Entry.TheVariants.{Defined, QueueSet}
use Rattle.sb_model.specs.Sides.{Bytes, same_name}
use Rattle.sb_model.specs.Catalog.{ddl_of, definitions, message_def, contract_def, queue_def, service_def, route_def, priority_def, table_def, procedure_def, find_queue, queues, setting}
use Rattle.sb_catalog.specs.Known.{Known, defined, is_new, log_of, nothing, ready_for, told, with_on}
use Rattle.sb_catalog.specs.Of.{IsOf, as_told}
use Rattle.sb_catalog.proofs.Parts.{queues_known}

-- what one more entry defines comes last
pub grown : {A : Type 0} (f : Ddl → List A) (log : List Entry) (e : Entry) → flat_map f (definitions (log ++ e ∷ [])) ≡ flat_map f (definitions log) ++ flat_map f (ddl_of e)
grown f log e =
    ap (flat_map f) (flat_map-append ddl_of log (e ∷ []) ∙ ap (λ ds. definitions log ++ ds) (append-nil (ddl_of e)))
    ∙ flat_map-append f (definitions log) (ddl_of e)

-- nothing comes of an entry that defines nothing
pub not_grown : {A : Type 0} (f : Ddl → List A) (log : List Entry) (e : Entry) → flat_map f (ddl_of e) ≡ [] → flat_map f (definitions (log ++ e ∷ [])) ≡ flat_map f (definitions log)
not_grown f log e none_defined = grown f log e ∙ ap (λ xs. flat_map f (definitions log) ++ xs) none_defined ∙ append-nil (flat_map f (definitions log))

pub last_or-append : {A : Type 0} (o : Option A) (xs ys : List A) → last_or o (xs ++ ys) ≡ last_or (last_or o xs) ys
last_or-append o [] ys = refl
last_or-append o (x ∷ xs) ys = last_or-append (Some x) xs ys

-- the settings of one more entry come last
settings_grown : (q : Bytes) (log : List Entry) (e : Entry) → flat_map (setting q) (log ++ e ∷ []) ≡ flat_map (setting q) log ++ setting q e
settings_grown q log e = flat_map-append (setting q) log (e ∷ []) ∙ ap (λ xs. flat_map (setting q) log ++ xs) (append-nil (setting q e))

abbrev told_by : QueueDef → List Bool → QueueDef
told_by d settings = record d { on = unwrap_or (last_or None settings) d.on }

same_told : (log : List Entry) (e : Entry) (d : QueueDef) → setting d.name e ≡ [] → as_told (log ++ e ∷ []) d ≡ as_told log d
same_told log e d none_defined =
    ap (told_by d) (settings_grown d.name log e ∙ ap (λ xs. flat_map (setting d.name) log ++ xs) none_defined ∙ append-nil (flat_map (setting d.name) log))

seen_alike : {A B : Type 0} (f g : A → B) → ((x : A) → f x ≡ g x) → (o : Option A) → option_map f o ≡ option_map g o
seen_alike f g same None = refl
seen_alike f g same (Some x) = ap Some (same x)

abbrev by_name : Bytes → QueueDef → Bool
by_name q d = same_name d.name q

-- where the queues stay and the entry sets none, they are found as before
same_queue_found : (log : List Entry) (k l : Known) (e : Entry) → IsOf log k → l.queues ≡ k.queues → queues (log ++ e ∷ []) ≡ queues log → ((queue : Bytes) → setting queue e ≡ [])
    → (q : Bytes) → find_queue (log_of l) q ≡ option_map (as_told (log ++ e ∷ [])) (find_queue (log ++ e ∷ []) q)
same_queue_found log k l e h same_known same_log unset q =
    ap (find (by_name q)) (queues_known l ∙ same_known ∙ sym (queues_known k))
    ∙ h.queues q
    ∙ sym (seen_alike (as_told (log ++ e ∷ [])) (as_told log) (λ d. same_told log e d (unset d.name)) (find_queue log q))
    ∙ sym (ap (λ ds. option_map (as_told (log ++ e ∷ [])) (find (by_name q) ds)) same_log)

-- an entry that leaves the queues and sets none leaves all of them untold that were so
still_untold : (log : List Entry) (k : Known) (e : Entry) → IsOf log k → queues (log ++ e ∷ []) ≡ queues log → ((queue : Bytes) → setting queue e ≡ [])
    → (q : Bytes) → find_queue (log ++ e ∷ []) q ≡ None → flat_map (setting q) (log ++ e ∷ []) ≡ []
still_untold log k e h same_log unset q none =
    settings_grown q log e
    ∙ ap (λ xs. flat_map (setting q) log ++ xs) (unset q)
    ∙ append-nil (flat_map (setting q) log)
    ∙ h.untold q (sym (ap (find (by_name q)) same_log) ∙ none)

-- an entry that defines nothing and sets no queue
pub others_change_nothing : (log : List Entry) (k : Known) (e : Entry) → IsOf log k → ddl_of e ≡ [] → ((queue : Bytes) → setting queue e ≡ []) → IsOf (log ++ e ∷ []) k
others_change_nothing log k e h none_defined unset = record {
  message_types = h.message_types ∙ sym (not_grown message_def log e (ap (flat_map message_def) none_defined));
  contracts = h.contracts ∙ sym (not_grown contract_def log e (ap (flat_map contract_def) none_defined));
  queues = same_queue_found log k k e h refl (not_grown queue_def log e (ap (flat_map queue_def) none_defined)) unset;
  queue_count = h.queue_count ∙ sym (ap length (not_grown queue_def log e (ap (flat_map queue_def) none_defined)));
  services = h.services ∙ sym (not_grown service_def log e (ap (flat_map service_def) none_defined));
  routes = h.routes ∙ sym (not_grown route_def log e (ap (flat_map route_def) none_defined));
  priorities = h.priorities ∙ sym (not_grown priority_def log e (ap (flat_map priority_def) none_defined));
  tables = h.tables ∙ sym (not_grown table_def log e (ap (flat_map table_def) none_defined));
  procedures = h.procedures ∙ sym (not_grown procedure_def log e (ap (flat_map procedure_def) none_defined));
  untold = still_untold log k e h (not_grown queue_def log e (ap (flat_map queue_def) none_defined)) unset;
}

pub room_changes_nothing : (log : List Entry) (k : Known) → IsOf log k → IsOf log (ready_for k None)
room_changes_nothing log k h = record {
  message_types = h.message_types;
  contracts = h.contracts;
  queues = h.queues;
  queue_count = h.queue_count;
  services = h.services;
  routes = h.routes;
  priorities = h.priorities;
  tables = h.tables;
  procedures = h.procedures;
  untold = h.untold;
}

pub nothing_is_known : IsOf [] nothing
nothing_is_known = record {
  message_types = refl;
  contracts = refl;
  queues = λ q. refl;
  queue_count = refl;
  services = refl;
  routes = refl;
  priorities = refl;
  tables = refl;
  procedures = refl;
  untold = λ q none. refl;
}

-- what a setting makes of a queue
abbrev set_on : Bytes → Bool → QueueDef → QueueDef
set_on q on d = if same_name d.name q then record d { on = on } else d

set_last : (d : QueueDef) (settings : List Bool) (on t : Bool) → (if t then record (told_by d settings) { on = on } else told_by d settings) ≡ told_by d (settings ++ (if t then on ∷ [] else []))
set_last d settings on true = sym (ap (λ o. let q : QueueDef = record d { on = unwrap_or o d.on } in q) (last_or-append None settings (on ∷ [])))
set_last d settings on false = sym (ap (told_by d) (append-nil settings))

told_last : (log : List Entry) (q : Bytes) (on : Bool) (d : QueueDef) → set_on q on (as_told log d) ≡ as_told (log ++ QueueSet q on ∷ []) d
told_last log q on d =
    set_last d (flat_map (setting d.name) log) on (same_name d.name q)
    ∙ ap (λ t. told_by d (flat_map (setting d.name) log ++ (if t then on ∷ [] else []))) (nat_list_eq_equiv.symm d.name q)
    ∙ sym (ap (told_by d) (settings_grown d.name log (QueueSet q on)))

-- a queue with another name stays
other_stays : (q : Bytes) (on : Bool) (name : Bytes) → same_name name q ≡ false → (ds : List QueueDef) → option_map (set_on q on) (find (by_name name) ds) ≡ find (by_name name) ds
other_stays q on name other [] = refl
other_stays q on name other (d ∷ ds) = by (other_stays q on name other ds) (same_name d.name name) refl
  where
    by : option_map (set_on q on) (find (by_name name) ds) ≡ find (by_name name) ds → (t : Bool) → same_name d.name name ≡ t → option_map (set_on q on) (cond t (Some d) (find (by_name name) ds)) ≡ cond t (Some d) (find (by_name name) ds)
    by rest true e = ap (λ b. let o : Option QueueDef = Some (if b then record d { on = on } else d) in o) (nat_list_eq_equiv.congr d.name name q e ∙ other)
    by rest false e = rest

found_with_on : (q : Bytes) (on : Bool) (name : Bytes) (ds : List QueueDef) → find (by_name name) (with_on q on ds) ≡ option_map (set_on q on) (find (by_name name) ds)
found_with_on q on name [] = refl
found_with_on q on name (d ∷ ds) = by (found_with_on q on name ds) (same_name d.name q) refl (same_name d.name name) refl
  where
    as_set : (t : Bool) → same_name d.name q ≡ t → Some (if t then record d { on = on } else d) ≡ Some (set_on q on d)
    as_set t e = sym (ap (λ b. let o : Option QueueDef = Some (if b then record d { on = on } else d) in o) e)

    apart : same_name d.name q ≡ true → same_name d.name name ≡ false → same_name name q ≡ false
    apart e u = nat_list_eq_equiv.symm name q ∙ sym (nat_list_eq_equiv.congr d.name q name e) ∙ u

    by : find (by_name name) (with_on q on ds) ≡ option_map (set_on q on) (find (by_name name) ds) → (t : Bool) → same_name d.name q ≡ t → (u : Bool) → same_name d.name name ≡ u
        → find (by_name name) (cond t (record d { on = on } ∷ ds) (d ∷ with_on q on ds)) ≡ option_map (set_on q on) (cond (same_name d.name name) (Some d) (find (by_name name) ds))
    by rest true e true u = rw u (as_set true e)
    by rest true e false u = rw u (sym (other_stays q on name (apart e u) ds))
    by rest false e true u = rw u (as_set false e)
    by rest false e false u = rw u rest

length-with_on : (q : Bytes) (on : Bool) (ds : List QueueDef) → length (with_on q on ds) ≡ length ds
length-with_on q on [] = refl
length-with_on q on (d ∷ ds) = by (length-with_on q on ds) (same_name d.name q)
  where
    by : length (with_on q on ds) ≡ length ds → (t : Bool) → length (cond t (record d { on = on } ∷ ds) (d ∷ with_on q on ds)) ≡ length (d ∷ ds)
    by rest true = refl
    by rest false = omega (arith, rest)

seen_twice : {A B C : Type 0} (f : B → C) (g : A → B) (h : A → C) → ((x : A) → f (g x) ≡ h x) → (o : Option A) → option_map f (option_map g o) ≡ option_map h o
seen_twice f g h same None = refl
seen_twice f g h same (Some x) = ap Some (same x)

-- a queue that isn't there has another name than one that is
apart : (log : List Entry) (q name : Bytes) → IsSome (find_queue log q) → find_queue log name ≡ None → same_name q name ≡ true → ⊥
apart log q name there none same = none_there (subst IsSome none (subst (λ n. IsSome (find_queue log n)) (same_text q name (sym same)) there))
  where
    none_there : false ≡ true → ⊥
    none_there e = cc

untold_apart : (log : List Entry) (q name : Bytes) (on : Bool) → IsSome (find_queue log q) → find_queue log name ≡ None → setting name (QueueSet q on) ≡ []
untold_apart log q name on there none = by (same_name q name) refl
  where
    by : (t : Bool) → same_name q name ≡ t → (if t then on ∷ [] else []) ≡ []
    by true e = absurd (apart log q name there none e)
    by false e = refl

-- a setting is told
pub setting_is_told : (log : List Entry) (k : Known) (q : Bytes) (on : Bool) → IsOf log k → IsSome (find_queue log q) → IsOf (log ++ QueueSet q on ∷ []) (told k q on)
setting_is_told log k q on h there = record {
  message_types = h.message_types ∙ sym (not_grown message_def log (QueueSet q on) refl);
  contracts = h.contracts ∙ sym (not_grown contract_def log (QueueSet q on) refl);
  queues = λ name.
      ap (find (by_name name)) (queues_known (told k q on))
      ∙ found_with_on q on name k.queues
      ∙ ap (λ o. option_map (set_on q on) o) (ap (find (by_name name)) (sym (queues_known k)) ∙ h.queues name)
      ∙ seen_twice (set_on q on) (as_told log) (as_told (log ++ QueueSet q on ∷ [])) (told_last log q on) (find_queue log name)
      ∙ sym (ap (λ ds. option_map (as_told (log ++ QueueSet q on ∷ [])) (find (by_name name) ds)) (not_grown queue_def log (QueueSet q on) refl));
  queue_count = length-with_on q on k.queues ∙ h.queue_count ∙ sym (ap length (not_grown queue_def log (QueueSet q on) refl));
  services = h.services ∙ sym (not_grown service_def log (QueueSet q on) refl);
  routes = h.routes ∙ sym (not_grown route_def log (QueueSet q on) refl);
  priorities = h.priorities ∙ sym (not_grown priority_def log (QueueSet q on) refl);
  tables = h.tables ∙ sym (not_grown table_def log (QueueSet q on) refl);
  procedures = h.procedures ∙ sym (not_grown procedure_def log (QueueSet q on) refl);
  untold = λ name none. let before : find_queue log name ≡ None = sym (ap (find (by_name name)) (not_grown queue_def log (QueueSet q on) refl)) ∙ none in
      settings_grown name log (QueueSet q on)
      ∙ ap (λ xs. flat_map (setting name) log ++ xs) (untold_apart log q name on there before)
      ∙ append-nil (flat_map (setting name) log)
      ∙ h.untold name before;
}

seen_or : {A B : Type 0} (f : A → B) (o p : Option A) → option_map f (option_or o p) ≡ option_or (option_map f o) (option_map f p)
seen_or f None p = refl
seen_or f (Some x) p = refl

one_found : (f : QueueDef → QueueDef) (d : QueueDef) (q : Bytes) → f d ≡ d → option_map f (find (by_name q) (d ∷ [])) ≡ find (by_name q) (d ∷ [])
one_found f d q same = by (same_name d.name q)
  where
    by : (t : Bool) → option_map f (cond t (Some d) None) ≡ cond t (Some d) None
    by true = ap Some same
    by false = refl

new_queue_found : (log : List Entry) (k : Known) (d : QueueDef) → IsOf log k → flat_map (setting d.name) log ≡ []
    → (q : Bytes) → find_queue (log_of (defined k (Queue d))) q ≡ option_map (as_told (log ++ Defined (Queue d) ∷ [])) (find_queue (log ++ Defined (Queue d) ∷ []) q)
new_queue_found log k d h unset q =
    ap (find (by_name q)) (queues_known (defined k (Queue d)))
    ∙ find-append (by_name q) k.queues (d ∷ [])
    ∙ ap (λ o. option_or o (find (by_name q) (d ∷ [])))
    (ap (find (by_name q)) (sym (queues_known k)) ∙ h.queues q
    ∙ sym (seen_alike new (as_told log) (λ x. same_told log (Defined (Queue d)) x refl) (find_queue log q)))
    ∙ ap (λ o. option_or (option_map new (find_queue log q)) o) (sym (one_found new d q (same_told log (Defined (Queue d)) d refl ∙ ap (told_by d) unset)))
    ∙ sym (seen_or new (find_queue log q) (find (by_name q) (d ∷ [])))
    ∙ ap (λ o. option_map new o) (sym (find-append (by_name q) (queues log) (d ∷ [])))
    ∙ sym (ap (λ ds. option_map new (find (by_name q) ds)) (grown queue_def log (Defined (Queue d))))
  where
    new : QueueDef → QueueDef
    new = as_told (log ++ Defined (Queue d) ∷ [])

none_found : {A : Type 0} (o : Option A) → IsTrue (is_none o) → o ≡ None
none_found None new = refl
none_found (Some x) new = cc

first_none : {A : Type 0} (o p : Option A) → option_or o p ≡ None → o ≡ None
first_none None p none = refl
first_none (Some x) p none = cc

-- a queue that isn't there behind one more was not there before
new_queue_untold : (log : List Entry) (k : Known) (d : QueueDef) → IsOf log k
    → (q : Bytes) → find_queue (log ++ Defined (Queue d) ∷ []) q ≡ None → flat_map (setting q) (log ++ Defined (Queue d) ∷ []) ≡ []
new_queue_untold log k d h q none =
    settings_grown q log (Defined (Queue d))
    ∙ append-nil (flat_map (setting q) log)
    ∙ h.untold q (first_none (find_queue log q) (find (by_name q) (d ∷ []))
    (sym (find-append (by_name q) (queues log) (d ∷ [])) ∙ sym (ap (find (by_name q)) (grown queue_def log (Defined (Queue d)))) ∙ none))

-- a definition comes last of its kind
pub definition_is_known : (log : List Entry) (k : Known) (ddl : Ddl) → IsOf log k → IsTrue (is_new log ddl) → IsOf (log ++ Defined ddl ∷ []) (defined k ddl)
definition_is_known log k (MessageType d) h new = record {
  message_types = ap (λ xs. xs ++ d ∷ []) h.message_types ∙ sym (grown message_def log (Defined (MessageType d)));
  contracts = h.contracts ∙ sym (not_grown contract_def log (Defined (MessageType d)) refl);
  queues = same_queue_found log k (defined k (MessageType d)) (Defined (MessageType d)) h refl (not_grown queue_def log (Defined (MessageType d)) refl) (λ q. refl);
  queue_count = h.queue_count ∙ sym (ap length (not_grown queue_def log (Defined (MessageType d)) refl));
  services = h.services ∙ sym (not_grown service_def log (Defined (MessageType d)) refl);
  routes = h.routes ∙ sym (not_grown route_def log (Defined (MessageType d)) refl);
  priorities = h.priorities ∙ sym (not_grown priority_def log (Defined (MessageType d)) refl);
  tables = h.tables ∙ sym (not_grown table_def log (Defined (MessageType d)) refl);
  procedures = h.procedures ∙ sym (not_grown procedure_def log (Defined (MessageType d)) refl);
  untold = still_untold log k (Defined (MessageType d)) h (not_grown queue_def log (Defined (MessageType d)) refl) (λ q. refl);
}
definition_is_known log k (Contract d) h new = record {
  message_types = h.message_types ∙ sym (not_grown message_def log (Defined (Contract d)) refl);
  contracts = ap (λ xs. xs ++ d ∷ []) h.contracts ∙ sym (grown contract_def log (Defined (Contract d)));
  queues = same_queue_found log k (defined k (Contract d)) (Defined (Contract d)) h refl (not_grown queue_def log (Defined (Contract d)) refl) (λ q. refl);
  queue_count = h.queue_count ∙ sym (ap length (not_grown queue_def log (Defined (Contract d)) refl));
  services = h.services ∙ sym (not_grown service_def log (Defined (Contract d)) refl);
  routes = h.routes ∙ sym (not_grown route_def log (Defined (Contract d)) refl);
  priorities = h.priorities ∙ sym (not_grown priority_def log (Defined (Contract d)) refl);
  tables = h.tables ∙ sym (not_grown table_def log (Defined (Contract d)) refl);
  procedures = h.procedures ∙ sym (not_grown procedure_def log (Defined (Contract d)) refl);
  untold = still_untold log k (Defined (Contract d)) h (not_grown queue_def log (Defined (Contract d)) refl) (λ q. refl);
}
definition_is_known log k (Queue d) h new = record {
  message_types = h.message_types ∙ sym (not_grown message_def log (Defined (Queue d)) refl);
  contracts = h.contracts ∙ sym (not_grown contract_def log (Defined (Queue d)) refl);
  queues = new_queue_found log k d h (h.untold d.name (none_found (find_queue log d.name) new));
  queue_count = length-append k.queues (d ∷ []) ∙ ap (λ n. n + 1) h.queue_count ∙ sym (length-append (queues log) (d ∷ [])) ∙ sym (ap length (grown queue_def log (Defined (Queue d))));
  services = h.services ∙ sym (not_grown service_def log (Defined (Queue d)) refl);
  routes = h.routes ∙ sym (not_grown route_def log (Defined (Queue d)) refl);
  priorities = h.priorities ∙ sym (not_grown priority_def log (Defined (Queue d)) refl);
  tables = h.tables ∙ sym (not_grown table_def log (Defined (Queue d)) refl);
  procedures = h.procedures ∙ sym (not_grown procedure_def log (Defined (Queue d)) refl);
  untold = new_queue_untold log k d h;
}
definition_is_known log k (Service d) h new = record {
  message_types = h.message_types ∙ sym (not_grown message_def log (Defined (Service d)) refl);
  contracts = h.contracts ∙ sym (not_grown contract_def log (Defined (Service d)) refl);
  queues = same_queue_found log k (defined k (Service d)) (Defined (Service d)) h refl (not_grown queue_def log (Defined (Service d)) refl) (λ q. refl);
  queue_count = h.queue_count ∙ sym (ap length (not_grown queue_def log (Defined (Service d)) refl));
  services = ap (λ xs. xs ++ d ∷ []) h.services ∙ sym (grown service_def log (Defined (Service d)));
  routes = h.routes ∙ sym (not_grown route_def log (Defined (Service d)) refl);
  priorities = h.priorities ∙ sym (not_grown priority_def log (Defined (Service d)) refl);
  tables = h.tables ∙ sym (not_grown table_def log (Defined (Service d)) refl);
  procedures = h.procedures ∙ sym (not_grown procedure_def log (Defined (Service d)) refl);
  untold = still_untold log k (Defined (Service d)) h (not_grown queue_def log (Defined (Service d)) refl) (λ q. refl);
}
definition_is_known log k (Route d) h new = record {
  message_types = h.message_types ∙ sym (not_grown message_def log (Defined (Route d)) refl);
  contracts = h.contracts ∙ sym (not_grown contract_def log (Defined (Route d)) refl);
  queues = same_queue_found log k (defined k (Route d)) (Defined (Route d)) h refl (not_grown queue_def log (Defined (Route d)) refl) (λ q. refl);
  queue_count = h.queue_count ∙ sym (ap length (not_grown queue_def log (Defined (Route d)) refl));
  services = h.services ∙ sym (not_grown service_def log (Defined (Route d)) refl);
  routes = ap (λ xs. xs ++ d ∷ []) h.routes ∙ sym (grown route_def log (Defined (Route d)));
  priorities = h.priorities ∙ sym (not_grown priority_def log (Defined (Route d)) refl);
  tables = h.tables ∙ sym (not_grown table_def log (Defined (Route d)) refl);
  procedures = h.procedures ∙ sym (not_grown procedure_def log (Defined (Route d)) refl);
  untold = still_untold log k (Defined (Route d)) h (not_grown queue_def log (Defined (Route d)) refl) (λ q. refl);
}
definition_is_known log k (Priority d) h new = record {
  message_types = h.message_types ∙ sym (not_grown message_def log (Defined (Priority d)) refl);
  contracts = h.contracts ∙ sym (not_grown contract_def log (Defined (Priority d)) refl);
  queues = same_queue_found log k (defined k (Priority d)) (Defined (Priority d)) h refl (not_grown queue_def log (Defined (Priority d)) refl) (λ q. refl);
  queue_count = h.queue_count ∙ sym (ap length (not_grown queue_def log (Defined (Priority d)) refl));
  services = h.services ∙ sym (not_grown service_def log (Defined (Priority d)) refl);
  routes = h.routes ∙ sym (not_grown route_def log (Defined (Priority d)) refl);
  priorities = ap (λ xs. xs ++ d ∷ []) h.priorities ∙ sym (grown priority_def log (Defined (Priority d)));
  tables = h.tables ∙ sym (not_grown table_def log (Defined (Priority d)) refl);
  procedures = h.procedures ∙ sym (not_grown procedure_def log (Defined (Priority d)) refl);
  untold = still_untold log k (Defined (Priority d)) h (not_grown queue_def log (Defined (Priority d)) refl) (λ q. refl);
}
definition_is_known log k (Table d) h new = record {
  message_types = h.message_types ∙ sym (not_grown message_def log (Defined (Table d)) refl);
  contracts = h.contracts ∙ sym (not_grown contract_def log (Defined (Table d)) refl);
  queues = same_queue_found log k (defined k (Table d)) (Defined (Table d)) h refl (not_grown queue_def log (Defined (Table d)) refl) (λ q. refl);
  queue_count = h.queue_count ∙ sym (ap length (not_grown queue_def log (Defined (Table d)) refl));
  services = h.services ∙ sym (not_grown service_def log (Defined (Table d)) refl);
  routes = h.routes ∙ sym (not_grown route_def log (Defined (Table d)) refl);
  priorities = h.priorities ∙ sym (not_grown priority_def log (Defined (Table d)) refl);
  tables = ap (λ xs. xs ++ d ∷ []) h.tables ∙ sym (grown table_def log (Defined (Table d)));
  procedures = h.procedures ∙ sym (not_grown procedure_def log (Defined (Table d)) refl);
  untold = still_untold log k (Defined (Table d)) h (not_grown queue_def log (Defined (Table d)) refl) (λ q. refl);
}
definition_is_known log k (Procedure d) h new = record {
  message_types = h.message_types ∙ sym (not_grown message_def log (Defined (Procedure d)) refl);
  contracts = h.contracts ∙ sym (not_grown contract_def log (Defined (Procedure d)) refl);
  queues = same_queue_found log k (defined k (Procedure d)) (Defined (Procedure d)) h refl (not_grown queue_def log (Defined (Procedure d)) refl) (λ q. refl);
  queue_count = h.queue_count ∙ sym (ap length (not_grown queue_def log (Defined (Procedure d)) refl));
  services = h.services ∙ sym (not_grown service_def log (Defined (Procedure d)) refl);
  routes = h.routes ∙ sym (not_grown route_def log (Defined (Procedure d)) refl);
  priorities = h.priorities ∙ sym (not_grown priority_def log (Defined (Procedure d)) refl);
  tables = h.tables ∙ sym (not_grown table_def log (Defined (Procedure d)) refl);
  procedures = ap (λ xs. xs ++ d ∷ []) h.procedures ∙ sym (grown procedure_def log (Defined (Procedure d)));
  untold = still_untold log k (Defined (Procedure d)) h (not_grown queue_def log (Defined (Procedure d)) refl) (λ q. refl);
}
