-- A definition that isn't refused is allowed, and so is the setting of a queue that is there.
use Rattle.std.proofs.Common.{◌≡◌, Bool, true, false, List, [], ◌∷◌, ◌++◌, Option, Some, None, refl, ap, cond, map}
use Rattle.std.specs.Prelude.{find, not, ◌||◌, is_some, is_none}
use Rattle.std.specs.List.{AllByRecursion}
use Rattle.std.proofs.lemmas.Bool.{eq-eqb}
use Rattle.sb_log.specs.declared.definitions.Ddl.{Ddl}
use Rattle.sb_log.specs.declared.definitions.Ddl.TheVariants as ddl
use Rattle.sb_log.specs.declared.definitions.QueueDef.{QueueDef}
use Rattle.sb_log.specs.declared.entries.Entry.{Entry}
use Rattle.sb_log.specs.declared.refusals.Refusal.{Refusal}
use Rattle.sb_log.specs.declared.refusals.Refusal.TheVariants as refusal
use Rattle.sb_model.specs.Sides.{Bytes, makings, same_name}
use Rattle.sb_model.specs.Catalog.{queues, routes, priorities, find_queue, find_message_type, find_contract, find_service, find_table, find_procedure}
use Rattle.sb_model.specs.Refusals.{when, or_else}
use Rattle.sb_model.specs.Definitions.{define_refusal, procedure_named, missing_if_named, is_system_type}
use Rattle.sb_model.specs.Rollbacks.{off_entry}
use Rattle.sb_model.specs.Logs.{is_ddl_allowed, has_procedure, are_allowed_after}
use Rattle.sb_laws.proofs.Grow.{or_false_left, or_false_right, all_weaker}
use Rattle.sb_laws.proofs.Allowed.{both_true, queue_more}

-- ---- none of two refusals

first_none : (a b : Option Refusal) → or_else a b ≡ None → a ≡ None
first_none None b e = refl
first_none (Some r) b e = e

rest_none : (a b : Option Refusal) → or_else a b ≡ None → b ≡ None
rest_none None b e = e
rest_none (Some r) b e = cc

when_none : (t : Bool) (r : Refusal) → when t r ≡ None → t ≡ false
when_none true r e = cc
when_none false r e = refl

none_there : {X : Type 0} (o : Option X) → is_some o ≡ false → is_none o ≡ true
none_there None e = refl
none_there (Some x) e = cc

some_there : {X : Type 0} (o : Option X) → is_none o ≡ false → is_some o ≡ true
some_there None e = cc
some_there (Some x) e = refl

named_there : (log : List Entry) (o : Option Bytes) → missing_if_named (find_procedure log) refusal.NoProcedure o ≡ None → has_procedure log o ≡ true
named_there log None e = refl
named_there log (Some name) e = some_there (find_procedure log name) (when_none (is_none (find_procedure log name)) (refusal.NoProcedure name) e)

-- a definition whose refusals are none
pub defined_allowed : (log : List Entry) (d : Ddl) → define_refusal log d ≡ None → is_ddl_allowed log d ≡ true
defined_allowed log (ddl.MessageType d) e =
    let none : (is_some (find_message_type log d.name) || is_system_type d.name) ≡ false = when_none (is_some (find_message_type log d.name) || is_system_type d.name) (refusal.NameTaken d.name) (first_none _ _ e) in
    both_true (is_none (find_message_type log d.name)) (not (is_system_type d.name))
    (none_there (find_message_type log d.name) (or_false_left (is_some (find_message_type log d.name)) (is_system_type d.name) none))
    (ap not (or_false_right (is_some (find_message_type log d.name)) (is_system_type d.name) none))
defined_allowed log (ddl.Contract d) e = none_there (find_contract log d.name) (when_none (is_some (find_contract log d.name)) (refusal.NameTaken d.name) (first_none _ _ e))
defined_allowed log (ddl.Queue d) e = both_true (is_none (find_queue log d.name)) (has_procedure log (procedure_named d.activation))
    (none_there (find_queue log d.name) (when_none (is_some (find_queue log d.name)) (refusal.NameTaken d.name) (first_none _ _ e)))
    (named_there log (procedure_named d.activation) (first_none _ _ (rest_none (when (is_some (find_queue log d.name)) (refusal.NameTaken d.name)) _ e)))
defined_allowed log (ddl.Service d) e = both_true (is_none (find_service log d.name)) (is_some (find_queue log d.queue))
    (none_there (find_service log d.name) (when_none (is_some (find_service log d.name)) (refusal.NameTaken d.name) (first_none _ _ e)))
    (some_there (find_queue log d.queue) (when_none (is_none (find_queue log d.queue)) (refusal.NoQueue d.queue)
    (first_none (when (is_none (find_queue log d.queue)) (refusal.NoQueue d.queue)) _ (rest_none (when (is_some (find_service log d.name)) (refusal.NameTaken d.name)) _ e))))
defined_allowed log (ddl.Route d) e =
    none_there (find (λ r. same_name r.name d.name) (routes log)) (when_none (is_some (find (λ r. same_name r.name d.name) (routes log))) (refusal.NameTaken d.name) (first_none _ _ e))
defined_allowed log (ddl.Priority d) e =
    none_there (find (λ r. same_name r.name d.name) (priorities log)) (when_none (is_some (find (λ r. same_name r.name d.name) (priorities log))) (refusal.NameTaken d.name) (first_none _ _ e))
defined_allowed log (ddl.Table d) e = none_there (find_table log d.name) (when_none (is_some (find_table log d.name)) (refusal.NameTaken d.name) (first_none _ _ e))
defined_allowed log (ddl.Procedure d) e = none_there (find_procedure log d.name) (when_none (is_some (find_procedure log d.name)) (refusal.NameTaken d.name) (first_none _ _ e))

-- ---- turnings off

pub names_self : (n : Bytes) → same_name n n ≡ true
names_self [] = refl
names_self (c ∷ n) = both_true _ (same_name n n) (eq-eqb c c refl) (names_self n)

abbrev pub IsNamed : List Entry → QueueDef → Type 0
IsNamed log def = is_some (find_queue log def.name) ≡ true

-- each queue of the log is found by its name
pub queues_named : (log : List Entry) → AllByRecursion (IsNamed log) (queues log)
queues_named log = among (queues log)
  where
    more : (d : QueueDef) (x : QueueDef) (defs : List QueueDef) → is_some (find (λ def. same_name def.name d.name) defs) ≡ true → is_some (find (λ def. same_name def.name d.name) (x ∷ defs)) ≡ true
    more d x defs e = by_test (same_name x.name d.name)
      where
        by_test : (b : Bool) → is_some (cond b (Some x) (find (λ def. same_name def.name d.name) defs)) ≡ true
        by_test true = refl
        by_test false = e

    first : (d : QueueDef) (defs : List QueueDef) → is_some (find (λ def. same_name def.name d.name) (d ∷ defs)) ≡ true
    first d defs = ap (λ b. is_some (cond b (Some d) (find (λ def. same_name def.name d.name) defs))) (names_self d.name)

    among : (defs : List QueueDef) → AllByRecursion (λ d. is_some (find (λ def. same_name def.name d.name) defs) ≡ true) defs
    among [] = tt
    among (d ∷ defs) = (first d defs, all_weaker (λ k. is_some (find (λ def. same_name def.name k.name) defs) ≡ true) (λ k. is_some (find (λ def. same_name def.name k.name) (d ∷ defs)) ≡ true) (λ k h. more k d defs h) defs (among defs))

pub offs_allowed : (log : List Entry) (defs : List QueueDef) → AllByRecursion (IsNamed log) defs → are_allowed_after log (map off_entry defs) ≡ true
offs_allowed log [] h = refl
offs_allowed log (d ∷ defs) h = both_true (is_some (find_queue log d.name)) (are_allowed_after (log ++ off_entry d ∷ []) (map off_entry defs)) h.0
    (offs_allowed (log ++ off_entry d ∷ []) defs (all_weaker (IsNamed log) (IsNamed (log ++ off_entry d ∷ [])) (λ k e. queue_more log (off_entry d ∷ []) k.name e) defs h.1))

pub offs_make_none : (defs : List QueueDef) → makings (map off_entry defs) ≡ []
offs_make_none [] = refl
offs_make_none (d ∷ defs) = offs_make_none defs
