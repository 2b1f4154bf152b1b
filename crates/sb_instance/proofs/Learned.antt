-- A catalog learns what a log says, entry by entry.
use Rattle.std.proofs.Common.{◌≡◌, ℕ, ◌+◌, ◌<◌, ◌≤◌, Bool, true, false, List, [], ◌∷◌, ◌++◌, length, get_or, take, drop, refl, ap, sym, subst, ◌∙◌}
use Rattle.std.specs.Prelude.{◌&&◌, Option, Some, None, IsSome, IsTrue, find, is_none, is_some}
use Rattle.std.proofs.lemmas.List.{append-nil, at_drop_more, take_all, take_more}
use Rattle.sb_log.specs.declared.definitions.Ddl.{Ddl}
use Rattle.sb_log.specs.declared.definitions.Ddl.TheVariants.{MessageType, Contract, Queue, Service, Route, Priority, Table, Procedure}
use Rattle.sb_log.specs.declared.entries.Entry.{Entry}
use Rattle.sb_log.specs.declared.entries.Entry.TheVariants.{Defined, Txn, Accepted, Acked, Fired, Expired, QueueSet}
use Rattle.sb_log.specs.declared.entries.Op.{Op}
use Rattle.sb_model.specs.Sides.{Bytes, same_name}
use Rattle.sb_model.specs.Catalog.{auto_route, ddl_of, find_queue, setting}
use Rattle.sb_model.specs.Logs.{Allowed, WellFormed, are_allowed_after, is_allowed, is_ddl_allowed}
use Rattle.sb_model.specs.Statements.{txn_entries}
use Rattle.sb_catalog.specs.Kinds.{kind_of, name_of}
use Rattle.sb_catalog.specs.Known.{Known, defined, is_new, log_of, nothing, ready_for, told}
use Rattle.sb_catalog.specs.Of.{IsOf, as_told}
use Rattle.sb_catalog.specs.declared.kinds.Kind.{Kind}
use Rattle.sb_catalog.proofs.Growth.{definition_is_known, nothing_is_known, others_change_nothing, setting_is_told}
use Rattle.sb_catalog.proofs.Known as found
use Rattle.sb_instance.specs.Learning.{may_learn, with_entry}

both : (a b : Bool) → (a && b) ≡ true → (a ≡ true) × (b ≡ true)
both true b h = (refl, h)
both false b h = cc

-- ---- what is known of a log has the log's names

pub new_of_log : (log : List Entry) (k : Known) → IsOf log k → (ddl : Ddl) → is_new (log_of k) ddl ≡ is_new log ddl
new_of_log log k h (MessageType d) = ap is_none (found.type_of_log log k h d.name)
new_of_log log k h (Contract d) = ap is_none (found.contract_of_log log k h d.name)
new_of_log log k h (Queue d) = ap is_none (h.queues d.name) ∙ found.is_none_seen (as_told log) (find_queue log d.name)
new_of_log log k h (Service d) = ap is_none (found.service_of_log log k h d.name)
new_of_log log k h (Route d) = ap (λ rs. is_none (find (λ r. same_name r.name d.name) (auto_route ∷ rs))) (found.routes log k h)
new_of_log log k h (Priority d) = ap (λ rs. is_none (find (λ r. same_name r.name d.name) rs)) (found.priorities log k h)
new_of_log log k h (Table d) = ap is_none (found.table_of_log log k h d.name)
new_of_log log k h (Procedure d) = ap is_none (found.procedure_of_log log k h d.name)

queue_of_log : (log : List Entry) (k : Known) (q : Bytes) → IsOf log k → is_some (find_queue (log_of k) q) ≡ is_some (find_queue log q)
queue_of_log log k q h = ap is_some (h.queues q) ∙ found.is_some_seen (as_told log) (find_queue log q)

pub queue_known : (log : List Entry) (k : Known) (q : Bytes) → IsOf log k → IsSome (find_queue log q) → IsSome (find_queue (log_of k) q)
queue_known log k q h there = queue_of_log log k q h ∙ there

-- ---- room changes nothing that is known

pub room_made : (log : List Entry) (k : Known) (room : Option (Kind × Bytes)) → IsOf log k → IsOf log (ready_for k room)
room_made log k room h = record {
  message_types = h.message_types;
  contracts = h.contracts;
  queues = h.queues;
  queue_count = h.queue_count;
  services = h.services;
  routes = h.routes;
  priorities = h.priorities;
  tables = h.tables;
  procedures = h.procedures;
  untold = h.untold;
}

-- ---- one more entry

allowed_new : (log : List Entry) (ddl : Ddl) → is_ddl_allowed log ddl ≡ true → IsTrue (is_new log ddl)
allowed_new log (MessageType d) h = (both _ _ h).0
allowed_new log (Contract d) h = h
allowed_new log (Queue d) h = (both _ _ h).0
allowed_new log (Service d) h = (both _ _ h).0
allowed_new log (Route d) h = h
allowed_new log (Priority d) h = h
allowed_new log (Table d) h = h
allowed_new log (Procedure d) h = h

-- what the log allows may be learned
pub allowed_learns : (log : List Entry) (k : Known) (e : Entry) → IsOf log k → Allowed log e → IsTrue (may_learn k e)
allowed_learns log k (Defined ddl) h allowed = new_of_log log k h ddl ∙ allowed_new log ddl allowed
allowed_learns log k (QueueSet q on) h allowed = queue_known log k q h allowed
allowed_learns log k (Txn tx ops) h allowed = refl
allowed_learns log k (Accepted s number made content) h allowed = refl
allowed_learns log k (Acked s upto closed) h allowed = refl
allowed_learns log k (Fired s) h allowed = refl
allowed_learns log k (Expired s) h allowed = refl

pub learns : (log : List Entry) (k : Known) (e : Entry) → IsOf log k → IsTrue (may_learn k e) → IsOf (log ++ e ∷ []) (with_entry k e)
learns log k (Defined ddl) h new = definition_is_known log (ready_for k None) ddl (room_made log k None h) (sym (new_of_log log k h ddl) ∙ new)
learns log k (QueueSet q on) h there = setting_is_told log k q on h (sym (queue_of_log log k q h) ∙ there)
learns log k (Txn tx ops) h m = others_change_nothing log k (Txn tx ops) h refl (λ q. refl)
learns log k (Accepted s number made content) h m = others_change_nothing log k (Accepted s number made content) h refl (λ q. refl)
learns log k (Acked s upto closed) h m = others_change_nothing log k (Acked s upto closed) h refl (λ q. refl)
learns log k (Fired s) h m = others_change_nothing log k (Fired s) h refl (λ q. refl)
learns log k (Expired s) h m = others_change_nothing log k (Expired s) h refl (λ q. refl)

-- ---- a log, entry by entry

-- what is known of the entries so far, of which a well-formed log allows the rest behind them
pub record IsLearned (log : List Entry) (n : ℕ) (k : Known) : Type 0 where
  pub so : IsOf (take n log) k
  pub rest : WellFormed log → are_allowed_after (take n log) (drop n log) ≡ true

pub learned_first : (log : List Entry) (k : Known) → k ≡ nothing → IsLearned log 0 k
learned_first log k none = record { so = subst (IsOf []) (sym none) nothing_is_known; rest = λ formed. formed }

pub learned_last : (log : List Entry) (n : ℕ) (k : Known) → length log ≤ n → IsLearned log n k → IsOf log k
learned_last log n k long are = subst (λ l. IsOf l k) (take_all n log long) are.so

next_allowed : (log : List Entry) (i : ℕ) (x : Entry) → i < length log → x ≡ get_or log i x → are_allowed_after (take i log) (drop i log) ≡ true
    → (is_allowed (take i log) x ≡ true) × (are_allowed_after (take i log ++ x ∷ []) (drop (i + 1) log) ≡ true)
next_allowed log i x h at rest =
    both (is_allowed (take i log) x) (are_allowed_after (take i log ++ x ∷ []) (drop (i + 1) log))
    (ap (λ y. are_allowed_after (take i log) (y ∷ drop (i + 1) log)) at ∙ sym (at_drop_more (are_allowed_after (take i log)) log i x h) ∙ rest)

with_next : (log : List Entry) (i : ℕ) (x : Entry) → i < length log → x ≡ get_or log i x → take i log ++ x ∷ [] ≡ take (i + 1) log
with_next log i x h at = ap (λ y. take i log ++ y ∷ []) at ∙ sym (take_more log i x h)

-- an entry that can't be learned isn't allowed
pub bad_next : (log : List Entry) (i : ℕ) (x : Entry) (k : Known) → i < length log → x ≡ get_or log i x → IsLearned log i k → may_learn k x ≡ false → WellFormed log → ⊥
bad_next log i x k h at are cannot formed =
    let may : may_learn k x ≡ true = allowed_learns (take i log) k x are.so (next_allowed log i x h at (are.rest formed)).0 in
    cc

pub learns_next : (log : List Entry) (i : ℕ) (x : Entry) (k after : Known) → i < length log → x ≡ get_or log i x → IsLearned log i k → may_learn k x ≡ true → after ≡ with_entry k x → IsLearned log (i + 1) after
learns_next log i x k after h at are may taken =
    let more : take i log ++ x ∷ [] ≡ take (i + 1) log = with_next log i x h at in
    record {
      so = subst (λ l. IsOf l after) more (subst (IsOf (take i log ++ x ∷ [])) (sym taken) (learns (take i log) k x are.so may));
      rest = λ formed. ap (λ l. are_allowed_after l (drop (i + 1) log)) (sym more) ∙ (next_allowed log i x h at (are.rest formed)).1;
    }

-- ---- what the statements of an instance write

-- a definition that is written is taken up
pub definition_taken : (log later : List Entry) (k ready after : Known) (ddl copy : Ddl) (room : Option (Kind × Bytes)) → IsOf log k → IsTrue (is_new log ddl)
    → later ≡ log ++ Defined ddl ∷ [] → ready ≡ ready_for k room → copy ≡ ddl → after ≡ defined (ready_for ready None) copy → IsOf later after
definition_taken log later k ready after ddl copy room h new written made copied taken =
    subst (λ l. IsOf l after) (sym written)
    (subst (IsOf (log ++ Defined ddl ∷ [])) (sym (taken ∙ ap (λ r. defined (ready_for r None) copy) made ∙ ap (defined (ready_for k None)) copied))
    (definition_is_known log (ready_for k None) ddl (room_made log k None h) new))

pub new_with_room : (log : List Entry) (k ready : Known) (ddl copy : Ddl) (room : Option (Kind × Bytes)) → IsOf log k → IsTrue (is_new log ddl) → ready ≡ ready_for k room → copy ≡ ddl → IsTrue (is_new (log_of ready) copy)
new_with_room log k ready ddl copy room h new made copied =
    ap (λ r. is_new (log_of r) copy) made ∙ ap (is_new (log_of k)) copied ∙ new_of_log log k h ddl ∙ new

pub ready_with_room : (k ready : Known) (ddl copy : Ddl) → ready ≡ ready_for k (Some (kind_of ddl, name_of ddl)) → copy ≡ ddl → ready.ready ≡ Some (kind_of copy, name_of copy)
ready_with_room k ready ddl copy made copied = ap (λ r. r.ready) made ∙ ap (λ d. Some (kind_of d, name_of d)) (sym copied)

-- a setting that is written is told
pub setting_taken : (log later : List Entry) (k after : Known) (q : Bytes) (on : Bool) → IsOf log k → IsSome (find_queue log q) → later ≡ log ++ QueueSet q on ∷ [] → after ≡ told k q on → IsOf later after
setting_taken log later k after q on h there written taken =
    subst (λ l. IsOf l after) (sym written) (subst (IsOf (log ++ QueueSet q on ∷ [])) (sym taken) (setting_is_told log k q on h there))

-- a transaction leaves what is known as it is
pub transaction_taken : (log later : List Entry) (k : Known) (tx : ℕ) (ops : List Op) → IsOf log k → later ≡ log ++ txn_entries tx ops → IsOf later k
transaction_taken log later k tx ops h written = subst (λ l. IsOf l k) (sym written) (by ops)
  where
    by : (done : List Op) → IsOf (log ++ txn_entries tx done) k
    by [] = subst (λ l. IsOf l k) (sym (append-nil log)) h
    by (op ∷ done) = others_change_nothing log k (Txn tx (op ∷ done)) h refl (λ q. refl)

-- so does an entry that defines nothing and sets no queue
pub other_taken : (log later : List Entry) (k : Known) (e : Entry) → IsOf log k → ddl_of e ≡ [] → ((q : Bytes) → setting q e ≡ []) → later ≡ log ++ e ∷ [] → IsOf later k
other_taken log later k e h none unset written = subst (λ l. IsOf l k) (sym written) (others_change_nothing log k e h none unset)
