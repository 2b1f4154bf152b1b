-- No plan, definition or full journal answers that a disk failed, and no plan replies that it waits or rolled back.
use Rattle.std.proofs.Common.{◌≡◌, ℕ, Bool, true, false, List, [], ◌∷◌, ◌++◌, ◌+◌, Option, Some, None, Ok, Err, refl, cond, map}
use Rattle.std.specs.Prelude.{ℤ, ◌+ℤ◌, ◌-ℤ◌, ⊤, not, ◌&&◌, ◌||◌, option_map, option_and_then, unwrap_or, nat_lt, nat_le, nat_abs, is_some, is_none, length, find, sum_by}
use Rattle.std.specs.List.{list_any, AllByRecursion}
use Rattle.sb_log.specs.declared.identifiers.Handle.{Handle}
use Rattle.sb_log.specs.declared.identifiers.SideId.{SideId}
use Rattle.sb_log.specs.declared.definitions.Ddl.{Ddl}
use Rattle.sb_log.specs.declared.definitions.Ddl.TheVariants as ddl
use Rattle.sb_log.specs.declared.definitions.Activation.{Activation}
use Rattle.sb_log.specs.declared.entries.Entry.{Entry}
use Rattle.sb_log.specs.declared.entries.Final.{Final}
use Rattle.sb_log.specs.declared.entries.Final.TheVariants as final
use Rattle.sb_log.specs.declared.refusals.Refusal.{Refusal}
use Rattle.sb_log.specs.declared.refusals.Refusal.TheVariants as refusal
use Rattle.sb_log.specs.declared.requests.Filter.{Filter}
use Rattle.sb_log.specs.declared.requests.Filter.TheVariants as filters
use Rattle.sb_log.specs.declared.requests.How.TheVariants as how
use Rattle.sb_log.specs.declared.requests.NumberChange.{NumberChange}
use Rattle.sb_log.specs.declared.requests.NumberChange.TheVariants as change
use Rattle.sb_log.specs.declared.requests.Relation.{Relation}
use Rattle.sb_log.specs.declared.requests.Relation.TheVariants as relation
use Rattle.sb_log.specs.declared.requests.Reply.{Reply}
use Rattle.sb_log.specs.declared.requests.Reply.TheVariants as reply
use Rattle.sb_model.specs.Poison.{rolled_back_by}
use Rattle.sb_log.specs.declared.requests.Request.{Request}
use Rattle.sb_log.specs.declared.requests.Request.TheVariants as request
use Rattle.sb_log.specs.declared.requests.Row.{Row}
use Rattle.sb_log.specs.declared.steps.Answer.TheVariants as answer
use Rattle.sb_log.specs.Names.{is_name, character_count}
use Rattle.sb_model.specs.Sides.{Bytes, same_name}
use Rattle.sb_model.specs.Acceptance.{has_body}
use Rattle.sb_model.specs.Catalog.{is_on, find_queue, find_service, find_message_type, default_name, find_table, sender_of, may_be_sent_by, find_contract, find_procedure, routes, priorities, definitions}
use Rattle.sb_model.specs.Definitions.{define_refusal, own_refusal, first_refusal, listed, missing, missing_if_named, bad_text, bad_readers, procedure_named, from_initiator, is_system_type}
use Rattle.sb_model.specs.Groups.{group_exists}
use Rattle.sb_model.specs.Histories.{is_waiting}
use Rattle.sb_model.specs.Instance.{Part, no_room, no_room_behind, first_some, too_big, too_full}
use Rattle.sb_model.specs.Sizes.{record_size}
use Rattle.sb_laws.proofs.Grow.{all_append}
use Rattle.sb_model.specs.Pick.{Pick, pick}
use Rattle.sb_model.specs.Rows.{rows_of}
use Rattle.sb_model.specs.States.{state_of, may_send, may_end}
use Rattle.sb_model.specs.Transactions.{holder, key_holder}
use Rattle.sb_model.specs.Refusals.{need, refuse_if, unless_refused, and_then, when, or_else}
use Rattle.sb_model.specs.Replies.{Ask, Planned, in_range, seen, live, own_group, drawn_handle, plan, related, begin_in, send_typed, received, grouped, with_row, insert_at, update_at, delete_at, read_at, changed, fitting, is_bigint, key, end_with, contract_of, body_length, with_optional_number, with_relation, with_filter, with_open_queue}

abbrev pub is_disk : Refusal → Bool
is_disk (refusal.DiskFailed x) = true
is_disk _ = false

-- a reply that neither waits nor rolls back
abbrev pub is_plain : Reply → Bool
is_plain (reply.Waiting on) = false
is_plain (reply.RolledBack tx off) = false
is_plain _ = true

abbrev pub Sound : Planned → Type 0
Sound (Err r) = is_disk r ≡ false
Sound (Ok p) = is_plain p.reply ≡ true

pub plain_never_waits : (r : Reply) → is_plain r ≡ true → is_waiting (answer.Replied r) ≡ false
plain_never_waits (reply.Waiting on) e = cc
plain_never_waits (reply.RolledBack tx off) e = cc
plain_never_waits r e = refl

pub plain_never_undoes : (r : Reply) → is_plain r ≡ true → rolled_back_by (answer.Replied r) ≡ None
plain_never_undoes (reply.Waiting on) e = cc
plain_never_undoes (reply.RolledBack tx off) e = cc
plain_never_undoes r e = refl

-- ---- chains

past_need : {A : Type 0} (o : Option A) (r : Refusal) (rest : A → Planned) → is_disk r ≡ false → ((x : A) → Sound (rest x)) → Sound (need o r rest)
past_need None r rest e f = e
past_need (Some x) r rest e f = f x

past_test : (b : Bool) (r : Refusal) (rest : Planned) → is_disk r ≡ false → Sound rest → Sound (refuse_if b r rest)
past_test true r rest e f = e
past_test false r rest e f = f

past_group : (o : Option ℕ) (rest : Planned) → Sound rest → Sound (unless_refused (option_map refusal.GroupHeld o) rest)
past_group None rest f = f
past_group (Some k) rest f = refl

past_row : (o : Option ℕ) (rest : Planned) → Sound rest → Sound (unless_refused (option_map refusal.RowHeld o) rest)
past_row None rest f = f
past_row (Some k) rest f = refl

past_number : (z : Option ℤ) (rest : Planned) → Sound rest → Sound (with_optional_number z rest)
past_number None rest h = h
past_number (Some z) rest h = past_test _ _ rest refl h

past_relation : (a : Ask) (r : Relation) (rest : Planned) → Sound rest → Sound (with_relation a r rest)
past_relation a relation.Alone rest h = h
past_relation a (relation.Group g) rest h = h
past_relation a (relation.Conversation handle) rest h = past_need (live a handle) _ (λ s. rest) refl (λ s. h)

past_filter : (a : Ask) (f : Filter) (rest : Planned) → Sound rest → Sound (with_filter a f rest)
past_filter a filters.All rest h = h
past_filter a (filters.Group g) rest h = h
past_filter a (filters.Side handle) rest h = past_need (live a handle) _ (λ s. rest) refl (λ s. h)

-- ---- the table of requests

module _ (a : Ask) where
  past_queue : (q : Bytes) (rest : Planned) → Sound rest → Sound (with_open_queue a q rest)
  past_queue q rest h = by_queue (find_queue (seen a) q)
    where
      by_off : (b : Bool) → Sound (unless_refused (when b (refusal.QueueOff q)) rest)
      by_off true = refl
      by_off false = h

      by_queue : (o : Option _) → Sound (unless_refused (option_and_then (λ def. when (not (is_on (seen a) def)) (refusal.QueueOff q)) o) rest)
      by_queue None = h
      by_queue (Some def) = by_off (not (is_on (seen a) def))

  begin_sound : (from to : Bytes) (instance : Option Handle) (contract : Bytes) (lifetime : Option ℤ) (o : Option Handle) → Sound (begin_in a from to instance contract lifetime o)
  begin_sound from to instance contract lifetime (Some g) = past_group (holder a.open_txns g a.tx) _ refl
  begin_sound from to instance contract lifetime None = past_group (holder a.open_txns (drawn_handle a 1) a.tx) _ refl

  received_sound : (q : Bytes) (o : Option Pick) → Sound (received a q o)
  received_sound q None = refl
  received_sound q (Some p) = refl

  grouped_sound : (o : Option Pick) → Sound (grouped o)
  grouped_sound None = refl
  grouped_sound (Some p) = refl

  end_sound : (handle : Handle) (last : Final) → Sound (end_with a handle last)
  end_sound handle last = past_need (live a handle) _ _ refl (λ s. past_group (holder a.open_txns (own_group a s) a.tx) _ (past_test (not (may_end (state_of (seen a) s))) _ _ refl refl))

  row_sound : (t : Bytes) (k : ℤ) (rest : Option Row → Planned) → ((o : Option Row) → Sound (rest o)) → Sound (with_row a t k rest)
  row_sound t k rest f = past_need (find_table (seen a) t) _ _ refl (λ def. past_row (key_holder a.open_txns (key t k) a.tx) _ (f (rows_of (seen a) t k)))

  insert_sound : (t : Bytes) (k : ℤ) (n : Option ℤ) (body : Option Bytes) (o : Option Row) → Sound (insert_at t k n body o)
  insert_sound t k n body None = refl
  insert_sound t k n body (Some found) = refl

  fitting_sound : (left z : ℤ) (rest : Option ℤ → Planned) → ((v : Option ℤ) → Sound (rest v)) → Sound (and_then (fitting left z) rest)
  fitting_sound left z rest f = by_test (is_bigint z)
    where
      by_test : (b : Bool) → Sound (and_then (cond b (Ok (Some z)) (Err (refusal.Overflow left))) rest)
      by_test true = f (Some z)
      by_test false = refl

  changed_sound : (n : Option ℤ) (c : Option NumberChange) (rest : Option ℤ → Planned) → ((v : Option ℤ) → Sound (rest v)) → Sound (and_then (changed n c) rest)
  changed_sound n None rest f = f n
  changed_sound n (Some (change.To value)) rest f = f value
  changed_sound None (Some (change.Add by)) rest f = f None
  changed_sound None (Some (change.Subtract by)) rest f = f None
  changed_sound (Some n) (Some (change.Add by)) rest f = fitting_sound n (n +ℤ by) rest f
  changed_sound (Some n) (Some (change.Subtract by)) rest f = fitting_sound n (n -ℤ by) rest f

  update_sound : (t : Bytes) (k : ℤ) (n : Option NumberChange) (body : Option (Option Bytes)) (o : Option Row) → Sound (update_at t k n body o)
  update_sound t k n body None = refl
  update_sound t k n body (Some found) = changed_sound found.n n _ (λ v. refl)

  delete_sound : (t : Bytes) (k : ℤ) (o : Option Row) → Sound (delete_at t k o)
  delete_sound t k None = refl
  delete_sound t k (Some found) = refl

  read_sound : (t : Bytes) (k : ℤ) (o : Option Row) → Sound (read_at t k o)
  read_sound t k None = refl
  read_sound t k (Some found) = refl

  send_sound : (s : SideId) (kind : Bytes) (empty : Bool) (body : Option Bytes) → Sound (send_typed a s kind empty body)
  send_sound s kind empty body =
      past_need (option_and_then (λ def. sender_of def kind) (find_contract (seen a) (contract_of a s))) _ _ refl (λ by.
      past_test (not (may_be_sent_by by s.initiator)) _ _ refl (past_test (empty && has_body body) _ _ refl (past_test (nat_lt 65536 (body_length body)) _ _ refl refl)))

  pub plan_sound : (req : Request) → Sound (plan a req)
  plan_sound (request.BeginDialog from to instance contract rel lifetime) =
      past_need (find_service (seen a) from) _ _ refl (λ service. past_need (find_contract (seen a) (unwrap_or contract default_name)) _ _ refl (λ def.
      past_test (not (is_name to)) _ _ refl (past_number lifetime _ (past_relation a rel _ (begin_sound from to instance def.name lifetime (related a rel))))))
  plan_sound (request.Send handle kind body) =
      past_need (find_message_type (seen a) (unwrap_or kind default_name)) _ _ refl (λ def. past_need (live a handle) _ _ refl (λ s.
      past_group (holder a.open_txns (own_group a s) a.tx) _ (past_test (not (may_send (state_of (seen a) s))) _ _ refl (send_sound s (unwrap_or kind default_name) def.empty body))))
  plan_sound (request.Receive q n f) =
      past_need (find_queue (seen a) q) _ _ refl (λ def. past_number n _ (past_filter a f _ (past_queue q _ (received_sound q (pick a.log a.open_txns a.tx q (option_map nat_abs n) f)))))
  plan_sound (request.GetGroup q) = past_need (find_queue (seen a) q) _ _ refl (λ def. past_queue q _ (grouped_sound (pick a.log a.open_txns a.tx q None filters.All)))
  plan_sound (request.Move handle g) =
      past_need (live a handle) _ _ refl (λ s. past_test (not (group_exists (seen a) g)) _ _ refl (past_group (holder a.open_txns (own_group a s) a.tx) _ (past_group (holder a.open_txns g a.tx) _
      (past_test (not (may_end (state_of (seen a) s))) _ _ refl refl))))
  plan_sound (request.End handle how.Plain) = end_sound handle final.EndDialog
  plan_sound (request.End handle (how.Error code text)) =
      past_test (not (in_range code 1 2147483647)) _ _ refl (past_test (nat_lt 3000 (character_count text)) _ _ refl (end_sound handle (final.Error (nat_abs code) text)))
  plan_sound (request.End handle how.Cleanup) = past_need (live a handle) _ _ refl (λ s. past_group (holder a.open_txns (own_group a s) a.tx) _ refl)
  plan_sound (request.Timer handle seconds) =
      past_test (not (in_range seconds 1 2147483647)) _ _ refl (past_need (live a handle) _ _ refl (λ s. past_group (holder a.open_txns (own_group a s) a.tx) _ (past_test (not (may_end (state_of (seen a) s))) _ _ refl refl)))
  plan_sound (request.Insert t k n body) = row_sound t k (insert_at t k n body) (insert_sound t k n body)
  plan_sound (request.Update t k n body) = row_sound t k (update_at t k n body) (update_sound t k n body)
  plan_sound (request.Delete t k) = row_sound t k (delete_at t k) (delete_sound t k)
  plan_sound (request.Read t k) = row_sound t k (read_at t k) (read_sound t k)
  plan_sound (request.Define d) = refl
  plan_sound (request.AlterQueue q on) = refl
  plan_sound request.Begin = refl
  plan_sound request.Commit = refl
  plan_sound request.Rollback = refl

-- ---- definitions

abbrev pub NoDisk : Option Refusal → Type 0
NoDisk None = ⊤
NoDisk (Some r) = is_disk r ≡ false

pub or_else_sound : (a b : Option Refusal) → NoDisk a → NoDisk b → NoDisk (or_else a b)
or_else_sound None b h k = k
or_else_sound (Some r) b h k = h

when_sound : (t : Bool) (r : Refusal) → is_disk r ≡ false → NoDisk (when t r)
when_sound true r e = e
when_sound false r e = tt

first_sound : (rs : List (Option Refusal)) → AllByRecursion NoDisk rs → NoDisk (first_refusal rs)
first_sound [] h = tt
first_sound (r ∷ rs) h = or_else_sound r (first_refusal rs) h.0 (first_sound rs h.1)

listed_sound : {A : Type 0} (look : Bytes → Option A) (refuse : Bytes → Refusal) (had names : List Bytes) → ((n : Bytes) → is_disk (refuse n) ≡ false) → NoDisk (listed look refuse had names)
listed_sound look refuse had [] f = tt
listed_sound look refuse had (name ∷ names) f =
    or_else_sound (when (list_any (same_name name) had) (refusal.NameTaken name)) _ (when_sound (list_any (same_name name) had) (refusal.NameTaken name) refl)
    (or_else_sound (missing look refuse name) (listed look refuse (name ∷ had) names) (when_sound (is_none (look name)) (refuse name) (f name)) (listed_sound look refuse (name ∷ had) names f))

named_sound : {A : Type 0} (look : Bytes → Option A) (refuse : Bytes → Refusal) (o : Option Bytes) → ((n : Bytes) → is_disk (refuse n) ≡ false) → NoDisk (missing_if_named look refuse o)
named_sound look refuse None f = tt
named_sound look refuse (Some name) f = when_sound (is_none (look name)) (refuse name) (f name)

text_sound : (o : Option Bytes) → NoDisk (bad_text o)
text_sound None = tt
text_sound (Some text) = when_sound (not (is_name text)) _ refl

readers_sound : (o : Option Activation) → NoDisk (bad_readers o)
readers_sound None = tt
readers_sound (Some a) = when_sound (not (in_range a.readers 0 32767)) _ refl

own_sound : (log : List Entry) (d : Ddl) → AllByRecursion NoDisk (own_refusal log d)
own_sound log (ddl.MessageType d) = (when_sound (is_some (find_message_type log d.name) || is_system_type d.name) _ refl, tt)
own_sound log (ddl.Contract d) = (when_sound (is_some (find_contract log d.name)) _ refl, (listed_sound (find_message_type log) refusal.NoMessageType [] (map (λ sent. sent.kind) d.types) (λ n. refl), (when_sound (not (from_initiator d)) _ refl, tt)))
own_sound log (ddl.Queue d) = (when_sound (is_some (find_queue log d.name)) _ refl, (named_sound (find_procedure log) refusal.NoProcedure (procedure_named d.activation) (λ n. refl), (readers_sound d.activation, tt)))
own_sound log (ddl.Service d) = (when_sound (is_some (find_service log d.name)) _ refl, (when_sound (is_none (find_queue log d.queue)) _ refl, (listed_sound (find_contract log) refusal.NoContract [] d.contracts (λ n. refl), tt)))
own_sound log (ddl.Route d) = (when_sound (is_some (find (λ r. same_name r.name d.name) (routes log))) _ refl, (text_sound d.service, tt))
own_sound log (ddl.Priority d) = (
  when_sound (is_some (find (λ r. same_name r.name d.name) (priorities log))) _ refl,
  (
    named_sound (find_contract log) refusal.NoContract d.contract (λ n. refl),
    (named_sound (find_service log) refusal.NoService d.local (λ n. refl), (text_sound d.remote, (when_sound (not (in_range d.level 1 10)) _ refl, tt))),
  ),
)
own_sound log (ddl.Table d) = (when_sound (is_some (find_table log d.name)) _ refl, tt)
own_sound log (ddl.Procedure d) = (when_sound (is_some (find_procedure log d.name)) _ refl, tt)

pub define_sound : (log : List Entry) (d : Ddl) → NoDisk (define_refusal log d)
define_sound log d = first_sound (own_refusal log d ++ when (nat_le 4096 (length (definitions log))) refusal.TooMany ∷ [])
    (all_append NoDisk (own_refusal log d) (when (nat_le 4096 (length (definitions log))) refusal.TooMany ∷ []) (own_sound log d) (when_sound (nat_le 4096 (length (definitions log))) refusal.TooMany refl, tt))

-- ---- a full journal

some_sound : (rs : List (Option Refusal)) → AllByRecursion NoDisk rs → NoDisk (first_some rs)
some_sound [] h = tt
some_sound (None ∷ rs) h = some_sound rs h.1
some_sound (Some r ∷ rs) h = h.0

if_sound : (t : Bool) (r : Refusal) → is_disk r ≡ false → NoDisk (cond t (Some r) None)
if_sound true r e = e
if_sound false r e = tt

pub room_sound : (p : Part) (es : List Entry) → NoDisk (no_room p es)
room_sound p es = by_end p.end
  where
    bigs : (ks : List Entry) (last : Option Refusal) → NoDisk last → AllByRecursion NoDisk (map too_big ks ++ last ∷ [])
    bigs [] last h = (h, tt)
    bigs (k ∷ ks) last h = (if_sound _ _ refl, bigs ks last h)

    by_end : (o : Option ℕ) → NoDisk (option_and_then (no_room_behind es) o)
    by_end None = tt
    by_end (Some end) = some_sound (map too_big es ++ too_full es (end + sum_by record_size es) ∷ []) (bigs es (too_full es (end + sum_by record_size es)) (if_sound _ _ refl))
