-- The state of one instance, its opening, and what writing entries makes of it.
use Rattle.std.specs.Prelude.{min, Option, Some, None, option_and_then, option_map, ℕ, Bool, true, false, not, ◌==◌, ◌+◌, ◌^◌, ◌%◌, nat_lt, if◌then◌else◌, List, [], ◌∷◌, ◌++◌, max, map, filter, flat_map, length, sum_by, fold}
use Rattle.std.specs.Option.{option_map_or}
use Rattle.std.specs.List.{list_any, list_all}
use Rattle.sb_log.specs.declared.identifiers.Handle.{Handle}
use Rattle.sb_log.specs.declared.identifiers.Who.{Who}
use Rattle.sb_log.specs.declared.entries.Entry.{Entry}
use Rattle.sb_log.specs.declared.entries.Op.{Op}
use Rattle.sb_log.specs.declared.refusals.Refusal.{Refusal}
use Rattle.sb_log.specs.declared.steps.Answer.{Answer}
use Rattle.sb_model.specs.Sides.{Bytes, same_name, tag, tag_of, makings, ops_of}
use Rattle.sb_log.specs.declared.entries.Entry.TheVariants.{Txn, Accepted, Fired, Expired, QueueSet}
use Rattle.sb_log.specs.declared.entries.Op.TheVariants.{Took, Move}
use Rattle.sb_model.specs.Items.{queue_of}
use Rattle.sb_model.specs.Transactions.{OpenTransaction}
use Rattle.sb_model.specs.Frames.{Owed}
use Rattle.sb_model.specs.Sizes.{entry_size, record_size}
use Rattle.sb_log.specs.declared.refusals.Refusal.TheVariants as refusal
use Rattle.sb_log.specs.declared.steps.Answer.TheVariants as answer

-- what a disk does to the writes of a step
pub data Luck : Type 0 where
  Works : Luck
  Fails : Luck

-- how many rolled-back transactions received from a queue in a row
pub record Count : Type 0 where
  pub queue : Bytes
  pub number : ℕ

-- an instance
pub record Part : Type 0 where
  pub who : Who
  pub up : Bool
  -- the log that is certain, and the entries of a step whose write failed
  pub log : List Entry
  pub doubt : List Entry
  -- where its journal ends; the first form of an instance has no journal
  pub end : Option ℕ
  pub open_txns : List OpenTransaction
  pub next_handle : ℕ
  pub next_tx : ℕ
  pub last_reader : ℕ
  pub counts : List Count
  pub held : List Bytes
  pub owed : List Owed

abbrev pub low_half : ℕ → ℕ
low_half n = n % 2 ^ 64

abbrev pub groups_moved : Op → List Handle
groups_moved (Move side group) = group ∷ []
groups_moved _ = []

-- the handles and groups of a log; a conversation is the handle of its initiator
abbrev pub ids : List Entry → List Handle
ids log = flat_map (λ m. m.side.conversation ∷ m.handle ∷ m.group ∷ []) (makings log) ++ flat_map groups_moved (ops_of log)

abbrev pub own_low : Who → Handle → ℕ
own_low who id = if tag_of id == tag who then low_half id.0 else 0

abbrev pub after_last : ℕ → ℕ
after_last n = (n + 1) % 2 ^ 64

-- one more than the greatest low half with the instance's tag
abbrev pub next_handle_of : Who → List Entry → ℕ
next_handle_of who log = after_last (fold max 0 (map (own_low who) (ids log)))

abbrev pub tx_of : Entry → List ℕ
tx_of (Txn tx ops) = tx ∷ []
tx_of _ = []

abbrev pub next_tx_of : List Entry → ℕ
next_tx_of log = after_last (fold max 0 (flat_map tx_of log))

-- where a journal of these entries ends
abbrev pub end_of : List Entry → ℕ
end_of log = 16 + sum_by record_size log

abbrev pub opened : Who → List Entry → Option ℕ → Part
opened who log end = record {
  who = who;
  up = true;
  log = log;
  doubt = [];
  end = end;
  open_txns = [];
  next_handle = next_handle_of who log;
  next_tx = next_tx_of log;
  last_reader = 0;
  counts = [];
  held = [];
  owed = [];
}

-- down, with its transactions and readers gone
abbrev pub down_with : Part → List Entry → Part
down_with p doubt = record p { up = false; doubt = doubt; open_txns = []; owed = []; held = []; counts = [] }

abbrev pub turns_off : Entry → Bool
turns_off (QueueSet queue on) = not on
turns_off _ = false

abbrev pub limit_for : List Entry → ℕ
limit_for entries = if list_all turns_off entries then 67108864 else 62914560

-- a number that is shown stands still at 2^64 - 1
abbrev pub shown : ℕ → ℕ
shown n = min n 0xffffffffffffffff

abbrev pub too_big : Entry → Option Refusal
too_big e = if nat_lt 4194304 (entry_size e) then Some (refusal.TooBig (shown (entry_size e))) else None

abbrev pub too_full : List Entry → ℕ → Option Refusal
too_full entries end = if nat_lt (limit_for entries) end then Some (refusal.Full (shown end)) else None

abbrev pub first_some : {A : Type 0} → List (Option A) → Option A
first_some [] = None
first_some (None ∷ os) = first_some os
first_some (Some x ∷ os) = Some x

-- an entry is longer than its limit, else the journal's end would pass its limit
abbrev pub no_room_behind : List Entry → ℕ → Option Refusal
no_room_behind entries end = first_some (map too_big entries ++ too_full entries (end + sum_by record_size entries) ∷ [])

abbrev pub no_room : Part → List Entry → Option Refusal
no_room p entries = option_and_then (no_room_behind entries) p.end

-- without a journal no write can fail
abbrev pub luck_at : Option ℕ → Luck → Luck
luck_at None luck = Works
luck_at (Some end) luck = luck

abbrev pub has_name : List Bytes → Bytes → Bool
has_name names name = list_any (same_name name) names

abbrev pub without_name : List Bytes → Bytes → List Bytes
without_name names name = filter (λ n. not (same_name n name)) names

-- the queue whose hold the entry ends: it brings an item or turns the queue on
abbrev pub freed_by : List Entry → Entry → List Bytes
freed_by log (Accepted side number made content) = option_map_or (λ q. q ∷ []) (queue_of log side) []
freed_by log (Fired side) = option_map_or (λ q. q ∷ []) (queue_of log side) []
freed_by log (Expired side) = option_map_or (λ q. q ∷ []) (queue_of log side) []
freed_by log (QueueSet queue on) = if on then queue ∷ [] else []
freed_by log _ = []

abbrev pub turned_on_by : Entry → List Bytes
turned_on_by (QueueSet queue on) = if on then queue ∷ [] else []
turned_on_by _ = []

-- the queues that these operations receive from
abbrev pub queue_taken : Op → List Bytes
queue_taken (Took queue item) = queue ∷ []
queue_taken _ = []

abbrev pub ops_in : Entry → List Op
ops_in (Txn tx ops) = ops
ops_in _ = []

abbrev pub without_counts : List Count → List Bytes → List Count
without_counts counts names = filter (λ c. not (has_name names c.queue)) counts

-- the instance after its log grew by these entries
abbrev pub grown : Part → List Entry → Part
grown p entries = record p {
  log = p.log ++ entries;
  end = option_map (λ end. end + sum_by record_size entries) p.end;
  held = filter (λ q. not (has_name (flat_map (freed_by (p.log ++ entries)) entries) q)) p.held;
  counts = without_counts p.counts (flat_map turned_on_by entries ++ flat_map queue_taken (flat_map ops_in entries));
}

-- what a step made of an instance: its answer, the entries it added and the instance after it
pub record Done : Type 0 where
  pub answer : Answer
  pub added : List Entry
  pub part : Part

abbrev pub refused : Part → Refusal → Done
refused p r = record { answer = answer.Refused r None; added = []; part = p }

-- entries are written: refusals 29 to 31 of `before`, or the answer of `after`
abbrev pub written : Luck → Part → List Entry → Answer → Part → Done
written Works before entries told after = record { answer = told; added = entries; part = grown after entries }
written Fails before entries told after = record { answer = answer.Refused (refusal.DiskFailed before.who) None; added = []; part = down_with before entries }

abbrev pub append_to : Luck → Part → List Entry → Answer → Part → Option Refusal → Done
append_to luck before entries told after None = written (luck_at before.end luck) before entries told after
append_to luck before entries told after (Some r) = refused before r

-- where there are none, nothing can fail
abbrev pub append : Luck → Part → List Entry → Answer → Part → Done
append luck before [] told after = record { answer = told; added = []; part = after }
append luck before (e ∷ es) told after = append_to luck before (e ∷ es) told after (no_room before (e ∷ es))
