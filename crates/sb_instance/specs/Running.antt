-- An instance that is up, has no journal and no open transaction, and what a step leaves of it.
use Rattle.std.specs.Prelude.{◌≡◌, ◌++◌, ◌∷◌, ℕ, true, List, [], None, Result, Ok, Err}
use Rattle.sb_log.specs.declared.identifiers.Who.{Who}
use Rattle.sb_log.specs.declared.entries.Entry.{Entry}
use Rattle.sb_log.specs.declared.steps.Answer.{Answer}
use Rattle.sb_log.specs.declared.entries.Op.{Op}
use Rattle.sb_log.specs.declared.refusals.Refusal.{Refusal}
use Rattle.sb_log.specs.declared.refusals.Refusal.TheVariants as refusal
use Rattle.sb_log.specs.declared.requests.Reply.{Reply}
use Rattle.sb_log.specs.declared.requests.Reply.TheVariants as reply
use Rattle.sb_model.specs.Instance.{Part, Done}
use Rattle.sb_model.specs.Statements.{drew_tx, txn_entries}
use Rattle.sb_instance.specs.declared.stopped.Stopped.{Stopped}
use Rattle.sb_instance.specs.declared.stopped.Stopped.TheVariants as stopped

abbrev pub running : Who → List Entry → ℕ → ℕ → Part
running who log next_handle next_tx = record {
  who = who;
  up = true;
  log = log;
  doubt = [];
  end = None;
  open_txns = [];
  next_handle = next_handle;
  next_tx = next_tx;
  last_reader = 0;
  counts = [];
  held = [];
  owed = [];
}

-- a step has this answer and leaves this instance
pub record IsDone (done : Done) (answer : Answer) (after : Part) : Type 0 where
  pub answered : done.answer ≡ answer
  pub left : done.part ≡ after

-- the instance after a transaction of these operations
abbrev pub committed : Part → List Op → Part
committed p ops = record (drew_tx p) { log = p.log ++ txn_entries p.next_tx ops }

-- a commit that may want memory
abbrev pub Commits : Part → List Op → Reply → Result Reply Refusal → Part → Type 0
Commits before ops told (Ok given) after = (given ≡ told) × (after ≡ committed before ops)
Commits before ops told (Err r) after = (r ≡ refusal.OutOfMemory) × (after ≡ before)

-- one more entry and no transaction, or want of memory
abbrev pub Writes : Part → Entry → Result Reply Refusal → Part → Type 0
Writes before e (Ok given) after = (given ≡ reply.Done) × (after ≡ record before { log = before.log ++ e ∷ [] })
Writes before e (Err r) after = (r ≡ refusal.OutOfMemory) × (after ≡ before)

-- a refused statement has drawn its number
abbrev pub Refuses : Part → Stopped → Refusal → Part → Type 0
Refuses before stopped.OutOfMemory r after = (r ≡ refusal.OutOfMemory) × (after ≡ before)
Refuses before (stopped.Refused said) r after = (r ≡ said) × (after ≡ drew_tx before)
