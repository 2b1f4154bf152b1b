-- Premises of a whole run: the logs stay fresh, and the counters don't come round.
use Rattle.std.specs.Prelude.{ℕ, ◌+◌, ◌^◌, ◌<◌, ◌++◌, take, List, [], ◌∷◌, IsTrue, ⊤}
use Rattle.sb_log.specs.declared.identifiers.Who.{Who}
use Rattle.sb_log.specs.declared.entries.Entry.{Entry}
use Rattle.sb_log.specs.declared.steps.Step.{Step}
use Rattle.sb_model.specs.Instance.{Part}
use Rattle.sb_model.specs.Steps.{World, part}
use Rattle.sb_model.specs.Logs.{is_fresh}
use Rattle.sb_model.specs.Histories.{next}

-- the counters of an instance have room for one more step
pub record HasRoom (p : Part) : Type 0 where
  pub handles : p.next_handle + 2 < 2 ^ 64
  pub txs : p.next_tx + 1 < 2 ^ 64

-- what survives of an instance: its log and the first entries of its doubt
abbrev pub survivor : Part → ℕ → List Entry
survivor p k = p.log ++ take k p.doubt

-- a state in which the counters have room and whatever survives is fresh
pub record IsRoomy (w : World) : Type 0 where
  pub room : (x : Who) → HasRoom (part w x)
  pub fresh : (x : Who) (k : ℕ) → IsTrue (is_fresh (survivor (part w x) k))

-- whatever survives is fresh
abbrev pub IsFreshWorld : World → Type 0
IsFreshWorld w = (x : Who) (k : ℕ) → IsTrue (is_fresh (survivor (part w x) k))

-- so it is in each state of a run before its last
abbrev pub StaysFresh : World → List Step → Type 0
StaysFresh w [] = ⊤
StaysFresh w (s ∷ steps) = IsFreshWorld w × StaysFresh (next w s) steps
