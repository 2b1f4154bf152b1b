-- When a history draws all its handles, so that the logs stay fresh by the number of steps.
use Rattle.std.specs.Prelude.{ℕ, Bool, true, ◌&&◌, nat_lt, List, flat_map, IsTrue}
use Rattle.std.specs.List.{list_all}
use Rattle.sb_log.specs.declared.identifiers.Handle.{Handle}
use Rattle.sb_log.specs.declared.entries.Entry.{Entry}
use Rattle.sb_log.specs.declared.requests.Relation.TheVariants as relation
use Rattle.sb_log.specs.declared.requests.Request.TheVariants as request
use Rattle.sb_log.specs.declared.steps.Event.{Event}
use Rattle.sb_log.specs.declared.steps.Event.TheVariants as event
use Rattle.sb_log.specs.declared.steps.Step.{Step}
use Rattle.sb_model.specs.Instance.{ids, low_half, tx_of}

abbrev pub is_low : ℕ → Handle → Bool
is_low bound id = nat_lt (low_half id.0) bound

-- each handle, group and transaction number of the log is below the bound
abbrev pub is_under : ℕ → List Entry → Bool
is_under bound log = list_all (is_low bound) (ids log) && list_all (λ tx. nat_lt tx bound) (flat_map tx_of log)

-- the one handle that an event can bring along is the related group of a new dialog: it is below the bound
abbrev pub spells_low : ℕ → Event → Bool
spells_low bound (event.Asked (request.BeginDialog from to instance contract (relation.Group g) lifetime)) = is_low bound g
spells_low bound _ = true

-- so it is at each step
abbrev pub SpellsLow : ℕ → List Step → Type 0
SpellsLow bound steps = IsTrue (list_all (λ s. spells_low bound s.event) steps)
