-- What a RECEIVE makes of an item, once its side's facts are known.
use Rattle.std.specs.Prelude.{Bool, false, not, ◌&&◌, if◌then◌else◌, slice_index_or, List, [], ◌∷◌}
use Rattle.sb_scan.specs.declared.item.SeenItem.{SeenItem}
use Rattle.sb_instance.specs.declared.facts.Facts.{Facts}
use Rattle.sb_instance.specs.declared.candidates.Candidate.{Candidate}

-- the item with what its side has
abbrev pub candidate_of : Facts → SeenItem → Candidate
candidate_of facts item = record { item = item; handle = facts.handle; group = facts.group; level = facts.level }

-- the item, where its side's items are admitted and no mark says that it was taken
abbrev pub untaken : List Bool → Facts → SeenItem → List Candidate
untaken marks facts item = if facts.is_admitted && not (slice_index_or marks item.number false) then candidate_of facts item ∷ [] else []
