use Rattle.std.proofs.Common.{◌≡◌, drop, ◌++◌, max, map}
use Rattle.std.specs.Prelude.{flat_map, fold}
use Rattle.sb_model.specs.Sides.{makings, ops_of}
use Rattle.sb_model.specs.Instance.{groups_moved, own_low}
use Rattle.sb_instance.specs.Counters.{ids_made}
use Rattle.sb_instance.proofs.counters.next_handle.Given as goal

abbrev pub invariant-loop-entry : goal.invariant-loop-entry
invariant-loop-entry l = fold max l.greatest (map (own_low l.who) (flat_map groups_moved (ops_of (drop l.entry-index l.log)))) ≡ fold max 0 (map (own_low l.who) (flat_map ids_made (makings l.log) ++ flat_map groups_moved (ops_of l.log)))
