use Rattle.std.proofs.Common.{◌≡◌, drop, max}
use Rattle.std.specs.Prelude.{flat_map, fold}
use Rattle.sb_model.specs.Instance.{tx_of}
use Rattle.sb_instance.proofs.counters.next_tx.Given as goal

abbrev pub invariant-loop-entry : goal.invariant-loop-entry
invariant-loop-entry l = fold max l.greatest (flat_map tx_of (drop l.entry-index l.log)) ≡ fold max 0 (flat_map tx_of l.log)
