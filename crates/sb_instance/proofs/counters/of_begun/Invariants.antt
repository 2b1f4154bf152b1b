use Rattle.std.proofs.Common.{◌≡◌, drop, max, map}
use Rattle.std.specs.Prelude.{flat_map, fold}
use Rattle.sb_model.specs.Sides.{made_by_op}
use Rattle.sb_model.specs.Instance.{own_low}
use Rattle.sb_instance.specs.Counters.{ids_made}
use Rattle.sb_instance.proofs.counters.of_begun.Given as goal

abbrev pub invariant-loop-op : goal.invariant-loop-op
invariant-loop-op l = fold max l.greatest (map (own_low l.who) (flat_map ids_made (flat_map made_by_op (drop l.op-index l.ops)))) ≡ fold max l.fn.most (map (own_low l.who) (flat_map ids_made (flat_map made_by_op l.ops)))
