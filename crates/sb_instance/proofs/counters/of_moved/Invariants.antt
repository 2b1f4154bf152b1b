use Rattle.std.proofs.Common.{◌≡◌, drop, max, map}
use Rattle.std.specs.Prelude.{flat_map, fold}
use Rattle.sb_model.specs.Instance.{groups_moved, own_low}
use Rattle.sb_instance.proofs.counters.of_moved.Given as goal

abbrev pub invariant-loop-op : goal.invariant-loop-op
invariant-loop-op l = fold max l.greatest (map (own_low l.who) (flat_map groups_moved (drop l.op-index l.ops))) ≡ fold max l.fn.most (map (own_low l.who) (flat_map groups_moved l.ops))
