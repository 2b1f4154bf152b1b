-- What a transaction's fields say.
use Rattle.std.specs.Prelude.{◌≡◌, ◌==◌, ◌-◌, List, min, vec_capacity, vec_len}
use Rattle.std.specs.List.{list_any}
use Rattle.indexmap.specs.IndexSet as set
use Rattle.sb_log.specs.declared.identifiers.Handle.{Handle}
use Rattle.sb_groups.specs.Holds.{Hold}
use Rattle.sb_txn.specs.Guards.{names}
use Rattle.sb_txn.specs.Open.{Open}
use Rattle.sb_txn.specs.declared.txn.Txn.TheInside.{Inside}

abbrev pub opened : Inside → Open
opened t = record {
  number = t.number;
  ops = t.ops.items;
  guards = t.guards.items;
  spare = min (vec_capacity t.ops - vec_len t.ops) (min (vec_capacity t.guards - vec_len t.guards) (set.spare t.groups));
}

-- the groups are those that the guards name
abbrev pub AreGroupsOf : List Handle → List Hold → Type 0
AreGroupsOf groups guards = (group : Handle) → list_any (λ g. group.0 == g.0) groups ≡ names guards group

abbrev pub IsSound : Inside → Type 0
IsSound t = AreGroupsOf t.groups.keys t.guards.items
