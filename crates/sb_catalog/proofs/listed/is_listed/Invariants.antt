use Rattle.std.proofs.Common.{◌≡◌, drop, map}
use Rattle.std.specs.List.{list_any}
use Rattle.sb_model.specs.Sides.{same_name}
use Rattle.sb_catalog.proofs.listed.is_listed.Given as goal

abbrev pub invariant-loop-item : goal.invariant-loop-item
invariant-loop-item g l = list_any (same_name l.name) (map g.T.Named.name_bytes (drop l.item-index l.items)) ≡ list_any (same_name l.name) (map g.T.Named.name_bytes l.items)
