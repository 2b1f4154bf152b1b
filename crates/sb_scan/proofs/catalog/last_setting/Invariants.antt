use Rattle.std.proofs.Common.{◌≡◌, drop}
use Rattle.std.specs.Prelude.{flat_map, None}
use Rattle.std.specs.List.{last_or}
use Rattle.sb_model.specs.Catalog.{setting}
use Rattle.sb_scan.proofs.catalog.last_setting.Given as goal

abbrev pub invariant-loop-entry : goal.invariant-loop-entry
invariant-loop-entry l = last_or l.last (flat_map (setting l.queue) (drop l.entry-index l.log)) ≡ last_or None (flat_map (setting l.queue) l.log)
