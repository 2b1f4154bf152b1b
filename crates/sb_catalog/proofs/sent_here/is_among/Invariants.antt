use Rattle.std.proofs.Common.{◌≡◌, drop}
use Rattle.std.specs.List.{list_any}
use Rattle.sb_model.specs.Sides.{same_name}
use Rattle.sb_catalog.proofs.sent_here.is_among.Given as goal

abbrev pub invariant-loop-listed : goal.invariant-loop-listed
invariant-loop-listed l = list_any (same_name l.name) (drop l.listed-index l.names) ≡ list_any (same_name l.name) l.names
