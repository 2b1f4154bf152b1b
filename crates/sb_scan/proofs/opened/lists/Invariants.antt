use Rattle.std.proofs.Common.{◌≡◌, drop}
use Rattle.std.specs.List.{list_any}
use Rattle.sb_model.specs.Sides.{same_id}
use Rattle.sb_scan.proofs.opened.lists.Given as goal

abbrev pub invariant-loop-listed : goal.invariant-loop-listed
invariant-loop-listed l = list_any (same_id l.group) (drop l.listed-index l.groups) ≡ list_any (same_id l.group) l.groups
