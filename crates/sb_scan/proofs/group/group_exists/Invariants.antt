use Rattle.std.proofs.Common.{◌≡◌, drop, map}
use Rattle.std.specs.List.{list_any}
use Rattle.sb_model.specs.Groups.{group_exists, keeps_group}
use Rattle.sb_scan.specs.Seen.{making_of}
use Rattle.sb_scan.proofs.group.group_exists.Given as goal

abbrev pub invariant-loop-made : goal.invariant-loop-made
invariant-loop-made l = list_any (keeps_group l.log l.group) (map making_of (drop l.made-index l.known)) ≡ group_exists l.log l.group
