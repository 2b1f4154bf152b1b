use Rattle.std.proofs.Common.{◌≡◌, drop, ◌++◌, map}
use Rattle.std.specs.Prelude.{flat_map}
use Rattle.sb_model.specs.Sides.{sides}
use Rattle.sb_instance.specs.Handing.{pending_in}
use Rattle.sb_scan.specs.Seen.{making_of}
use Rattle.sb_instance.proofs.handing.all_pending.Given as goal

abbrev pub invariant-loop-made : goal.invariant-loop-made
invariant-loop-made l = l.found.items ++ flat_map (pending_in l.who l.log) (map making_of (drop l.made-index l.known)) ≡ flat_map (pending_in l.who l.log) (sides l.log)
