use Rattle.std.proofs.Common.{◌≡◌, ◌++◌, drop, map}
use Rattle.std.specs.Prelude.{filter_map}
use Rattle.sb_pick.specs.Inside.{seen}
use Rattle.sb_pick.specs.Offered.{offered}
use Rattle.sb_pick.proofs.candidates.candidates.Given as goal

abbrev pub invariant-loop-stored : goal.invariant-loop-stored
invariant-loop-stored l =
    l.found.items ++ filter_map (offered l.queue l.filter l.taken) (map (seen l.names) (drop l.stored-index l.waiting))
    ≡ filter_map (offered l.queue l.filter l.taken) (map (seen l.names) l.waiting)
