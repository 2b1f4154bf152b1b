use Rattle.std.proofs.Common.{◌≡◌, [], drop, take, map}
use Rattle.sb_log.specs.declared.refusals.Refusal.{Refusal}
use Rattle.sb_model.specs.Sides.{Bytes}
use Rattle.sb_model.specs.Definitions.{listed}
use Rattle.sb_catalog.specs.Tables.{found}
use Rattle.sb_catalog.proofs.listed.first_fault.Given as goal

abbrev pub invariant-loop-i : goal.invariant-loop-i
invariant-loop-i g l = (refuse : Bytes → Refusal)
    → listed (found g.D.Named.name_bytes l.table.defs) refuse (map g.T.Named.name_bytes (take l.i l.items)) (map g.T.Named.name_bytes (drop l.i l.items))
    ≡ listed (found g.D.Named.name_bytes l.table.defs) refuse [] (map g.T.Named.name_bytes l.items)
