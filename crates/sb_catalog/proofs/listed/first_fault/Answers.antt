use Rattle.std.proofs.Common.{ap, sym, ◌∙◌, arith, take, map}
use Rattle.std.specs.Prelude.{is_none}
use Rattle.std.specs.List.{list_any}
use Rattle.sb_model.specs.Sides.{same_name}
use Rattle.sb_catalog.specs.Tables.{found}
use Rattle.sb_catalog.proofs.Listing.{listed_step, not_none}
use Rattle.sb_catalog.proofs.listed.first_fault.Goals as goal

pub loop-i-preserved : goal.loop-i-preserved
loop-i-preserved g c = λ refuse.
    let look = found g.D.Named.name_bytes c.args.table.now.defs in
    let seen = map g.T.Named.name_bytes (take c.loop-i.i c.args.items.now) in
    sym (listed_step look refuse g.T.Named.name_bytes c.args.items.now c.loop-i.i c.index-items-i.result (omega arith) c.index-items-i.is
    (ap (λ n. list_any (same_name n) seen) (sym c.name-name.ensures) ∙ sym c.is_listed.ensures ∙ c.if-is_listed.false)
    (ap (λ n. is_none (look n)) (sym c.name-name.ensures) ∙ not_none _ (sym c.has.ensures ∙ c.if-not-has.false)))
    ∙ c.loop-i.invariant refuse
