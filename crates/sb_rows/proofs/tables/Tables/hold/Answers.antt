use Rattle.std.proofs.Common.{ap, subst, ◌∙◌, w64}
use Rattle.std.proofs.lemmas.Int.{to_z-of_z}
use Rattle.sb_rows.specs.RowsAndLocks.{lock_in}
use Rattle.sb_rows.proofs.Shown.{Puts, lock_in-put, others_kept}
use Rattle.sb_rows.proofs.tables.Tables.hold.Goals as goal

pub returns-clause-held : goal.returns-clause-held
returns-clause-held c =
    let old = c.self.inside.locks.entries in
    let new = c.put.new.self.entries in
    let puts = subst (λ key. Puts c.args.table key c.args.tx old new) (to_z-of_z w64 c.args.key c.ranges.key) c.put.ensures.values in
    lock_in-put c.args.table c.args.key c.args.tx old new puts

pub returns-clause-others : goal.returns-clause-others
returns-clause-others c = λ t k other.
    let old = c.self.inside.locks.entries in
    let new = c.put.new.self.entries in
    let puts = subst (λ key. Puts c.args.table key c.args.tx old new) (to_z-of_z w64 c.args.key c.ranges.key) c.put.ensures.values in
    others_kept c.args.table c.args.key c.args.tx old new puts t k other
    ∙ ap (λ s. lock_in s.locks t k) c.self.view_is
