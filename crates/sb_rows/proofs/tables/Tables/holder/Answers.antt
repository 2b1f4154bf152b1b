use Rattle.std.proofs.Common.{ap, sym, ◌∙◌, w64}
use Rattle.std.proofs.lemmas.Int.{to_z-of_z}
use Rattle.sb_rows.specs.Keyed.{value_in}
use Rattle.sb_rows.specs.RowsAndLocks.{lock_in}
use Rattle.sb_rows.proofs.Shown.{lock_in-map}
use Rattle.sb_rows.proofs.tables.Tables.holder.Goals as goal

pub returns : goal.returns
returns c =
    c.copied.ensures
    ∙ c.get.ensures
    ∙ ap (value_in c.self.inside.locks.entries c.args.table.now) (to_z-of_z w64 c.args.key c.ranges.key)
    ∙ sym (lock_in-map c.self.inside.locks.entries c.args.table.now c.args.key)
    ∙ ap (λ s. lock_in s.locks c.args.table.now c.args.key) c.self.view_is
