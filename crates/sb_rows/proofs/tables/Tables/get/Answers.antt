use Rattle.std.proofs.Common.{ap, sym, ◌∙◌, w64}
use Rattle.std.proofs.lemmas.Int.{to_z-of_z}
use Rattle.sb_rows.specs.Keyed.{value_in}
use Rattle.sb_rows.specs.RowsAndLocks.{row_in}
use Rattle.sb_rows.proofs.Shown.{row_in-map}
use Rattle.sb_rows.proofs.tables.Tables.get.Goals as goal

pub returns : goal.returns
returns c =
    c.get.ensures
    ∙ ap (value_in c.self.inside.rows.entries c.args.table.now) (to_z-of_z w64 c.args.key c.ranges.key)
    ∙ sym (row_in-map c.self.inside.rows.entries c.args.table.now c.args.key)
    ∙ ap (λ s. row_in s.rows c.args.table.now c.args.key) c.self.view_is
