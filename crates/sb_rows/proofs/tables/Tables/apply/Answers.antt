use Rattle.std.proofs.Common.{ap, sym, ◌∙◌, ◌&&◌, if◌then◌else◌, rules, w64, FitsSigned}
use Rattle.std.specs.Prelude.{Some, None}
use Rattle.std.proofs.lemmas.Int.{to_z-of_z}
use Rattle.sb_model.specs.Rows.{same_int, row_after}
use Rattle.sb_model.specs.Sides.{same_name}
use Rattle.sb_rows.specs.Keyed.{value_in}
use Rattle.sb_rows.specs.RowsAndLocks.{row_in}
use Rattle.sb_rows.proofs.Shown.{row_in-map}
use Rattle.sb_rows.proofs.tables.Tables.apply.Goals as goal

pub returns-in-Put-clause-rows : goal.returns-in-Put-clause-rows
returns-in-Put-clause-rows c = λ t k.
    let old = c.self.inside.rows.entries in
    let fits : FitsSigned w64 c.in-Put.key = search rules in
    row_in-map c.put.new.self.entries t k
    ∙ c.put.ensures.values t k
    ∙ ap (λ key. if same_name c.in-Put.table t && same_int key k then Some (record { n = c.in-Put.n; body = c.in-Put.body }) else value_in old t k) (to_z-of_z w64 c.in-Put.key fits)
    ∙ ap (row_after t k (value_in old t k)) (sym c.in-Put.is)
    ∙ ap (λ row. row_after t k row c.args.op) (sym (row_in-map old t k) ∙ ap (λ s. row_in s.rows t k) c.self.view_is)

pub returns-in-Delete-clause-rows : goal.returns-in-Delete-clause-rows
returns-in-Delete-clause-rows c = λ t k.
    let old = c.self.inside.rows.entries in
    let fits : FitsSigned w64 c.in-Delete.key = search rules in
    row_in-map c.remove.new.self.entries t k
    ∙ c.remove.ensures.values t k
    ∙ ap (λ key. if same_name c.in-Delete.table t && same_int key k then None else value_in old t k) (to_z-of_z w64 c.in-Delete.key fits)
    ∙ ap (row_after t k (value_in old t k)) (sym c.in-Delete.is)
    ∙ ap (λ row. row_after t k row c.args.op) (sym (row_in-map old t k) ∙ ap (λ s. row_in s.rows t k) c.self.view_is)
