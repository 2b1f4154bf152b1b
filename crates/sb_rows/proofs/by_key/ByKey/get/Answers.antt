use Rattle.std.proofs.Common.{ap, sym, ◌∙◌, w64}
use Rattle.std.specs.Prelude.{option_copied, Some}
use Rattle.std.proofs.lemmas.Int.{to_z-of_z}
use Rattle.sb_rows.specs.Keyed.{value_in}
use Rattle.sb_rows.proofs.Lookups.{numbered_value, value_in-named}
use Rattle.sb_rows.proofs.by_key.ByKey.get.Goals as goal

pub returns-in_err-number : goal.returns-in_err-number
returns-in_err-number g c =
    let es = c.self.inside.values.entries in
    ap option_copied c.from_residual.ensures
    ∙ ap (λ r. numbered_value r c.args.key es) (sym c.in_err-number.was ∙ c.number.ensures)
    ∙ sym (value_in-named c.self.inside.numbers.names es c.self.invariant c.args.table.now c.args.key)
    ∙ ap (λ b. value_in b.entries c.args.table.now c.args.key) c.self.view_is

pub returns : goal.returns
returns g c =
    let es = c.self.inside.values.entries in
    c.get.ensures.value
    ∙ ap (λ k. numbered_value (Some c.in_ok-number.number) k es) (to_z-of_z w64 c.args.key c.ranges.key)
    ∙ ap (λ r. numbered_value r c.args.key es) (sym c.in_ok-number.was ∙ c.number.ensures)
    ∙ sym (value_in-named c.self.inside.numbers.names es c.self.invariant c.args.table.now c.args.key)
    ∙ ap (λ b. value_in b.entries c.args.table.now c.args.key) c.self.view_is
