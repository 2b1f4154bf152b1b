use Rattle.std.proofs.Common.{ap, sym, subst, ◌∙◌, w64, ◌&&◌, if◌then◌else◌}
use Rattle.std.specs.Prelude.{None}
use Rattle.std.proofs.lemmas.Int.{to_z-of_z}
use Rattle.sb_model.specs.Rows.{same_int}
use Rattle.sb_model.specs.Sides.{same_name}
use Rattle.sb_rows.specs.Keyed.{value_in}
use Rattle.sb_rows.proofs.Lookups.{Changes, AreNumbered-changed, value_in-changed, value_in-absent}
use Rattle.sb_rows.proofs.Numbering.{number_is}
use Rattle.sb_rows.proofs.by_key.ByKey.remove.Goals as goal
use Rattle.sb_rows.proofs.by_key.ByKey.remove.Goals.{in-Some-1, in-None-1}

pub invariant_of-self : goal.invariant_of-self
invariant_of-self g c =
    let names = c.self.inside.numbers.names in
    let old = c.self.inside.values.entries in
    let new = c.swap_remove.new.self.entries in
    let changes = subst (λ k. Changes (c.in-Some.number, k) None old new) (to_z-of_z w64 c.args.key c.ranges.key) c.swap_remove.ensures.updates.0 in
    AreNumbered-changed names c.in-Some.number c.args.key None old new (number_is names c.args.table.now c.in-Some.number (sym c.number.ensures ∙ c.in-Some.is)) c.self.invariant changes

pub returns-in-Some-clause-values : goal.returns-in-Some-clause-values
returns-in-Some-clause-values g c = λ t k.
    let names = c.self.inside.numbers.names in
    let old = c.self.inside.values.entries in
    let new = c.swap_remove.new.self.entries in
    let changes = subst (λ k. Changes (c.in-Some.number, k) None old new) (to_z-of_z w64 c.args.key c.ranges.key) c.swap_remove.ensures.updates.0 in
    let at = sym c.number.ensures ∙ c.in-Some.is in
    let news = AreNumbered-changed names c.in-Some.number c.args.key None old new (number_is names c.args.table.now c.in-Some.number at) c.self.invariant changes in
    let changed = value_in-changed names c.in-Some.number c.args.table.now c.args.key None old new at c.self.invariant news changes t k
    ∙ ap (λ b. if same_name c.args.table.now t && same_int c.args.key k then None else value_in b.entries t k) c.self.view_is in
    elim c.match-swap_remove.branch [
      | in-Some-1 w ↦ ap (λ b. value_in b.entries t k) w.self-is ∙ changed
      | in-None-1 w ↦ ap (λ b. value_in b.entries t k) w.self-is ∙ changed
    ]

pub returns-in_default-clause-values : goal.returns-in_default-clause-values
returns-in_default-clause-values g c = λ t k.
    ap (λ b. value_in b.entries t k) (sym c.self.view_is)
    ∙ value_in-absent c.self.inside.numbers.names c.args.table.now c.args.key c.self.inside.values.entries (sym c.number.ensures ∙ c.in_default.is) c.self.invariant t k
    ∙ ap (λ b. if same_name c.args.table.now t && same_int c.args.key k then None else value_in b.entries t k) c.self.view_is
