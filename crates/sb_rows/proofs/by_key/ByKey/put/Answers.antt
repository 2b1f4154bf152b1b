use Rattle.std.proofs.Common.{ap, sym, subst, map, ◌∙◌, w64, ◌&&◌, if◌then◌else◌}
use Rattle.std.specs.Prelude.{Some}
use Rattle.std.proofs.lemmas.Int.{to_z-of_z}
use Rattle.sb_model.specs.Rows.{same_int}
use Rattle.sb_model.specs.Sides.{same_name}
use Rattle.sb_rows.specs.ByNumber.{named, AreNumbered}
use Rattle.sb_rows.specs.Keyed.{value_in}
use Rattle.sb_rows.proofs.Lookups.{Changes, AreNumbered-changed, AreNumbered-with_name, named-with_name, value_in-changed}
use Rattle.sb_rows.proofs.Numbering.{number_is}
use Rattle.sb_rows.proofs.by_key.ByKey.put.Goals as goal

pub invariant_of-self : goal.invariant_of-self
invariant_of-self g c =
    let added = c.number_or_new-number in
    let old = c.self.inside.values.entries in
    let grown = subst (λ names. AreNumbered names old) (sym added.ensures.names) (AreNumbered-with_name c.self.inside.numbers.names c.args.table old c.self.invariant) in
    let new = c.insert.new.self.entries in
    let changes = subst (λ k. Changes (added.result, k) (Some c.args.value) old new) (to_z-of_z w64 c.args.key c.ranges.key) c.in-Ok.ensures.updates.0 in
    AreNumbered-changed added.new.self.names added.result c.args.key (Some c.args.value) old new
    (number_is added.new.self.names c.args.table added.result added.ensures.number) grown changes

pub returns-clause-values : goal.returns-clause-values
returns-clause-values g c = λ t k.
    let added = c.number_or_new-number in
    let names = added.new.self.names in
    let old = c.self.inside.values.entries in
    let new = c.insert.new.self.entries in
    let changes = subst (λ k. Changes (added.result, k) (Some c.args.value) old new) (to_z-of_z w64 c.args.key c.ranges.key) c.in-Ok.ensures.updates.0 in
    let grown = subst (λ names. AreNumbered names old) (sym added.ensures.names) (AreNumbered-with_name c.self.inside.numbers.names c.args.table old c.self.invariant) in
    let news = AreNumbered-changed names added.result c.args.key (Some c.args.value) old new
    (number_is names c.args.table added.result added.ensures.number) grown changes in
    let same = ap (λ names. map (named names) old) added.ensures.names ∙ named-with_name c.self.inside.numbers.names c.args.table old c.self.invariant in
    value_in-changed names added.result c.args.table c.args.key (Some c.args.value) old new added.ensures.number grown news changes t k
    ∙ ap (λ es. if same_name c.args.table t && same_int c.args.key k then Some c.args.value else value_in es t k) same
    ∙ ap (λ b. if same_name c.args.table t && same_int c.args.key k then Some c.args.value else value_in b.entries t k) c.self.view_is
