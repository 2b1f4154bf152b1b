use Rattle.std.proofs.Common.{rules, ap, sym, subst, map, ◌∙◌, not, ◌==◌}
use Rattle.indexmap.proofs.CallerLemmas.{filter-RetainsPairs}
use Rattle.sb_rows.specs.ByNumber.{named, AreNumbered}
use Rattle.sb_rows.specs.Keyed.{value_in}
use Rattle.sb_rows.specs.RowsAndLocks.{other_holder}
use Rattle.sb_rows.proofs.Lookups.{AreNumbered-filter, value_in-filter}
use Rattle.sb_rows.proofs.by_key.ByKey+u64.let_go.Goals as goal

pub invariant_of-self : goal.invariant_of-self
invariant_of-self c =
    let names = c.self.inside.numbers.names in
    let old = c.self.inside.values.entries in
    let left = filter-RetainsPairs _ (λ e. not (e.1 == c.args.tx)) _ (λ k v b w g call. search rules) _ _ c.retain.ensures.filtered in
    subst (AreNumbered names) (sym left) (AreNumbered-filter c.args.tx old c.len-len.ensures.unique names c.self.invariant)

pub returns-clause-values : goal.returns-clause-values
returns-clause-values c = λ t k.
    let names = c.self.inside.numbers.names in
    let old = c.self.inside.values.entries in
    let left = filter-RetainsPairs _ (λ e. not (e.1 == c.args.tx)) _ (λ k v b w g call. search rules) _ _ c.retain.ensures.filtered in
    ap (λ es. value_in (map (named names) es) t k) left
    ∙ value_in-filter c.args.tx old c.len-len.ensures.unique names c.self.invariant t k
    ∙ ap (λ b. other_holder c.args.tx (value_in b.entries t k)) c.self.view_is
