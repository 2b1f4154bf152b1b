use Rattle.std.proofs.Common.{ℤ, List, ◌++◌, ap, ◌∙◌, rules, tests}
use Rattle.std.specs.Prelude.{is_none}
use Rattle.sb_proc.specs.declared.variables.Variable.{Variable}
use Rattle.sb_proc.specs.Scopes.{Scope, find_variable}
use Rattle.sb_proc.specs.Turns.{with_new}
use Rattle.sb_proc.proofs.Kept.{kept_by}
use Rattle.sb_proc.proofs.variables.Variables.declare_all.Goals as goal

abbrev scope_of_parts : List Variable → ℤ → Scope
scope_of_parts vs rows = record { variables = vs; rows = rows }

pub returns : goal.returns
returns c =
    let kept = kept_by _ (λ x. is_none (find_variable x.name c.args.new.items)) _ (λ x b g h. search (rules, tests)) _ _ c.retain.ensures.filtered in
    ap (λ vs. scope_of_parts vs c.self.inside.rows) (c.in_ok-append.ensures.items ∙ ap (λ old. old ++ c.args.new.items) kept)
    ∙ ap (λ (s : Scope). with_new s c.args.new.items) c.self.view_is
