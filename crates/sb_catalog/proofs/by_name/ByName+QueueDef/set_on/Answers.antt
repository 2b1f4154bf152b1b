use Rattle.std.proofs.Common.{sym, ap, subst, ◌∙◌}
use Rattle.std.specs.Prelude.{string_bytes}
use Rattle.std.specs.Map.{values_of}
use Rattle.sb_catalog.specs.Tables.{StandByName}
use Rattle.sb_catalog.specs.Known.{with_on}
use Rattle.sb_catalog.proofs.Entries.{stand-set, values-set, values-unset}
use Rattle.sb_catalog.proofs.by_name.ByName+QueueDef.set_on.Goals as goal
use Rattle.sb_catalog.proofs.by_name.ByName+QueueDef.set_on.Goals.{in-Some, in_default}

pub invariant_of-self : goal.invariant_of-self
invariant_of-self c =
    let m = c.self.inside.defs in
    elim c.match-get_mut.branch [
      | in-Some w ↦
          let v = w.in-Some.def.now in
          let written = ap (λ t. t.defs.entries) w.self-inside-is ∙ (c.get_mut.follows.holds (record v { on = c.args.on })).0 in
          subst (λ es. StandByName string_bytes (λ d. d.name) es) (sym written) (stand-set string_bytes c.as_str.result.now c.args.on m.entries v c.self.invariant w.in-Some.ensures.value)
      | in_default w ↦
          let kept = ap (λ t. t.defs.entries) w.self-inside-is ∙ ap (λ n. n.entries) c.get_mut.follows.holds-at-none in
          subst (λ es. StandByName string_bytes (λ d. d.name) es) (sym kept) c.self.invariant
    ]

pub returns-clause-defs : goal.returns-clause-defs
returns-clause-defs c =
    let m = c.self.inside.defs in
    let name_is = ap (λ q. with_on q c.args.on (values_of m.entries)) c.as_str.ensures ∙ ap (λ t. with_on c.args.name.now c.args.on t.defs) c.self.view_is in
    elim c.match-get_mut.branch [
      | in-Some w ↦
          let v = w.in-Some.def.now in
          let written = ap (λ t. t.defs.entries) w.self-inside-is ∙ (c.get_mut.follows.holds (record v { on = c.args.on })).0 in
          ap values_of written ∙ values-set string_bytes c.as_str.result.now c.args.on m.entries v c.self.invariant w.in-Some.ensures.value ∙ name_is
      | in_default w ↦
          let kept = ap (λ t. t.defs.entries) w.self-inside-is ∙ ap (λ n. n.entries) c.get_mut.follows.holds-at-none in
          ap values_of kept ∙ values-unset string_bytes c.as_str.result.now c.args.on m.entries c.self.invariant w.in_default.ensures.value ∙ name_is
    ]
