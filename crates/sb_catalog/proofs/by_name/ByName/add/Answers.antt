use Rattle.std.proofs.Common.{◌++◌, [], ◌∷◌, sym, ap, subst, ◌∙◌}
use Rattle.std.specs.Prelude.{string_bytes}
use Rattle.std.specs.Map.{values_of}
use Rattle.std.specs.String.{string_eq}
use Rattle.indexmap.proofs.CallerLemmas.{insert_entry-new}
use Rattle.sb_catalog.specs.Tables.{found, StandByName}
use Rattle.sb_catalog.proofs.Entries.{lookup_by_name, stand-append, values-append}
use Rattle.sb_catalog.proofs.by_name.ByName.add.Goals as goal

pub invariant_of-self : goal.invariant_of-self
invariant_of-self g c =
    let name = g.D.Named.name_bytes in
    let m = c.self.inside.defs in
    let absent = lookup_by_name string_bytes name (string_bytes c.args.key) m.entries c.self.invariant
    ∙ ap (found name (values_of m.entries)) c.requires.key
    ∙ ap (λ t. found name t.defs (name c.args.def)) c.self.view_is
    ∙ c.requires.new in
    let last = c.in-Ok.ensures.entries ∙ insert_entry-new string_eq m c.args.key c.args.def absent in
    subst (λ es. StandByName string_bytes name es) (sym last) (stand-append string_bytes name m.entries c.args.key c.args.def c.self.invariant c.requires.key)

pub returns : goal.returns
returns g c =
    let name = g.D.Named.name_bytes in
    let m = c.self.inside.defs in
    let absent = lookup_by_name string_bytes name (string_bytes c.args.key) m.entries c.self.invariant
    ∙ ap (found name (values_of m.entries)) c.requires.key
    ∙ ap (λ t. found name t.defs (name c.args.def)) c.self.view_is
    ∙ c.requires.new in
    let last = c.in-Ok.ensures.entries ∙ insert_entry-new string_eq m c.args.key c.args.def absent in
    ap values_of last
    ∙ values-append m.entries c.args.key c.args.def
    ∙ ap (λ t. t.defs ++ c.args.def ∷ []) c.self.view_is
