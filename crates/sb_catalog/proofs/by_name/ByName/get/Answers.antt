use Rattle.std.proofs.Common.{ap, ◌∙◌}
use Rattle.std.specs.Prelude.{string_bytes}
use Rattle.std.specs.Map.{values_of}
use Rattle.sb_catalog.specs.Tables.{found}
use Rattle.sb_catalog.proofs.Entries.{lookup_by_name}
use Rattle.sb_catalog.proofs.by_name.ByName.get.Goals as goal

pub returns : goal.returns
returns g c =
    c.get.ensures.value
    ∙ lookup_by_name string_bytes g.D.Named.name_bytes c.as_str.result.now c.self.inside.defs.entries c.self.invariant
    ∙ ap (found g.D.Named.name_bytes (values_of c.self.inside.defs.entries)) c.as_str.ensures
    ∙ ap (λ t. found g.D.Named.name_bytes t.defs c.args.name.now) c.self.view_is
