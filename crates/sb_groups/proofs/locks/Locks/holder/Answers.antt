use Rattle.std.proofs.Common.{ap, sym, ◌∙◌}
use Rattle.sb_groups.specs.Holds.{holder_of}
use Rattle.sb_groups.proofs.Entries.{holder_is_looked_up}
use Rattle.sb_groups.proofs.locks.Locks.holder.Goals as goal

pub returns : goal.returns
returns c =
    c.copied.ensures
    ∙ c.get.ensures.value
    ∙ sym (holder_is_looked_up c.self.inside.holders.entries c.args.group)
    ∙ ap (λ t. holder_of t.holds c.args.group) c.self.view_is
