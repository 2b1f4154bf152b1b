use Rattle.std.proofs.Common.{None, subst}
use Rattle.sb_groups.specs.Holds.{Hold, Held, SetsHolder, holds_in}
use Rattle.sb_groups.proofs.Entries.{holder_is_set}
use Rattle.sb_groups.proofs.locks.Locks.release.Goals as goal

pub returns-clause-free : goal.returns-clause-free
returns-clause-free c =
    let old = c.self.inside.holders.entries in
    let new = c.swap_remove.new.self.entries in
    let of : Hold → Type 0 = λ h. SetsHolder c.args.self.now.holds (holds_in new) h.group None in
    let from : Held → Type 0 = λ t. SetsHolder t.holds (holds_in new) c.guard.inside.group None in
    subst of c.guard.view_is (subst from c.self.view_is (holder_is_set old new c.guard.inside.group None c.swap_remove.ensures.updates.0))
