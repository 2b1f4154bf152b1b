use Rattle.std.proofs.Common.{Some, subst}
use Rattle.sb_groups.specs.Holds.{Held, SetsHolder, holds_in}
use Rattle.sb_groups.proofs.Entries.{holder_is_set}
use Rattle.sb_groups.proofs.locks.Locks.try_take.Goals as goal

pub returns-clause-taken : goal.returns-clause-taken
returns-clause-taken c =
    let old = c.self.inside.holders.entries in
    let new = c.insert.new.self.entries in
    let from : Held → Type 0 = λ t. SetsHolder t.holds (holds_in new) c.args.group (Some c.args.tx) in
    subst from c.self.view_is (holder_is_set old new c.args.group (Some c.args.tx) c.in-Ok.ensures.updates.0)
