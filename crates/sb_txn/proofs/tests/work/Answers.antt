use Rattle.std.proofs.Common.{sym, subst, ◌∙◌}
use Rattle.sb_txn.specs.Guards.{NameApart}
use Rattle.sb_txn.proofs.Taken.{none_apart}
use Rattle.sb_txn.proofs.tests.work.Goals as goal

pub spend-requires-clause-apart : goal.spend-requires-clause-apart
spend-requires-clause-apart g c =
    let none = c.push-3.ensures.guards ∙ c.push-2.ensures.guards ∙ c.push.ensures.guards ∙ c.begin-txn.ensures.guards in
    subst NameApart (sym none) none_apart
