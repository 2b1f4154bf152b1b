use Rattle.std.proofs.Common.{sym, subst}
use Rattle.sb_txn.specs.Guards.{NameApart}
use Rattle.sb_txn.proofs.Taken.{none_apart}
use Rattle.sb_txn.proofs.tests.hold_and_end.Goals as goal

pub take-requires-clause-apart : goal.take-requires-clause-apart
take-requires-clause-apart g c = subst NameApart (sym c.begin-txn.ensures.guards) none_apart
