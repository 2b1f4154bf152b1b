use Rattle.std.proofs.Common.{[], ◌∷◌, ◌++◌, ap, sym, subst, ◌∙◌}
use Rattle.sb_groups.specs.Holds.{hold_of}
use Rattle.sb_txn.specs.Guards.{NameApart}
use Rattle.sb_txn.proofs.Taken.{apart_with_taken}
use Rattle.sb_txn.proofs.tests.take.Goals as goal

pub returns-clause-apart : goal.returns-clause-apart
returns-clause-apart g c =
    let guards = c.args.txn.now.guards in
    let taken = hold_of c.args.group c.number-tx.result in
    let kept = c.keep.ensures.guards ∙ ap (λ guard. guards ++ guard ∷ []) c.in-Ok.ensures.guard in
    subst NameApart (sym kept) (apart_with_taken c.args.locks.now.holds taken c.in-Ok.ensures.free guards c.requires.held c.requires.apart)
