use Rattle.std.proofs.Common.{List, subst, arith}
use Rattle.sb_groups.specs.Holds.{Hold}
use Rattle.sb_txn.proofs.GivenBack.{IsGivingBack, last_given_back}
use Rattle.sb_txn.proofs.giving.give_back.Goals as goal

pub loop-guard-preserved : goal.loop-guard-preserved
loop-guard-preserved c =
    let all = c.args.guards.items in
    let before = c.args.locks.now.holds in
    let now = c.loop-guard.locks.holds in
    let of : List Hold → Type 0 = λ guards. IsGivingBack all before guards now in
    let is = subst of c.in-Some.ensures.items c.loop-guard.invariant.0 in
    (last_given_back all before c.pop.new.self.items now c.release.new.self.holds c.in-Some.guard is c.release.ensures.free, omega arith)
