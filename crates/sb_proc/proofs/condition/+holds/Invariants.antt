use Rattle.std.proofs.Common.{◌≡◌, drop}
use Rattle.sb_proc.specs.Expressions as says
use Rattle.sb_proc.specs.Folds.{try_fold}
use Rattle.sb_proc.specs.Seen.{scope_of}
use Rattle.sb_proc.proofs.condition.+holds.Given as goal

abbrev pub invariant-all_hold-loop-test : goal.invariant-all_hold-loop-test
invariant-all_hold-loop-test l =
    try_fold (says.and_test (scope_of l.seen)) l.all (drop l.test-index l.tests) ≡ says.all_hold (scope_of l.seen) l.tests

abbrev pub invariant-any_holds-loop-test : goal.invariant-any_holds-loop-test
invariant-any_holds-loop-test l =
    try_fold (says.or_test (scope_of l.seen)) l.any (drop l.test-index l.tests) ≡ says.any_holds (scope_of l.seen) l.tests
