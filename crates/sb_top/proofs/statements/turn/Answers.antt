use Rattle.std.proofs.Common.{◌≡◌, Err, sym, subst}
use Rattle.std.proofs.lemmas.Result.{err_from_is_err_and}
use Rattle.sb_top.specs.Runs.{TurnMade}
use Rattle.sb_top.proofs.Batches.{ended, failed_cut, failed_made, of_words, turn_none, turn_reached}
use Rattle.sb_top.proofs.Histories.{goes_on_same, goes_on_so}
use Rattle.sb_top.proofs.statements.turn.Goals as goal

pub fail-requires-clause-words : goal.fail-requires-clause-words
fail-requires-clause-words c = rw c.in-Err-Refused.refusal-is (of_words c.in-Err-Refused.field-0 c.in-Err-Refused.words c.in-Err-Refused.refusal c.in-Err-Refused.field-0-is c.in-Err-Refused.ensures.words)

pub returns-in_err-fail-in-Err-Refused-clause-goes : goal.returns-in_err-fail-in-Err-Refused-clause-goes
returns-in_err-fail-in-Err-Refused-clause-goes c =
    let e = err_from_is_err_and c.from_residual.result c.from_residual.ensures.1 in
    rw e.1 (goes_on_so _ _ _ _ _ _ c.in_err-fail-in-Err-Refused.ensures.goes
    (λ xs none. failed_cut _ c.args.machine.now c.next.new.self c.next.new.self c.in-Err-Refused.field-0 c.in-Err-Refused.words c.in-Err-Refused.refusal xs c.in-Err-Refused.field-0-is c.in-Err-Refused.ensures.refused none))

pub returns-in-Ok-End-clause-goes : goal.returns-in-Ok-End-clause-goes
returns-in-Ok-End-clause-goes c =
    goes_on_same _ _ _ c.requires (ended c.args.machine.now c.next.new.self c.in-Ok-End.ensures.reaches (rw c.in-Ok-End.field-0-is at c.in-Ok-End.ensures.gives))

pub returns-in-Ok-Run-clause-goes : goal.returns-in-Ok-Run-clause-goes
returns-in-Ok-Run-clause-goes c =
    goes_on_so _ _ _ _ _ _ c.run_request.ensures.goes
    (λ xs made. turn_reached c.args.machine.now c.next.new.self c.run_request.new.machine c.run_request.result xs c.in-Ok-Run.ensures.reaches made)

pub returns-in-Err-OutOfMemory-clause-goes : goal.returns-in-Err-OutOfMemory-clause-goes
returns-in-Err-OutOfMemory-clause-goes c = goes_on_same _ _ _ c.requires (turn_none c.args.machine.now c.next.new.self)

pub returns-in_ok-fail-in-Err-Refused-clause-goes : goal.returns-in_ok-fail-in-Err-Refused-clause-goes
returns-in_ok-fail-in-Err-Refused-clause-goes c =
    goes_on_so _ _ _ _ _ _ c.in_ok-fail-in-Err-Refused.ensures.goes
    (λ xs made. failed_made c.args.machine.now c.next.new.self c.in-Err-Refused.field-0 c.in-Err-Refused.words c.in-Err-Refused.refusal xs c.in-Err-Refused.field-0-is c.in-Err-Refused.ensures.refused
    (rw (c.in-Err-Refused.words-is, c.in-Err-Refused.refusal-is) at made))
