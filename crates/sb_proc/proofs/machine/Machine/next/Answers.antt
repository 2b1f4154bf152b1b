use Rattle.std.proofs.lemmas.Result.{err_from_is_err_and}
use Rattle.sb_proc.specs.Machines as machines
use Rattle.sb_proc.specs.Steps.{next_words}
use Rattle.sb_proc.proofs.Turning.{asked_gives, end_gives, of_words, reach_step, turn_weighs}
use Rattle.sb_proc.proofs.Going.{refused_at, refused_on, some_left}
use Rattle.sb_proc.proofs.machine.Machine.next.Goals as goal

pub turns-init : goal.turns-init
turns-init c = machines.stays

pub turns-preserved : goal.turns-preserved
turns-preserved c =
    reach_step c.args.self.now c.turns.self c.go_on.new.self c.turns.invariant (rw c.in-Ok-None.field-0-is at c.in-Ok-None.ensures) c.in_ok-go_on-in-Ok-None.ensures.done

pub turns-smaller : goal.turns-smaller
turns-smaller c =
    turn_weighs c.turns.self c.go_on.new.self (some_left c.is_done.result c.turns.self.rest c.turns-test.true c.is_done.ensures.1) c.in_ok-go_on-in-Ok-None.ensures.done

pub returns-in_err-go_on-in-Ok-None-clause-refused : goal.returns-in_err-go_on-in-Ok-None-clause-refused
returns-in_err-go_on-in-Ok-None-clause-refused c =
    let p = err_from_is_err_and c.from_residual.result c.from_residual.ensures.1 in
    rw (p.1, p.2)
    (refused_on c.args.self.now c.turns.self c.go_on.new.self c.in_err-go_on-in-Ok-None.field-0.0 c.turns.invariant c.in_err-go_on-in-Ok-None.ensures.refused)

pub returns-in-Ok-Some : goal.returns-in-Ok-Some
returns-in-Ok-Some c = record {
  reaches = c.turns.invariant;
  gives = asked_gives c.turns.self c.in-Ok-Some.request (rw c.in-Ok-Some.field-0-is at c.in-Ok-Some.ensures);
  refused = tt;
  words = tt;
}

pub returns-in-Err : goal.returns-in-Err
returns-in-Err c = record {
  reaches = tt;
  gives = tt;
  refused = refused_at c.args.self.now c.turns.self c.in-Err.fault c.refused.result c.turns.invariant c.in-Err.ensures c.refused.ensures;
  words = of_words (next_words c.turns.self) c.in-Err.fault c.refused.result c.refused.ensures;
}

pub returns : goal.returns
returns c = record {
  reaches = c.turns.invariant;
  gives = end_gives c.turns.self (c.is_done.ensures.0 c.turns-test.false);
  refused = tt;
  words = tt;
}
