use Rattle.sb_grammar.specs.Batches.{batch}
use Rattle.sb_parse.proofs.Calls.{call_spelled, call_only, call_place}
use Rattle.sb_parse.proofs.text.statements.Goals as goal

pub returns-clause-spelled : goal.returns-clause-spelled
returns-clause-spelled c = rw c.finish.ensures (call_spelled (batch 64) c.args.text.now c.in_ok-found.found.tokens.items c.in_ok-found.found.unlexed c.in_ok-found.ensures.cut c.batch_of-answer.result c.batch_of-answer.ensures.spelled)

pub returns-clause-only : goal.returns-clause-only
returns-clause-only c = rw c.finish.ensures (call_only (batch 64) c.args.text.now c.in_ok-found.found.tokens.items c.in_ok-found.found.unlexed c.in_ok-found.ensures.only c.batch_of-answer.result c.batch_of-answer.ensures.only)

pub returns-clause-place : goal.returns-clause-place
returns-clause-place c = rw c.finish.ensures (call_place (batch 64) c.args.text.now c.in_ok-found.found.tokens.items c.in_ok-found.found.unlexed c.in_ok-found.ensures.cut c.batch_of-answer.result c.batch_of-answer.ensures.spelled c.batch_of-answer.ensures.place)
