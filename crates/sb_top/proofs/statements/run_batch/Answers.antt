use Rattle.std.proofs.Common.{Err, sym}
use Rattle.std.proofs.lemmas.Result.{err_from_is_err_and}
use Rattle.sb_top.specs.Following.{DoesFrom, begun}
use Rattle.sb_top.proofs.Batches.{batch_stopped, through_both, through_end, through_none}
use Rattle.sb_top.proofs.Histories.{goes_on_both, goes_on_same}
use Rattle.sb_top.proofs.statements.run_batch.Goals as goal

pub turns-init : goal.turns-init
turns-init c = goes_on_same _ _ _ c.requires (rw c.new-machine.ensures (through_none (begun c.args.variables c.args.text c.args.block)))

pub returns-in_err-turn-clause-goes : goal.returns-in_err-turn-clause-goes
returns-in_err-turn-clause-goes c =
    let e = err_from_is_err_and c.from_residual.result c.from_residual.ensures.1 in
    let whole = begun c.args.variables c.args.text c.args.block in
    rw e.1 (goes_on_both _ _ _ _ _ _ _ _ _ c.turns.invariant c.in_err-turn.ensures.goes
    (λ xs ys state lead begun. batch_stopped _ whole c.turns.machine c.turn.new.machine xs ys lead (rw e.2 begun)))

pub turns-preserved : goal.turns-preserved
turns-preserved c =
    let whole = begun c.args.variables c.args.text c.args.block in
    goes_on_both _ _ _ _ _ _ _ _ _ c.turns.invariant (rw c.if-branch.true at c.in_ok-turn.ensures.goes)
    (λ xs ys state lead more. through_both whole c.turns.machine c.turn.new.machine xs ys lead more)

pub returns-clause-goes : goal.returns-clause-goes
returns-clause-goes c =
    let whole = begun c.args.variables c.args.text c.args.block in
    rw c.into_variables.ensures (goes_on_both _ _ _ _ _ _ _ _ _ c.turns.invariant (rw c.if-branch.false at c.in_ok-turn.ensures.goes)
    (λ xs ys state lead done. through_end whole c.turns.machine xs ys c.turn.new.machine.scope lead done))
