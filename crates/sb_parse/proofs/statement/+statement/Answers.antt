use Rattle.std.proofs.Common.{arith, List, [], ◌∷◌, ◌++◌, ap, ◌∙◌}
use Rattle.std.proofs.lemmas.Result.{err_from_is_err_and}
use Rattle.sb_grammar.specs.declared.tree.Statement.{Statement}
use Rattle.sb_grammar.specs.Rules.{most}
use Rattle.sb_grammar.specs.Stops.{Stops}
use Rattle.sb_grammar.specs.Statements.{block, turn, statement}
use Rattle.sb_parse.proofs.Untils.{untils_start, untils_go, untils_end, untils_fails}
use Rattle.sb_parse.proofs.statement.+statement.Goals as goal

pub block-turns-init : goal.block-turns-init
unfolding block most
block-turns-init t c =
    let e = c.in_ok-push.ensures.ok ∙ ap (λ (z : List Statement). z ++ c.in_ok-first.first ∷ []) c.new-all.ensures in
    (rw e (untils_start (turn c.args.in_batch c.args.levels) Stops (statement c.args.in_batch c.args.levels) most c.args.tokens.now c.in_ok-first.rest.now c.in_ok-first.first c.in_ok-first.ensures.value (omega (arith, c.in_ok-first.ensures.shorter))), c.in_ok-first.ensures.shorter)

pub block-returns-in_err-next-clause-value : goal.block-returns-in_err-next-clause-value
block-returns-in_err-next-clause-value t c =
    let p = err_from_is_err_and c.from_residual-in_err-next.result c.from_residual-in_err-next.ensures.1 in
    rw (p.1, p.2) (untils_fails c.in_err-next.field-0.0 _ _ _ _ _ c.turns.invariant.0 c.in_err-next.ensures.value)

pub block-returns-in_default-clause-value : goal.block-returns-in_default-clause-value
block-returns-in_default-clause-value t c = untils_end _ _ _ _ _ _ c.turns.invariant.0 (rw c.in_default.is at c.in_ok-next.ensures.value)

pub block-turns-preserved : goal.block-turns-preserved
block-turns-preserved t c =
    (rw c.in_ok-push-2.ensures.ok (untils_go _ _ _ _ _ c.in-Some.next _ c.turns.invariant.0 (rw c.in-Some.is at c.in_ok-next.ensures.value) c.in_ok-next.ensures.shorter), omega (arith, c.in_ok-next.ensures.shorter))
