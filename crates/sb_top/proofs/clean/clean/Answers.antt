use Rattle.std.proofs.lemmas.Result.{err_from_is_err_and}
use Rattle.std.proofs.Common.{[], sym, subst, ◌∙◌}
use Rattle.sb_top.specs.Following.{Cleans, CleansSide, InTurn}
use Rattle.sb_top.specs.Runs.{Begins, GoesOn, Made, world_of}
use Rattle.sb_top.proofs.Follows.{can_clean, none_begun}
use Rattle.sb_top.proofs.Handing.{are_pending}
use Rattle.sb_top.proofs.Histories.{goes_on_same}
use Rattle.sb_top.proofs.clean.clean.Goals as goal

pub returns-in_err-pending-clause-goes : goal.returns-in_err-pending-clause-goes
returns-in_err-pending-clause-goes c =
    let e = err_from_is_err_and c.from_residual.result c.from_residual.ensures.1 in
    rw e.1 (goes_on_same _ _ _ c.requires (subst (λ w. Begins w (Cleans (world_of c.args.instance.now)) []) (sym e.2) (none_begun (Cleans (world_of c.args.instance.now)) (can_clean (world_of c.args.instance.now)))))

pub clean_sides-requires-clause-there : goal.clean_sides-requires-clause-there
clean_sides-requires-clause-there c = rw (c.as_slice.ensures.value, c.in_ok-pending.ensures) (are_pending c.args.instance.now)

pub returns-clause-goes : goal.returns-clause-goes
returns-clause-goes c =
    subst (λ xs. GoesOn c.args.instance.now c.args.history.now.steps c.clean_sides.new.instance c.clean_sides.new.history.steps (Made c.clean_sides.result (InTurn CleansSide (world_of c.args.instance.now) xs)))
    (c.as_slice.ensures.value ∙ c.in_ok-pending.ensures) c.clean_sides.ensures.goes
