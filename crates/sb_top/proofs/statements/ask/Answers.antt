use Rattle.std.proofs.Common.{◌≡◌, ◌++◌, ◌∷◌, [], None, true, refl}
use Rattle.std.proofs.lemmas.Result.{err_from_is_err_and}
use Rattle.sb_log.specs.declared.steps.Answer.TheVariants as answer
use Rattle.sb_top.specs.Following.{asked}
use Rattle.sb_top.proofs.Asking.{memory_still, refused_step, replied_step}
use Rattle.sb_top.proofs.Histories.{goes_on_one, goes_on_still}
use Rattle.sb_top.proofs.statements.ask.Goals as goal

pub returns-in_err-make_room-clause-goes : goal.returns-in_err-make_room-clause-goes
returns-in_err-make_room-clause-goes c =
    let e = err_from_is_err_and c.from_residual.result c.from_residual.ensures.1 in
    rw e.1 (goes_on_still _ _ _ _ _ refl c.make_room.ensures.same c.requires.plain refl)

pub returns-then-is_want_of_memory-clause-goes : goal.returns-then-is_want_of_memory-clause-goes
returns-then-is_want_of_memory-clause-goes c =
    goes_on_still _ _ _ _ _
    (memory_still _ _ _ _ (c.is_want_of_memory.ensures.0 c.if-is_want_of_memory.true) c.requires.built c.requires.plain c.in-Err.ensures.answered)
    c.make_room.ensures.same c.requires.plain refl

pub returns-in-Ok-clause-goes : goal.returns-in-Ok-clause-goes
returns-in-Ok-clause-goes c =
    let step = asked c.args.request (answer.Replied c.in-Ok.reply) in
    let longer : c.push.new.self.steps ≡ c.args.history.now.steps ++ step ∷ [] = rw (← c.make_room.ensures.same, ← c.asked.ensures) c.push.ensures in
    goes_on_one _ _ _ _ _ _ (replied_step _ _ _ _ c.requires.built c.requires.plain c.in-Ok.ensures.answered) longer c.in_ok-make_room.ensures.room (c.in-Ok.reply, refl)

pub returns-else-is_want_of_memory-clause-goes : goal.returns-else-is_want_of_memory-clause-goes
returns-else-is_want_of_memory-clause-goes c =
    let step = asked c.args.request (answer.Refused c.in-Err.refusal None) in
    let longer : c.push-in-Err.new.self.steps ≡ c.args.history.now.steps ++ step ∷ [] = rw (← c.make_room.ensures.same, ← c.asked-in-Err.ensures) c.push-in-Err.ensures in
    goes_on_one _ _ _ _ _ _
    (refused_step _ _ _ _ (λ e. let other : c.is_want_of_memory.result ≡ true = c.is_want_of_memory.ensures.1 e in cc) c.requires.built c.requires.plain c.in-Err.ensures.answered)
    longer c.in_ok-make_room.ensures.room (c.in-Err.refusal, refl)
