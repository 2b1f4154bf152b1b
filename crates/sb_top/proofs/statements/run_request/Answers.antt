use Rattle.std.proofs.Common.{◌≡◌, ◌++◌, ◌∷◌, [], Err, false, true, ap, sym, subst, ◌∙◌}
use Rattle.std.specs.Prelude.{IsTrue}
use Rattle.std.proofs.lemmas.Result.{err_from_is_err_and}
use Rattle.sb_instance.specs.Asked.{is_built}
use Rattle.sb_log.specs.declared.steps.Answer.TheVariants as answer
use Rattle.sb_proc.specs.Machines.{told}
use Rattle.sb_top.specs.Following.{asked}
use Rattle.sb_top.specs.Runs.{TurnMade}
use Rattle.sb_top.proofs.Batches.{asked_cut, denied_made, replied_made, told_cut, unbuilt_cut, unbuilt_made}
use Rattle.sb_top.proofs.Histories.{goes_on_at, goes_on_so}
use Rattle.sb_top.proofs.statements.run_request.Goals as goal

pub returns-in_err-refuse_unbuilt-clause-goes : goal.returns-in_err-refuse_unbuilt-clause-goes
returns-in_err-refuse_unbuilt-clause-goes c =
    let e = err_from_is_err_and c.from_residual.result c.from_residual.ensures.1 in
    let built : is_built c.args.request ≡ false = sym c.is_built.ensures ∙ c.if-not-is_built.true in
    rw e.1 (goes_on_so _ _ _ _ _ _ c.in_err-refuse_unbuilt.ensures.goes (λ xs none. unbuilt_cut _ c.args.machine.now c.args.machine.now c.args.request xs c.requires.given built none))

pub returns-then-not-is_built-clause-goes : goal.returns-then-not-is_built-clause-goes
returns-then-not-is_built-clause-goes c =
    let built : is_built c.args.request ≡ false = sym c.is_built.ensures ∙ c.if-not-is_built.true in
    goes_on_so _ _ _ _ _ _ c.in_ok-refuse_unbuilt.ensures.goes
    (λ xs is. unbuilt_made c.args.machine.now c.args.request xs c.requires.given built (rw c.request_words-words.ensures at is))

pub returns-in_err-is_refused-clause-goes : goal.returns-in_err-is_refused-clause-goes
returns-in_err-is_refused-clause-goes c =
    let e = err_from_is_err_and c.from_residual-in_err-is_refused.result c.from_residual-in_err-is_refused.ensures.1 in
    let built : is_built c.args.request ≡ true = sym c.is_built.ensures ∙ c.if-not-is_built.false in
    rw e.1 (goes_on_so _ _ _ _ _ _ c.in_err-is_refused.ensures.goes (λ xs none. asked_cut _ c.args.machine.now c.args.machine.now c.args.request xs c.requires.given built none))

pub returns-then-is_refused-clause-goes : goal.returns-then-is_refused-clause-goes
returns-then-is_refused-clause-goes c =
    let built : is_built c.args.request ≡ true = sym c.is_built.ensures ∙ c.if-not-is_built.false in
    goes_on_so _ _ _ _ _ _ (rw c.if-is_refused.true at c.in_ok-is_refused.ensures.goes)
    (λ xs h. denied_made c.args.machine.now c.args.request h.0 xs c.requires.given built h.1)

pub returns-in_err-tell-clause-goes : goal.returns-in_err-tell-clause-goes
returns-in_err-tell-clause-goes c =
    let e = err_from_is_err_and c.from_residual-in_err-tell.result c.from_residual-in_err-tell.ensures.1 in
    let built : is_built c.args.request ≡ true = sym c.is_built.ensures ∙ c.if-not-is_built.false in
    rw e.1 (goes_on_so _ _ _ _ _ _ (rw c.if-is_refused.false at c.in_ok-is_refused.ensures.goes)
    (λ xs h. subst (λ w. TurnMade c.args.machine.now c.tell.new.machine (Err w) xs) (sym e.2) (told_cut c.args.machine.now c.tell.new.machine c.args.request h.0 xs c.requires.given built h.1)))

pub returns-clause-goes : goal.returns-clause-goes
returns-clause-goes c =
    let built : is_built c.args.request ≡ true = sym c.is_built.ensures ∙ c.if-not-is_built.false in
    let went = rw c.if-is_refused.false at c.in_ok-is_refused.ensures.goes in
    let given = went.so in
    let last : c.steps.result.now ≡ c.args.history.now.steps ++ asked c.args.request (answer.Replied given.0) ∷ [] =
    c.steps.ensures ∙ went.longer_is ∙ ap (λ xs. c.args.history.now.steps ++ xs) given.1 in
    goes_on_at _ _ _ _ _ _ went
    (replied_made c.args.machine.now c.tell.new.machine c.args.request given.0 went.more c.requires.given built given.1
    (c.in_ok-tell.ensures c.args.history.now.steps c.args.request given.0 last))
