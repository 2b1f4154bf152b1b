use Rattle.std.proofs.Common.{sym, ◌∙◌}
use Rattle.std.proofs.lemmas.Result.{err_from_is_err_and}
use Rattle.sb_top.specs.Following.{CleansSide}
use Rattle.sb_top.specs.Runs.{world_of}
use Rattle.sb_top.proofs.Follows.{hand_cut, hand_last, hand_next, hand_none}
use Rattle.sb_top.proofs.Handing.{can_hand_pending, keeps_both, keeps_same, pending_kept}
use Rattle.sb_top.proofs.Histories.{goes_on_both, goes_on_same, goes_on_so}
use Rattle.sb_top.proofs.clean.clean_side.Goals as goal

pub loop-place-init : goal.loop-place-init
loop-place-init c = record { goes = goes_on_same _ _ _ c.requires.plain (λ more rest. rest); keeps = keeps_same _ }

pub hand_over-requires-clause-plain : goal.hand_over-requires-clause-plain
hand_over-requires-clause-plain c = c.loop-place.invariant.goes.plain

pub hand_over-requires-clause-there : goal.hand_over-requires-clause-there
hand_over-requires-clause-there c =
    can_hand_pending c.loop-place.instance c.args.pending c.loop-place.place (pending_kept _ _ _ c.loop-place.invariant.keeps c.requires.there) c.loop-place-test.true

pub returns-in_err-verdict-clause-goes : goal.returns-in_err-verdict-clause-goes
returns-in_err-verdict-clause-goes c =
    let e = err_from_is_err_and c.from_residual.result c.from_residual.ensures.1 in
    rw e.1 (goes_on_both _ _ _ _ _ _ _ _ _ c.loop-place.invariant.goes c.in_err-verdict.ensures.goes
    (λ xs ys state before none. hand_cut _ c.args.pending.side c.loop-place.place c.args.pending.numbered (CleansSide (world_of c.args.instance.now) c.args.pending) xs ys c.loop-place-test.true before none))

pub returns-in_err-verdict-clause-keeps : goal.returns-in_err-verdict-clause-keeps
returns-in_err-verdict-clause-keeps c = keeps_both _ _ _ c.loop-place.invariant.keeps c.in_err-verdict.ensures.keeps

pub returns-then-not-is_taken_in-clause-goes : goal.returns-then-not-is_taken_in-clause-goes
returns-then-not-is_taken_in-clause-goes c =
    goes_on_both _ _ _ _ _ _ _ _ _ c.loop-place.invariant.goes c.in_ok-verdict.ensures.goes
    (λ xs ys state before is. hand_last c.args.pending.side c.loop-place.place c.args.pending.numbered c.in_ok-verdict.verdict (CleansSide (world_of c.args.instance.now) c.args.pending) xs ys c.loop-place-test.true
    (sym c.is_taken_in.ensures ∙ c.if-not-is_taken_in.true) before is)

pub returns-then-not-is_taken_in-clause-keeps : goal.returns-then-not-is_taken_in-clause-keeps
returns-then-not-is_taken_in-clause-keeps c = keeps_both _ _ _ c.loop-place.invariant.keeps c.in_ok-verdict.ensures.keeps

pub loop-place-preserved : goal.loop-place-preserved
loop-place-preserved c = record {
  goes = goes_on_both _ _ _ _ _ _ _ _ _ c.loop-place.invariant.goes c.in_ok-verdict.ensures.goes
      (λ xs ys state before is. hand_next c.args.pending.side c.loop-place.place c.args.pending.numbered c.in_ok-verdict.verdict (CleansSide (world_of c.args.instance.now) c.args.pending) xs ys c.loop-place-test.true
      (sym c.is_taken_in.ensures ∙ c.if-not-is_taken_in.false) before is);
  keeps = keeps_both _ _ _ c.loop-place.invariant.keeps c.in_ok-verdict.ensures.keeps;
}

pub returns-clause-goes : goal.returns-clause-goes
returns-clause-goes c =
    goes_on_so _ _ _ _ _ _ c.loop-place.invariant.goes
    (λ xs before. hand_none c.args.pending.side c.loop-place.place c.args.pending.numbered (CleansSide (world_of c.args.instance.now) c.args.pending) xs c.loop-place-test.false before)
