use Rattle.std.proofs.Common.{◌<◌, ◌∙◌, ap, sym, length, arith}
use Rattle.sb_pick.specs.Offered.{is_of_group}
use Rattle.sb_pick.proofs.Lists.{gives_one, passes_by}
use Rattle.sb_pick.proofs.choosing.numbers.Goals as goal
use Rattle.sb_pick.proofs.choosing.numbers.Goals.{then-eq-2+in_ok-push, else-eq-2}

pub loop-candidate-preserved : goal.loop-candidate-preserved
loop-candidate-preserved c =
    let i = c.loop-candidate.candidate-index in
    let within : i < length c.args.sorted.now = omega arith in
    elim c.if-eq-2.branch [
      | then-eq-2+in_ok-push w ↦
          gives_one (λ x. x.number) (is_of_group c.args.group) c.loop-candidate.numbers.items c.if-eq-2.numbers.items c.loop-candidate.left c.if-eq-2.left c.args.sorted.now i _ _ within
          (sym c.eq-in-loop-candidate.ensures ∙ w.if-eq-2.true) (sym c.eq.ensures ∙ c.if-eq.false)
          (ap (λ v. v.items) w.numbers-is ∙ w.in_ok-push.ensures.items) (w.left-is ∙ w.less_one-left.ensures) c.loop-candidate.invariant
      | else-eq-2 w ↦
          passes_by (λ x. x.number) (is_of_group c.args.group) c.loop-candidate.numbers.items c.if-eq-2.numbers.items c.loop-candidate.left c.if-eq-2.left c.args.sorted.now i _ _ within
          (sym c.eq-in-loop-candidate.ensures ∙ w.if-eq-2.false) (ap (λ v. v.items) w.numbers-is) w.left-is c.loop-candidate.invariant
    ]
