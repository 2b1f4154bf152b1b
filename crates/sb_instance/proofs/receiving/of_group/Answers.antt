use Rattle.std.proofs.Common.{◌<◌, ◌∙◌, sym, length, arith}
use Rattle.sb_instance.specs.Candidates.{given, placed_seen}
use Rattle.sb_instance.specs.Giving.{is_of_group}
use Rattle.sb_instance.proofs.Placing.{gives_one, passes_by}
use Rattle.sb_instance.proofs.receiving.of_group.Goals as goal
use Rattle.sb_instance.proofs.receiving.of_group.Goals.{then-eq-2+in_ok-given+in_ok-push, else-eq-2}

pub loop-candidate-preserved : goal.loop-candidate-preserved
loop-candidate-preserved c =
    let within : c.loop-candidate.candidate-index < length c.args.sorted.now = omega arith in
    elim c.if-eq-2.branch [
      | then-eq-2+in_ok-given+in_ok-push w ↦
          gives_one given (is_of_group c.args.group) placed_seen c.loop-candidate.items.items c.if-eq-2.items.items c.loop-candidate.left c.if-eq-2.left c.args.sorted.now c.loop-candidate.candidate-index c.candidate-item.result _ within c.candidate-item.is
          (sym c.eq-in-loop-candidate.ensures ∙ w.if-eq-2.true) (sym c.eq.ensures ∙ c.if-eq.false)
          (cc (w.in_ok-push.ensures.items, w.in_ok-given.ensures)) (w.left-is ∙ w.less_one-left.ensures) c.loop-candidate.invariant
      | else-eq-2 w ↦
          passes_by given (is_of_group c.args.group) placed_seen c.loop-candidate.items.items c.if-eq-2.items.items c.loop-candidate.left c.if-eq-2.left c.args.sorted.now c.loop-candidate.candidate-index c.candidate-item.result _ within c.candidate-item.is
          (sym c.eq-in-loop-candidate.ensures ∙ w.if-eq-2.false) (cc) w.left-is c.loop-candidate.invariant
    ]
