use Rattle.sb_pick.proofs.Told.{after_cleanup, after_end, after_move, after_one, after_other, after_took}
use Rattle.sb_pick.proofs.laws.operations_are_told_one_by_one.Goals as goal

pub returns : goal.returns
returns c = record {
  first = after_one;
  took = after_took;
  ended = after_end;
  cleaned = after_cleanup;
  moved = after_move;
  others = after_other;
}
