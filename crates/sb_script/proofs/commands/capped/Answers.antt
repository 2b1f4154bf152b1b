use Rattle.std.proofs.Common.{arith}
use Rattle.sb_script.proofs.Numbers.{capped_more}
use Rattle.sb_script.proofs.commands.capped.Goals as goal

pub loop-byte-preserved : goal.loop-byte-preserved
loop-byte-preserved c = record {
  same = capped_more c.args.text.now c.loop-byte.byte-index c.loop-byte.number c.min-number.result 1000000000001 _ (omega arith) (grind arith) c.loop-byte.invariant.same;
  within = omega arith;
}
