use Rattle.std.proofs.Common.{◌∙◌, arith}
use Rattle.std.proofs.lemmas.Int.{ints, to_z-of_z}
use Rattle.std.proofs.lemmas.Result.{on_ok_weaker}
use Rattle.sb_proc.proofs.First.{taken_scope}
use Rattle.sb_proc.proofs.replies.take_reply.Goals as goal

pub returns : goal.returns
returns c =
    on_ok_weaker c.take_values.result
    (λ e. e ∙ taken_scope c.args.variables.now c.count.new.self c.rows_after-rows.result _ c.args.statement.now c.args.reply.now
    c.count.ensures.variables (grind (arith, ints, to_z-of_z, c.count.ensures.rows)) c.rows_after-rows.ensures (grind (arith, ints, to_z-of_z, c.rows.ensures))) c.take_values.ensures
