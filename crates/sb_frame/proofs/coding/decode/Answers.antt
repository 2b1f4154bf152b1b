use Rattle.std.proofs.Common.{subst, arith}
use Rattle.sb_frame.specs.Decodes.{Decodes}
use Rattle.sb_frame.proofs.FrameLaws.{decoded, decodes_again}
use Rattle.sb_frame.proofs.coding.decode.Goals as goal

pub returns-clause-spelled : goal.returns-clause-spelled
returns-clause-spelled c = decoded c.args.bytes.now c.all_of.result (λ i. omega (arith, c.type_inv.bytes i)) c.all_of.ensures

pub returns-clause-only : goal.returns-clause-only
returns-clause-only c = λ frame fits e. subst (λ read. Decodes c.all_of.result read) (decodes_again c.args.bytes.now frame fits e) c.all_of.ensures
