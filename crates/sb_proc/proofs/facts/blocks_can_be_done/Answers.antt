use Rattle.sb_proc.proofs.Blocks.{blocks_can_be_done}
use Rattle.sb_proc.proofs.facts.blocks_can_be_done.Goals as goal

pub returns : goal.returns
returns c = blocks_can_be_done
