use Rattle.sb_frame.proofs.FrameLaws.{frame_read}
use Rattle.sb_frame.proofs.laws.frame_is_read_again.Goals as goal

pub returns : goal.returns
returns c = λ frame rest fits. (frame_read.reads frame fits).again rest
