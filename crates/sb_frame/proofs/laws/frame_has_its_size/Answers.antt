use Rattle.sb_frame.proofs.Sized.{frame_sized}
use Rattle.sb_frame.proofs.laws.frame_has_its_size.Goals as goal

pub returns : goal.returns
returns c = frame_sized
