use Rattle.sb_entry.proofs.WholeLaws.{one_from}
use Rattle.sb_frame.proofs.FrameLaws.{frame_read}
use Rattle.sb_frame.proofs.laws.frame_has_one_spelling.Goals as goal

pub returns : goal.returns
returns c = one_from frame_read
