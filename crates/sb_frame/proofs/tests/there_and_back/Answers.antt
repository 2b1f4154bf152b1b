use Rattle.sb_frame.proofs.FrameLaws.{frame_fits}
use Rattle.sb_frame.proofs.tests.there_and_back.Goals as goal

pub encode-requires : goal.encode-requires
encode-requires g c = frame_fits c.in_ok-frame.frame c.in_ok-frame.ensures.spelled.0
