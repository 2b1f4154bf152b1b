-- What a decoding answers.
use Rattle.std.specs.Prelude.{◌≡◌, ℕ, Result, Ok, Err}
use Rattle.sb_log.specs.declared.messages.Frame.{Frame}
use Rattle.sb_frame.specs.declared.refused.FrameRefused.{FrameRefused}
use Rattle.sb_frame.specs.declared.refused.FrameRefused.TheVariants.{BadFrame, OutOfMemory}

-- a frame or a place is what reading gives; want of memory may come at any time
abbrev pub Decodes : Result Frame FrameRefused → Result Frame ℕ → Type 0
Decodes (Ok frame) read = read ≡ Ok frame
Decodes (Err (BadFrame at)) read = read ≡ Err at
Decodes (Err OutOfMemory) read = Unit {0}
