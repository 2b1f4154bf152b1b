-- A frame's spelling has as many bytes as its size says.
use Rattle.std.proofs.Common.{◌≡◌, ◌++◌, ◌+◌, length, refl}
use Rattle.std.proofs.lemmas.List.{length-append}
use Rattle.sb_log.specs.declared.messages.Frame.{Frame}
use Rattle.sb_log.specs.declared.messages.Frame.TheVariants.{Data, Ack}
use Rattle.sb_fields.proofs.Takings.{length-number}
use Rattle.sb_entry.proofs.PartLengths.{length-flag}
use Rattle.sb_entry.proofs.Sized.{handle_sized, side_sized, header_sized, content_sized}
use Rattle.sb_model.specs.Spelling.{mark, frame_bytes}
use Rattle.sb_model.specs.Sizes.{frame_size}

mark_sized : length mark ≡ 3
unfolding mark
mark_sized = simp (length-append, length-number) refl

pub frame_sized : (f : Frame) → length (frame_bytes f) ≡ frame_size f
unfolding frame_bytes
frame_sized (Data d) = simp (length-append, length-number, mark_sized, side_sized, header_sized, content_sized) refl
frame_sized (Ack k) = simp (length-append, length-number, length-flag, mark_sized, side_sized, handle_sized) refl
