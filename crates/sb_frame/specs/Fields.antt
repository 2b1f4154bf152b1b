-- What fits its field.
use Rattle.std.specs.Prelude.{◌≤◌}
use Rattle.sb_log.specs.declared.messages.Frame.{Frame}
use Rattle.sb_log.specs.declared.messages.Frame.TheVariants.{Data, Ack}
use Rattle.sb_entry.specs.Fields.{HeaderFits, ContentFits}

-- each length fits its field, and a message has a number from 1
abbrev pub FrameFits : Frame → Type 0
FrameFits (Data d) = (1 ≤ d.number) × HeaderFits d.header × ContentFits d.content
FrameFits (Ack a) = Unit {0}
