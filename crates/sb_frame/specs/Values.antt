-- The frames that have a spelling.
use Rattle.std.specs.Prelude.{◌≤◌, ◌<◌, ◌^◌}
use Rattle.sb_log.specs.declared.messages.Frame.{Frame}
use Rattle.sb_log.specs.declared.messages.Frame.TheVariants.{Data, Ack}
use Rattle.sb_entry.specs.Values.{IsHandle, IsSide, IsHeader, IsContent}

abbrev pub IsFrame : Frame → Type 0
IsFrame (Data d) = IsSide d.side × ((1 ≤ d.number) × (d.number < 2 ^ 64)) × IsHeader d.header × IsContent d.content
IsFrame (Ack a) = IsSide a.side × (a.upto < 2 ^ 64) × IsHandle a.to
