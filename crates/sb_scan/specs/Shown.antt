-- What this crate's views of items stand for.
use Rattle.std.specs.Prelude.{None, Some}
use Rattle.sb_log.specs.declared.messages.Item.{Item}
use Rattle.sb_log.specs.declared.messages.Msg.{Msg}
use Rattle.sb_log.specs.declared.messages.Kind.TheVariants as kind
use Rattle.sb_model.specs.ErrorBody.{lifetime_body}
use Rattle.sb_model.specs.Items.{message_of}
use Rattle.sb_scan.specs.declared.item.SeenItem.{SeenItem}
use Rattle.sb_scan.specs.declared.item.Source.{Source}
use Rattle.sb_scan.specs.declared.item.Source.TheVariants as source

-- the message that what brought an item gives
abbrev pub source_message : Source → Msg
source_message (source.Content content) = message_of content.now
source_message source.Timer = record { kind = kind.DialogTimer; body = None }
source_message source.Lifetime = record { kind = kind.Error; body = Some lifetime_body }

-- the item that a view shows
abbrev pub item_seen : SeenItem → Item
item_seen i = record { number = i.number; side = i.side; sequence = i.sequence; message = source_message i.source }
