-- What waits in a queue, in the order in which it is taken.
use Rattle.std.specs.Prelude.{◌≡◌, true, List, [], map, flat_map}
use Rattle.sb_log.specs.declared.entries.Entry.{Entry}
use Rattle.sb_log.specs.declared.entries.Op.{Op}
use Rattle.sb_log.specs.declared.messages.Item.{Item}
use Rattle.sb_log.specs.declared.messages.ReceivedItem.{ReceivedItem}
use Rattle.sb_log.specs.declared.requests.Filter.TheVariants as filters
use Rattle.sb_model.specs.Catalog.{queue_is_on}
use Rattle.sb_model.specs.Items.{taken_by}
use Rattle.sb_model.specs.Pick.{candidates, item_before}
use Rattle.sb_model.specs.Replies.{given_item}
use Rattle.sb_model.specs.Sides.{Bytes}
use Rattle.sb_model.specs.Sorting.{in_order}
use Rattle.sb_instance.specs.Asked.{ask_of}
use Rattle.sb_instance.specs.declared.waiting.Waiting.{Waiting}

-- what waits in the queue, in the order in which it is taken
abbrev pub in_line : List Entry → Bytes → List Item
in_line log q = in_order (item_before log) (candidates log [] 0 q filters.All)

-- the same, as RECEIVE gives it
abbrev pub line : List Entry → Bytes → List ReceivedItem
line log q = map (given_item (ask_of log)) (in_line log q)

-- what is noted of a queue is so: it is on, and these wait in it
pub record IsWaiting (log : List Entry) (w : Waiting) : Type 0 where
  pub on : queue_is_on log w.queue ≡ true
  pub rest : w.rest.items ≡ line log w.queue

-- the operations take no item
abbrev pub TakesNone : List Op → Type 0
TakesNone ops = flat_map taken_by ops ≡ []
