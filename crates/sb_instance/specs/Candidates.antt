-- The waiting items with what their sides have, in the order in which they are taken.
use Rattle.std.specs.Prelude.{ℕ, Bool, true, not, ◌&&◌, ◌||◌, ◌==◌, ◌≡◌, ◌<◌, false, nat_lt, slice_index_or, List, [], Option, None, Some, length, map, is_some, unwrap_or}
use Rattle.std.specs.Option.{option_eq, option_map_or}
use Rattle.std.specs.List.{list_any}
use Rattle.sb_log.specs.declared.identifiers.Handle.{Handle}
use Rattle.sb_log.specs.declared.identifiers.SideId.{SideId}
use Rattle.sb_log.specs.declared.entries.Entry.{Entry}
use Rattle.sb_log.specs.declared.entries.Op.{Op}
use Rattle.sb_log.specs.declared.entries.Op.TheVariants.{Took}
use Rattle.sb_log.specs.declared.messages.Item.{Item}
use Rattle.sb_log.specs.declared.messages.ReceivedItem.{ReceivedItem}
use Rattle.sb_log.specs.declared.requests.Filter.{Filter}
use Rattle.sb_log.specs.declared.requests.Filter.TheVariants as filters
use Rattle.sb_model.specs.Sides.{Bytes, same_name, same_side, same_id, made, side_of}
use Rattle.sb_model.specs.Items.{queue_of}
use Rattle.sb_model.specs.Messages.{is_ended, is_cleaned}
use Rattle.sb_model.specs.Groups.{group_of, level_of}
use Rattle.sb_model.specs.Pick.{Pick}
use Rattle.sb_model.specs.Replies.{given_item}
use Rattle.sb_scan.specs.Shown.{item_seen}
use Rattle.sb_instance.specs.Asked.{ask_of}
use Rattle.sb_instance.specs.declared.facts.Facts.{Facts}
use Rattle.sb_instance.specs.declared.candidates.Candidate.{Candidate}

-- an item with its side's handle, group and level
pub record Placed : Type 0 where
  pub item : Item
  pub handle : Handle
  pub group : Option Handle
  pub level : ℕ

abbrev pub handle_of : List Entry → SideId → Handle
handle_of log s = option_map_or (λ m. m.handle) (made log s) s.conversation

abbrev pub placed : List Entry → Item → Placed
placed log item = record { item = item; handle = handle_of log item.side; group = group_of log item.side; level = level_of log item.side }

abbrev pub placed_seen : Candidate → Placed
placed_seen c = record { item = item_seen c.item; handle = c.handle; group = c.group; level = c.level }

-- the filter admits the items of the side
abbrev pub passes_side : List Entry → Filter → SideId → Bool
passes_side log filters.All s = true
passes_side log (filters.Side handle) s = option_eq same_side (side_of log handle) (Some s)
passes_side log (filters.Group g) s = option_eq same_id (group_of log s) (Some g)

abbrev pub named_side : List Entry → Filter → Option SideId
named_side log (filters.Side handle) = side_of log handle
named_side log _ = None

-- items of the side that nobody took are candidates
abbrev pub is_admitted : List Entry → Bytes → Filter → SideId → Bool
is_admitted log q filter_by s =
    option_eq same_name (queue_of log s) (Some q) && not (is_ended log s) && not (is_cleaned log s) && passes_side log filter_by s
    && is_some (group_of log s)

abbrev pub facts_of : List Entry → Bytes → Filter → SideId → Facts
facts_of log q filter_by s = record {
  side = s;
  is_admitted = is_admitted log q filter_by s;
  handle = handle_of log s;
  group = group_of log s;
  level = level_of log s;
}

-- the marks tell which numbers were taken
abbrev pub AreMarks : List ℕ → List Bool → Type 0
AreMarks taken marks = (n : ℕ) → n < length marks → slice_index_or marks n false ≡ list_any (λ m. m == n) taken

-- by level, high first, then by number
abbrev pub placed_before : Placed → Placed → Bool
placed_before a b = nat_lt b.level a.level || ((a.level == b.level) && nat_lt a.item.number b.item.number)

abbrev pub given : Placed → ReceivedItem
given p = record { handle = p.handle; group = unwrap_or p.group p.item.side.conversation; item = p.item }

-- the items that a pick gives
abbrev pub given_by : List Entry → Option Pick → List ReceivedItem
given_by log None = []
given_by log (Some p) = map (given_item (ask_of log)) p.items

abbrev pub takes : Bytes → ReceivedItem → Op
takes q r = Took q r.item.number
