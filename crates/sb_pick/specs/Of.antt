-- What waits against a log that says so.
use Rattle.std.specs.Prelude.{◌≡◌, ◌+◌, ℕ, true, IsSome, IsTrue, List, [], Option, None, Some, All, filter, length, map, unwrap_or}
use Rattle.std.specs.Option.{option_map_or}
use Rattle.sb_log.specs.declared.entries.Entry.{Entry}
use Rattle.sb_log.specs.declared.identifiers.Handle.{Handle}
use Rattle.sb_log.specs.declared.identifiers.SideId.{SideId}
use Rattle.sb_log.specs.declared.messages.Item.{Item}
use Rattle.sb_log.specs.declared.seen.Picked.{Picked}
use Rattle.sb_model.specs.Groups.{group_of, level_of}
use Rattle.sb_model.specs.Items.{item_of, items, queue_of, waiting}
use Rattle.sb_model.specs.Pick.{Pick}
use Rattle.sb_model.specs.Sides.{Bytes, Making, made, ops_of_entry, same_id, same_side}
use Rattle.sb_model.specs.Transactions.{OpenTransaction, is_free}
use Rattle.sb_pick.specs.Picked.{is_free_for, stands_in}
use Rattle.sb_pick.specs.Waiting.{Waiting, is_known, waiting_of}

abbrev pub handle_of : List Entry → SideId → Handle
handle_of log s = option_map_or (λ m. m.handle) (made log s) s.conversation

-- an item in its queue, with its side's handle, group and level as the log has them
abbrev pub placed : List Entry → Bytes → Item → Waiting
placed log q item =
    waiting_of item (handle_of log item.side) q (unwrap_or (group_of log item.side) item.side.conversation) (level_of log item.side)

-- in each known queue wait the items that the log says, nothing waits elsewhere, and each item's side has a queue
pub record IsOf (log : List Entry) (queues : List Bytes) (ws : List Waiting) : Type 0 where
  pub waiting : (q : Bytes) → IsTrue (is_known queues q) → filter (stands_in q) ws ≡ map (placed log q) (waiting log q)
  pub known : All (λ w. IsTrue (is_known queues w.queue)) ws
  pub in_queue : All (λ item. IsSome (queue_of log item.side)) (items log)

-- the entry is no transaction, or does nothing
abbrev pub HasNoOperations : Entry → Type 0
HasNoOperations e = ops_of_entry e ≡ []

-- the item that an entry behind the log brings
abbrev pub brings : List Entry → Entry → Option Item
brings log e = item_of (1 + length (items log)) e

-- two sides that are made with one handle are one
abbrev pub HandlesDiffer : List Entry → Type 0
HandlesDiffer log = (s t : SideId) (m n : Making) → made log s ≡ Some m → made log t ≡ Some n → same_id m.handle n.handle ≡ true → same_side s t ≡ true

-- the locks are held as the open transactions list them
abbrev pub HoldsAs : List OpenTransaction → ℕ → (Handle → Option ℕ) → Type 0
HoldsAs u tx holder = (g : Handle) → is_free_for tx (holder g) ≡ is_free u g tx

-- a pick by the numbers of its items
abbrev pub numbered : Option Pick → Picked
numbered None = record { group = None; items = [] }
numbered (Some pick) = record { group = Some pick.group; items = map (λ item. item.number) pick.items }
