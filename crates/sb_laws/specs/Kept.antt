-- Nothing is lost: of messages that were numbered, and of items.
use Rattle.std.specs.Prelude.{◌≡◌, ◌⊎◌, ◌||◌, not, IsTrue, List, ◌++◌, drop}
use Rattle.std.specs.List.{AllByRecursion}
use Rattle.sb_log.specs.declared.identifiers.SideId.{SideId}
use Rattle.sb_log.specs.declared.identifiers.Who.{Who}
use Rattle.sb_log.specs.declared.identifiers.Who.TheVariants.{A, B}
use Rattle.sb_log.specs.declared.entries.Entry.{Entry}
use Rattle.sb_log.specs.declared.messages.Content.{Content}
use Rattle.sb_log.specs.declared.messages.Item.{Item}
use Rattle.sb_model.specs.Sides.{Bytes, partner, is_split}
use Rattle.sb_model.specs.Messages.{accepted, numbered, outgoing, is_ended, is_cleaned, is_expired, is_closed_by_ack}
use Rattle.sb_model.specs.Items.{items, is_taken, waits_in}
use Rattle.sb_model.specs.Links.{Logs, HasSide}

-- a list that ends another
abbrev pub IsEndOf : {A : Type 0} → List A → List A → Type 0
IsEndOf {A} xs ys = (front : List A) × (front ++ xs ≡ ys)

-- the messages that the side numbered, past those that the partner accepted
abbrev pub unaccepted : List Entry → List Entry → SideId → List Content
unaccepted lx ly s = drop (accepted ly (partner s)) (numbered lx s)

-- they are still to be sent, unless the side was cleaned or expired, or was told that the partner closed
abbrev pub IsStillSent : List Entry → List Entry → SideId → Type 0
IsStillSent lx ly s = IsTrue (is_cleaned lx s || is_expired lx s || is_closed_by_ack lx s) ⊎ IsEndOf (unaccepted lx ly s) (outgoing lx s)

-- so it is for each side of a conversation that isn't split, y having its partner, or either where no log has it
abbrev pub KeepsOutgoing : Logs → Type 0
KeepsOutgoing logs =
    (x y : Who) (s : SideId) → HasSide logs x s → IsTrue (not (is_split (logs A) (logs B) s)) → HasSide logs y (partner s) ⊎ ((z : Who) → HasSide logs z (partner s) → ⊥)
    → IsStillSent (logs x) (logs y) s

-- an item is taken, or of a side that was ended or cleaned, or it waits in a queue
abbrev pub IsThere : List Entry → Item → Type 0
IsThere log item = IsTrue (is_taken log item.number || is_ended log item.side || is_cleaned log item.side) ⊎ ((q : Bytes) × IsTrue (waits_in log q item))

abbrev pub KeepsItems : List Entry → Type 0
KeepsItems log = AllByRecursion (IsThere log) (items log)
