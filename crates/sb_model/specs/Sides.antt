-- Sides of conversations, the instances at home with them, and how a log makes them.
use Rattle.std.specs.Prelude.{ℕ, Bool, true, false, not, ◌&&◌, ◌==◌, ◌/◌, ◌^◌, if◌then◌else◌, List, nat_eq, [], ◌∷◌, Option, Some, None, flat_map, find, option_map}
use Rattle.std.specs.List.{list_any}
use Rattle.std.specs.Bool.{beq}
use Rattle.std.specs.Cmp.Lexicographic.{pointwise}
use Rattle.sb_log.specs.declared.identifiers.Handle.{Handle}
use Rattle.sb_log.specs.declared.identifiers.SideId.{SideId}
use Rattle.sb_log.specs.declared.identifiers.Who.{Who}
use Rattle.sb_log.specs.declared.identifiers.Who.TheVariants.{A, B}
use Rattle.std.specs.Option.{option_or}
use Rattle.sb_log.specs.declared.entries.Entry.{Entry}
use Rattle.sb_log.specs.declared.entries.Entry.TheVariants.{Txn, Accepted}
use Rattle.sb_log.specs.declared.entries.Op.{Op}
use Rattle.sb_log.specs.declared.entries.Op.TheVariants.{Begin}
use Rattle.sb_log.specs.declared.entries.NewSide.{NewSide}
use Rattle.sb_log.specs.declared.messages.Header.{Header}

-- a name or a text, by its bytes
abbrev pub Bytes : Type 0
Bytes = List ℕ

abbrev pub same_name : Bytes → Bytes → Bool
same_name = pointwise nat_eq

abbrev pub id : ℕ → Handle
id n = record { 0 = n }

abbrev pub same_id : Handle → Handle → Bool
same_id a b = a.0 == b.0

abbrev pub same_side : SideId → SideId → Bool
same_side a b = same_id a.conversation b.conversation && beq a.initiator b.initiator

-- the other end of the conversation
abbrev pub partner : SideId → SideId
partner s = record { conversation = s.conversation; initiator = not s.initiator }

abbrev pub same_who : Who → Who → Bool
same_who A A = true
same_who B B = true
same_who A B = false
same_who B A = false

abbrev pub other : Who → Who
other A = B
other B = A

-- the high half of the instance's handles
abbrev pub tag : Who → ℕ
tag A = 0xa000000000000000
tag B = 0xb000000000000000

abbrev pub tag_of : Handle → ℕ
tag_of handle = handle.0 / 2 ^ 64

-- the instance whose tag the conversation bears
abbrev pub is_home : Who → Handle → Bool
is_home x conversation = tag_of conversation == tag x

-- the operations of an entry
abbrev pub ops_of_entry : Entry → List Op
ops_of_entry (Txn tx ops) = ops
ops_of_entry _ = []

-- the operations of all transactions
abbrev pub ops_of : List Entry → List Op
ops_of log = flat_map ops_of_entry log

-- a side that an entry makes
pub record Making : Type 0 where
  pub side : SideId
  pub handle : Handle
  pub group : Handle
  pub header : Header

abbrev pub made_by_op : Op → List Making
made_by_op (Begin handle group header) =
    record { side = record { conversation = handle; initiator = true }; handle = handle; group = group; header = header } ∷ []
made_by_op _ = []

abbrev pub making : SideId → NewSide → Making
making side made = record { side = side; handle = made.handle; group = made.group; header = made.header }

abbrev pub made_by : Entry → List Making
made_by (Txn tx ops) = flat_map made_by_op ops
made_by (Accepted side number (Some made) content) = making side made ∷ []
made_by _ = []

-- each making, the first of a side and later ones
abbrev pub makings : List Entry → List Making
makings log = flat_map made_by log

abbrev pub is_of : SideId → Making → Bool
is_of s m = same_side m.side s

-- the making of the side that counts, the first
abbrev pub made : List Entry → SideId → Option Making
made [] s = None
made (e ∷ log) s = option_or (find (is_of s) (made_by e)) (made log s)

abbrev pub has_side : List Entry → SideId → Bool
has_side log s = list_any (is_of s) (makings log)

-- the first making of each side
abbrev pub firsts_after : List SideId → List Making → List Making
firsts_after seen [] = []
firsts_after seen (m ∷ ms) =
    if list_any (same_side m.side) seen then firsts_after seen ms else m ∷ firsts_after (m.side ∷ seen) ms

-- the sides in the order in which the log makes them
abbrev pub sides : List Entry → List Making
sides log = firsts_after [] (makings log)

-- the first side with this handle
abbrev pub side_of : List Entry → Handle → Option SideId
side_of log handle = option_map (λ m. m.side) (find (λ m. same_id m.handle handle) (sides log))

-- the entries before the one that makes the side
abbrev pub before_made : List Entry → SideId → List Entry
before_made [] s = []
before_made (e ∷ log) s = if list_any (is_of s) (made_by e) then [] else e ∷ before_made log s

abbrev pub target_of : SideId → SideId
target_of s = record { conversation = s.conversation; initiator = false }

-- a conversation is split where both logs have its target
abbrev pub is_split : List Entry → List Entry → SideId → Bool
is_split log_a log_b s = has_side log_a (target_of s) && has_side log_b (target_of s)
