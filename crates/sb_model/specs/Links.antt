-- How two logs and the wire between them fit together, and what is received.
use Rattle.std.specs.Prelude.{◌+◌, filter_map, ◌-◌, ◌⊎◌, ⊤, nat_le, ℕ, Bool, true, false, not, ◌==◌, ◌≡◌, ◌≤◌, List, [], ◌∷◌, Some, None, map, filter, slice_get, IsTrue, MatchBool}
use Rattle.sb_model.specs.Sides.{other, same_side, partner, Making, makings, made, has_side, ops_of, is_home}
use Rattle.sb_model.specs.Messages.{sends, accepted, contents_accepted, acks, is_closed, numbered}
use Rattle.sb_model.specs.Items.{item_at, message_of, receives, items, taken}
use Rattle.std.specs.List.{list_any, AllByRecursion}
use Rattle.sb_log.specs.declared.identifiers.SideId.{SideId}
use Rattle.sb_log.specs.declared.identifiers.Who.{Who}
use Rattle.sb_log.specs.declared.identifiers.Who.TheVariants.{A, B}
use Rattle.sb_log.specs.declared.entries.Entry.{Entry}
use Rattle.sb_log.specs.declared.entries.Op.{Op}
use Rattle.sb_log.specs.declared.messages.Item.{Item}
use Rattle.sb_log.specs.declared.messages.Data.{Data}
use Rattle.sb_log.specs.declared.messages.Frame.{Frame}
use Rattle.sb_log.specs.declared.messages.Content.{Content}
use Rattle.sb_log.specs.declared.entries.Entry.TheVariants.{Accepted}
use Rattle.sb_log.specs.declared.entries.Op.TheVariants.{Begin, Send, End, Cleanup}
use Rattle.sb_model.specs.Acceptance.{instance_id}
use Rattle.sb_model.specs.Frames.{sent_header}
use Rattle.sb_model.specs.Wire.{Wired}
use Rattle.sb_model.specs.Steps.{World}
use Rattle.sb_model.specs.Survival.{IsPrefixOf, Survives}
use Rattle.sb_model.specs.Histories.{kept, at_most}
use Rattle.sb_log.specs.declared.messages.Frame.TheVariants as frame

-- the logs of both instances
abbrev pub Logs : Type 0
Logs = Who → List Entry

-- a begin bears the instance's tag
abbrev pub BeginsHere : Who → Op → Type 0
BeginsHere x (Begin handle group header) = IsTrue (is_home x handle)
BeginsHere x _ = ⊤

abbrev pub MakesTarget : Entry → Type 0
MakesTarget (Accepted side number (Some m) content) = side.initiator ≡ false
MakesTarget _ = ⊤

-- no operation of these sends on the side
abbrev pub sends_on : SideId → Op → Bool
sends_on s (Send side kind body) = same_side side s
sends_on s _ = false

abbrev pub SilentAfter : Op → List Op → Type 0
SilentAfter (End side last) later = IsTrue (not (list_any (sends_on side) later))
SilentAfter (Cleanup side) later = IsTrue (not (list_any (sends_on side) later))
SilentAfter _ later = ⊤

-- no Send of a side stands after an End or Cleanup of it
abbrev pub EndsForGood : List Op → Type 0
EndsForGood [] = ⊤
EndsForGood (op ∷ ops) = SilentAfter op ops × EndsForGood ops

pub record IsSound (x : Who) (log : List Entry) : Type 0 where
  pub own_tags : AllByRecursion (BeginsHere x) (ops_of log)
  pub targets : AllByRecursion MakesTarget log
  pub ended : EndsForGood (ops_of log)

-- a Begin of the conversation has the header
pub record IsBegun (logs : Logs) (x : Who) (m : Making) : Type 0 where
  pub home : Who
  pub is_there : IsTrue (is_home home m.side.conversation)
  pub begun : Making
  pub from_log : made (logs home) (partner m.side) ≡ Some begun
  pub same : begun.header ≡ m.header
  pub for_here : (m.header.to ≡ None) ⊎ (m.header.to ≡ Some (instance_id x))

abbrev pub TargetIsBegun : Logs → Who → Making → Type 0
TargetIsBegun logs x m = m.side.initiator ≡ false → IsBegun logs x m

-- an instance that has the side
abbrev pub HasSide : Logs → Who → SideId → Type 0
HasSide logs y s = IsTrue (has_side (logs y) s)

pub record IsSent (logs : Logs) (x : Who) (d : Data) : Type 0 where
  pub making : Making
  pub from_log : made (logs x) d.side ≡ Some making
  pub turned : d.header ≡ sent_header x making
  pub place : slice_get (numbered (logs x) d.side) (d.number - 1) ≡ Some d.content
  pub numbered_from_1 : 1 ≤ d.number

-- what Y acknowledges of the side s is what it accepted
pub record IsAcked (logs : Logs) (y : Who) (s : SideId) (upto : ℕ) (closed : Bool) : Type 0 where
  pub there : HasSide logs y (partner s)
  pub upto_accepted : upto ≤ accepted (logs y) (partner s)
  pub closed_there : closed ≡ true → IsTrue (is_closed (logs y) (partner s))

abbrev pub IsFrameOf : Logs → Who → Frame → Type 0
IsFrameOf logs x (frame.Data d) = IsSent logs x d
IsFrameOf logs x (frame.Ack k) = IsAcked logs x k.side k.upto k.closed

abbrev pub IsWired : Logs → Wired → Type 0
IsWired logs f = IsFrameOf logs f.from f.frame

-- where the messages to a side came from: home for a target, else an instance that has the target
abbrev pub IsFar : Logs → Who → SideId → Type 0
IsFar logs y s = MatchBool s.initiator (HasSide logs y (partner s)) (IsTrue (is_home y s.conversation))

-- the message c, accepted as number k + 1, is that of the partner
pub record CameFrom (logs : Logs) (s : SideId) (k : ℕ) (c : Content) : Type 0 where
  pub far : Who
  pub is_far : IsFar logs far s
  pub place : slice_get (numbered (logs far) (partner s)) k ≡ Some c

abbrev pub AcceptedFrom : Logs → Who → Type 0
AcceptedFrom logs x = (s : SideId) (k : ℕ) (c : Content) → slice_get (contents_accepted (logs x) s) k ≡ Some c → CameFrom logs s k c

abbrev pub AckIsFrom : Logs → SideId → ℕ × Bool → Type 0
AckIsFrom logs s ack = (y : Who) × IsAcked logs y s ack.0 ack.1

abbrev pub AckedFrom : Logs → Who → Type 0
AckedFrom logs x = (s : SideId) → AllByRecursion (AckIsFrom logs s) (acks (logs x) s)

abbrev pub numbers_of : SideId → List Item → List ℕ
numbers_of s its = map (λ item. item.number) (filter (λ item. same_side item.side s) its)

abbrev pub is_item_of : List Entry → SideId → ℕ → Bool
is_item_of log s n = list_any (λ m. m == n) (numbers_of s (items log))

-- the items that were taken are the first of the side's, in order and each once
abbrev pub TakenInOrder : List Entry → Type 0
TakenInOrder log = (s : SideId) → IsPrefixOf (filter (is_item_of log s) (taken log)) (numbers_of s (items log))

-- parts 1 to 6; that each log is well formed and fresh stands beside it
pub record Linked (logs : Logs) (wire : List Wired) : Type 0 where
  pub sound : (x : Who) → IsSound x (logs x)
  pub begun : (x : Who) → AllByRecursion (TargetIsBegun logs x) (makings (logs x))
  pub frames : AllByRecursion (IsWired logs) wire
  pub accepted_from : (x : Who) → AcceptedFrom logs x
  pub acked_from : (x : Who) → AckedFrom logs x
  pub taken_in_order : (x : Who) → TakenInOrder (logs x)

-- two logs as one function
abbrev pub both : List Entry → List Entry → Logs
both log_a log_b A = log_a
both log_a log_b B = log_b

-- the inductive form: Linked of whatever survives
abbrev pub StaysLinked : World → Type 0
StaysLinked w =
    (a b : List Entry) → Survives (at_most w A) (kept w A) a → Survives (at_most w B) (kept w B) b → Linked (both a b) w.wire

-- ---- what is received

-- what the partner received begins what the side sent: in order, each once, none skipped and none invented
abbrev pub ReceivesInOrder : List Entry → List Entry → SideId → Type 0
ReceivesInOrder lx ly s = IsPrefixOf (receives ly (partner s)) (sends lx s)

-- so it is for every side of both logs, but that the initiator of a split conversation has no single partner
abbrev pub DeliversInOrder : Logs → Type 0
DeliversInOrder logs =
    (x y : Who) (s : SideId) → HasSide logs x s → (s.initiator ≡ false → HasSide logs (other x) s → ⊥) → ReceivesInOrder (logs x) (logs y) s

-- the items that a side received, in the order of the operations that took them
abbrev pub items_received : List Entry → SideId → List Item
items_received log s = filter (λ item. same_side item.side s) (filter_map (item_at log) (taken log))

-- the numbers of a list are n, n + 1 and so on
abbrev pub CountsFrom : ℕ → List ℕ → Type 0
CountsFrom n [] = ⊤
CountsFrom n (m ∷ ms) = (m ≡ n) × CountsFrom (n + 1) ms

-- a message with the number k is place k of what the partner numbered on one of the instances; timers and lifetimes bear 0
abbrev pub IsPartners : Logs → SideId → Item → Type 0
IsPartners logs s item =
    (item.sequence ≡ 0)
    ⊎ ((y : Who) × (c : Content) × (slice_get (numbered (logs y) (partner s)) (item.sequence - 1) ≡ Some c) × (message_of c ≡ item.message))

-- the initiator of a split conversation receives the numbers 1, 2 and so on, each once, and each message is one of its partners'
pub record ReceivesInTurn (logs : Logs) (x : Who) (s : SideId) : Type 0 where
  pub counted : CountsFrom 1 (filter (λ n. nat_le 1 n) (map (λ item. item.sequence) (items_received (logs x) s)))
  pub partners : AllByRecursion (IsPartners logs s) (items_received (logs x) s)

-- so it is for every side
abbrev pub DeliversInTurn : Logs → Type 0
DeliversInTurn logs = (x : Who) (s : SideId) → HasSide logs x s → ReceivesInTurn logs x s
