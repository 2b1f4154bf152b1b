-- Conversation timers, lifetimes, and what is due.
use Rattle.std.specs.Prelude.{ℕ, Bool, false, not, ◌&&◌, ◌||◌, ◌==◌, ◌+◌, ◌*◌, nat_le, nat_lt, if◌then◌else◌, List, [], ◌∷◌, ◌++◌, Option, Some, None, flat_map, fold, option_map, unwrap_or}
use Rattle.sb_log.specs.declared.identifiers.SideId.{SideId}
use Rattle.sb_log.specs.declared.entries.Entry.{Entry}
use Rattle.sb_log.specs.declared.entries.Entry.TheVariants.{Txn, Fired}
use Rattle.sb_log.specs.declared.entries.Op.{Op}
use Rattle.sb_log.specs.declared.entries.Op.TheVariants.{Timer}
use Rattle.sb_log.specs.declared.steps.DueKind.{DueKind}
use Rattle.sb_model.specs.Sides.{same_side, same_id, Making, sides}
use Rattle.sb_model.specs.Messages.{is_ended, is_cleaned, is_expired}
use Rattle.sb_model.specs.Catalog.{queue_is_on}
use Rattle.sb_model.specs.Items.{queue_of}
use Rattle.sb_model.specs.Sorting.{in_order}
use Rattle.sb_log.specs.declared.steps.DueKind.TheVariants as kind

-- the timer after an operation
abbrev pub timer_after_op : SideId → Option ℕ → Op → Option ℕ
timer_after_op s timer (Timer side at) = if same_side side s then Some at else timer
timer_after_op s timer _ = timer

abbrev pub timer_after : SideId → Option ℕ → Entry → Option ℕ
timer_after s timer (Fired side) = if same_side side s then None else timer
timer_after s timer (Txn tx ops) = fold (timer_after_op s) timer ops
timer_after s timer _ = timer

-- the side's timer: its last, unless it fired since
abbrev pub timer_of : List Entry → SideId → Option ℕ
timer_of log s = fold (timer_after s) None log

-- something that is due: its moment, its side and which it is
pub record Due : Type 0 where
  pub at : ℕ
  pub side : SideId
  pub kind : DueKind

-- the side isn't ended or cleaned and its queue is on
abbrev pub may_be_due : List Entry → SideId → Bool
may_be_due log s =
    not (is_ended log s) && not (is_cleaned log s) && unwrap_or (option_map (queue_is_on log) (queue_of log s)) false

abbrev pub due_by : ℕ → SideId → DueKind → Option ℕ → List Due
due_by moment s k None = []
due_by moment s k (Some at) = if nat_le at moment then record { at = at; side = s; kind = k } ∷ [] else []

abbrev pub expiry : List Entry → Making → Option ℕ
expiry log m = if is_expired log m.side then None else Some (m.header.expires)

abbrev pub due_of : List Entry → ℕ → Making → List Due
due_of log moment m =
    if may_be_due log m.side
    then due_by moment m.side kind.Timer (timer_of log m.side) ++ due_by moment m.side kind.Lifetime (expiry log m)
    else []

abbrev pub kind_number : DueKind → ℕ
kind_number kind.Timer = 0
kind_number kind.Lifetime = 1

abbrev pub end_number : SideId → ℕ
end_number s = if s.initiator then 0 else 1

-- by moment, then side, then the timer_of before the lifetime
abbrev pub due_before : Due → Due → Bool
due_before a b =
    nat_lt a.at b.at || ((a.at == b.at) && (nat_lt a.side.conversation.0 b.side.conversation.0 || (same_id a.side.conversation b.side.conversation
    && nat_lt (2 * end_number a.side + kind_number a.kind) (2 * end_number b.side + kind_number b.kind))))

-- the timers and expiries that are due, in order
abbrev pub due : List Entry → ℕ → List Due
due log moment = in_order due_before (flat_map (due_of log moment) (sides log))
