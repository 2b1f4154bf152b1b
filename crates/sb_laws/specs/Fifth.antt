-- The fifth rollback that received from a queue turns it off.
use Rattle.std.specs.Prelude.{◌≡◌, ℕ, true, ◌==◌, ◌&&◌, ◌+◌, Option, Some, option_and_then}
use Rattle.std.specs.List.{list_any}
use Rattle.sb_log.specs.declared.identifiers.Who.{Who}
use Rattle.sb_log.specs.declared.steps.Step.{Step}
use Rattle.sb_model.specs.Sides.{Bytes}
use Rattle.sb_model.specs.Catalog.{queue_is_on}
use Rattle.sb_model.specs.Transactions.{OpenTransaction, find_open}
use Rattle.sb_model.specs.Poison.{rolls_back, rolled_back_by, added_to, turns_off_queue, has_poison_handling}
use Rattle.sb_model.specs.Rollbacks.{has_room}
use Rattle.sb_model.specs.Steps.{World, part}
use Rattle.sb_model.specs.Histories.{outcome}

-- the transaction that the step's answer shows as rolled back
abbrev pub rolled_transaction : World → Who → Step → Option OpenTransaction
rolled_transaction w x s = option_and_then (find_open (part w x).open_txns) (rolled_back_by s.answer)

-- after n rollbacks in a row a rollback turns the queue off exactly where it makes them five, the queue is on and the journal has room
abbrev pub TurnsOffAtFive : World → Who → Step → Bytes → ℕ → Type 0
TurnsOffAtFive w x s q n =
    (o : OpenTransaction) → rolled_transaction w x s ≡ Some o → rolls_back q x w s ≡ true → has_poison_handling (part w x).log q ≡ true
    → list_any (turns_off_queue q) (added_to x (outcome w s)) ≡ (has_room (part w x) o && (n + 1 == 5) && queue_is_on (part w x).log q)
