-- How often in a row a queue was received from and rolled back, as a history shows it.
use Rattle.std.specs.Prelude.{ℕ, Bool, false, not, ◌&&◌, ◌||◌, ◌==◌, ◌+◌, if◌then◌else◌, List, [], ◌∷◌, Option, Some, None, flat_map, option_and_then}
use Rattle.std.specs.Option.{option_eq, option_map_or}
use Rattle.std.specs.List.{list_any}
use Rattle.sb_log.specs.declared.identifiers.Who.{Who}
use Rattle.sb_log.specs.declared.identifiers.Actor.{Actor}
use Rattle.sb_log.specs.declared.identifiers.Actor.TheVariants as actor
use Rattle.sb_log.specs.declared.entries.Entry.{Entry}
use Rattle.sb_log.specs.declared.entries.Entry.TheVariants.{Txn, QueueSet}
use Rattle.sb_log.specs.declared.requests.Reply.TheVariants as reply
use Rattle.sb_log.specs.declared.steps.Answer.{Answer}
use Rattle.sb_log.specs.declared.steps.Answer.TheVariants as answer
use Rattle.sb_log.specs.declared.steps.Event.{Event}
use Rattle.sb_log.specs.declared.steps.Event.TheVariants as event
use Rattle.sb_log.specs.declared.steps.Step.{Step}
use Rattle.sb_model.specs.Sides.{Bytes, same_name, same_who}
use Rattle.sb_model.specs.Catalog.{find_queue, queue_is_on}
use Rattle.sb_model.specs.Transactions.{OpenTransaction, find_open}
use Rattle.sb_model.specs.Instance.{has_name, queue_taken}
use Rattle.sb_model.specs.Steps.{World, Stepped, part}
use Rattle.sb_model.specs.Histories.{outcome, next}

abbrev pub instance_of : Actor → Option Who
instance_of (actor.Session s) = Some s.instance
instance_of (actor.Reader x n) = Some x
instance_of actor.World = None

-- the transaction that an answer shows as rolled back, alone or with a reader's refusal; a crash or a failed disk shows none
abbrev pub rolled_back_by : Answer → Option ℕ
rolled_back_by (answer.Replied (reply.RolledBack tx off)) = Some tx
rolled_back_by (answer.Refused r (Some (reply.RolledBack tx off))) = Some tx
rolled_back_by _ = None

abbrev pub received_from : Bytes → OpenTransaction → Bool
received_from q o = has_name (flat_map queue_taken o.ops) q

-- the step rolled back a transaction that received from the queue
abbrev pub rolls_back : Bytes → Who → World → Step → Bool
rolls_back q x w s =
    option_eq same_who (instance_of s.who) (Some x)
    && option_map_or (received_from q) (option_and_then (find_open (part w x).open_txns) (rolled_back_by s.answer)) false

-- what a step added to the instance's log
abbrev pub added_to : Who → Option Stepped → List Entry
added_to x None = []
added_to x (Some r) = if same_who r.on x then r.added else []

-- a commit that received from the queue, or a turning on of it
abbrev pub ends_count : Bytes → Entry → Bool
ends_count q (Txn tx ops) = has_name (flat_map queue_taken ops) q
ends_count q (QueueSet queue on) = same_name queue q && on
ends_count q _ = false

abbrev pub turns_off_queue : Bytes → Entry → Bool
turns_off_queue q (QueueSet queue on) = same_name queue q && not on
turns_off_queue q _ = false

-- an opening of the instance
abbrev pub opens : Who → Event → Answer → Bool
opens x (event.Open y) (answer.Entries n) = same_who x y
opens x _ _ = false

abbrev pub has_poison_handling : List Entry → Bytes → Bool
has_poison_handling log q = option_map_or (λ def. def.poison) (find_queue log q) false

-- the fifth leaves a count of five where it turned the queue off or found it off; else the count begins anew
abbrev pub fifth_begins_anew : Bytes → Who → World → Option Stepped → Bool
fifth_begins_anew q x w r =
    not (has_poison_handling (part w x).log q)
    || (queue_is_on (part w x).log q && not (list_any (turns_off_queue q) (added_to x r)))

abbrev pub one_more : ℕ → Bool → ℕ
one_more n anew = if (n + 1 == 5) && anew then 0 else n + 1

-- the count after a step
abbrev pub count_after_step : Bytes → Who → World → Step → ℕ → ℕ
count_after_step q x w s n =
    if opens x s.event s.answer || list_any (ends_count q) (added_to x (outcome w s)) then 0
    else (if rolls_back q x w s then one_more n (fifth_begins_anew q x w (outcome w s)) else n)

abbrev pub rollbacks_after : Bytes → Who → World → ℕ → List Step → ℕ
rollbacks_after q x w n [] = n
rollbacks_after q x w n (s ∷ steps) = rollbacks_after q x (next w s) (count_after_step q x w s n) steps

-- the rolled-back transactions that received from the queue since the last commit that received from it,
-- the last opening, and the last turning on (poison message handling: the fifth disables the queue)
abbrev pub rollbacks_in_a_row : Bytes → Who → World → List Step → ℕ
rollbacks_in_a_row q x w steps = rollbacks_after q x w 0 steps
