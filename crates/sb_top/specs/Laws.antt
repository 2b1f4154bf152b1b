-- What follows for a whole history.
use Rattle.std.specs.Prelude.{◌≡◌, ⊤, ℕ, IsTrue, ℤ, nat_abs, List, [], ◌∷◌, ◌++◌, take, map, Option, Some, None, option_map}
use Rattle.sb_log.specs.declared.entries.Entry.{Entry}
use Rattle.sb_log.specs.declared.identifiers.Actor.{Actor}
use Rattle.sb_log.specs.declared.identifiers.Actor.TheVariants as actor
use Rattle.sb_log.specs.declared.identifiers.SideId.{SideId}
use Rattle.sb_log.specs.declared.identifiers.Who.{Who}
use Rattle.sb_log.specs.declared.identifiers.Who.TheVariants.{A}
use Rattle.sb_log.specs.declared.messages.ReceivedItem.{ReceivedItem}
use Rattle.sb_log.specs.declared.requests.Filter.{Filter}
use Rattle.sb_log.specs.declared.requests.Reply.{Reply}
use Rattle.sb_log.specs.declared.requests.Reply.TheVariants as reply
use Rattle.sb_log.specs.declared.requests.Request.TheVariants as request
use Rattle.sb_log.specs.declared.steps.Answer.{Answer}
use Rattle.sb_log.specs.declared.steps.Answer.TheVariants as answer
use Rattle.sb_log.specs.declared.steps.Event.{Event}
use Rattle.sb_log.specs.declared.steps.Event.TheVariants as event
use Rattle.sb_log.specs.declared.steps.Step.{Step}
use Rattle.sb_model.specs.Histories.{after, kept, next}
use Rattle.sb_model.specs.Instance.{Part}
use Rattle.sb_model.specs.Links.{ReceivesInOrder}
use Rattle.sb_model.specs.Pick.{Pick, pick}
use Rattle.sb_model.specs.Replies.{took}
use Rattle.sb_model.specs.Sides.{Bytes, has_side}
use Rattle.sb_model.specs.Statements.{txn_entries}
use Rattle.sb_model.specs.Steps.{World}

-- after each number of steps, what each side of A received begins what its partner sent
abbrev pub DeliversThroughout : World → List Step → Type 0
DeliversThroughout w history =
    (n : ℕ) (s : SideId) → IsTrue (has_side (kept (after w (take n history)) A) s)
    → ReceivesInOrder (kept (after w (take n history)) A) (kept (after w (take n history)) A) s

-- what RECEIVE picks outside a transaction
abbrev pub picked : Part → Bytes → Option ℤ → Filter → Option Pick
picked p queue top filter_by = pick p.log p.open_txns p.next_tx queue (option_map nat_abs top) filter_by

-- a RECEIVE gives no row where nothing is picked, and adds no entry; else it gives the picked items, and its entry takes them
abbrev pub GivesPick : Part → List Entry → Bytes → Option Pick → Reply → Type 0
GivesPick p later queue None given = (given ≡ reply.Received []) × (later ≡ p.log)
GivesPick p later queue (Some k) given =
    (items : List ReceivedItem) × (given ≡ reply.Received items) × (items ≡ [] → ⊥) × (map (λ r. r.item) items ≡ k.items)
    × (later ≡ p.log ++ txn_entries p.next_tx (map (took queue) k.items))

-- a RECEIVE of a session of A that isn't refused
abbrev pub GivesPickAt : World → World → Who → Event → Answer → Type 0
GivesPickAt w later A (event.Asked (request.Receive queue top filter_by)) (answer.Replied given) =
    GivesPick w.a later.a.log queue (picked w.a queue top filter_by) given
GivesPickAt w later x ev given = ⊤

abbrev pub GivesPickBy : World → World → Actor → Event → Answer → Type 0
GivesPickBy w later (actor.Session s) ev given = GivesPickAt w later s.instance ev given
GivesPickBy w later who ev given = ⊤

-- so it is at each RECEIVE
abbrev pub PicksThroughout : World → List Step → Type 0
PicksThroughout w [] = ⊤
PicksThroughout w (s ∷ steps) = GivesPickBy w (next w s) s.who s.event s.answer × PicksThroughout (next w s) steps
