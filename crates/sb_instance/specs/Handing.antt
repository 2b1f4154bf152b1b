-- Handing a message to its partner's side on the same instance.
use Rattle.std.specs.Prelude.{◌≡◌, ◌++◌, ◌+◌, ◌%◌, ◌^◌, ℕ, zero, suc, if◌then◌else◌, List, [], ◌∷◌, Option, Some, None, length, option_and_then, option_map, slice_get}
use Rattle.sb_log.specs.declared.entries.Entry.{Entry}
use Rattle.sb_log.specs.declared.entries.NewSide.{NewSide}
use Rattle.sb_log.specs.declared.identifiers.Handle.{Handle}
use Rattle.sb_log.specs.declared.identifiers.SideId.{SideId}
use Rattle.sb_log.specs.declared.identifiers.Who.{Who}
use Rattle.sb_log.specs.declared.messages.Data.{Data}
use Rattle.sb_log.specs.declared.messages.Header.{Header}
use Rattle.sb_log.specs.declared.steps.Verdict.{Verdict}
use Rattle.sb_log.specs.declared.steps.Verdict.TheVariants.{New, Next}
use Rattle.sb_model.specs.Sides.{Making, made, partner, same_who}
use Rattle.sb_model.specs.Messages.{accepted, numbered}
use Rattle.sb_model.specs.Frames.{destination, sent_header}
use Rattle.sb_model.specs.Acceptance.{instance_id, makes_side, verdict}
use Rattle.sb_model.specs.Instance.{Part, Works}
use Rattle.sb_model.specs.Steps.{accept_data, data_entry, verdict_told}
use Rattle.sb_instance.specs.Running.{IsDone}
use Rattle.sb_instance.specs.declared.handing.Pending.{Pending}

-- a side whose partner is on the same instance, what it numbered and what its partner accepted
abbrev pub pending_in : Who → List Entry → Making → List Pending
pending_in who log m =
    if same_who (destination who log m) who
    then record { side = m.side; numbered = length (numbered log m.side); accepted = accepted log (partner m.side) } ∷ []
    else []

abbrev pub pending_by : Part → Making → List Pending
pending_by p m = pending_in p.who p.log m

-- the header with its ends exchanged
abbrev pub turned : Who → Header → Header
turned who h = record {
  from_service = h.to_service;
  to_service = h.from_service;
  contract = h.contract;
  from = instance_id who;
  to = Some h.from;
  expires = h.expires;
}

-- a message as its side sends it, numbered from 1
abbrev pub carried_for : Who → List Entry → SideId → ℕ → Making → Option Data
carried_for who log s k m =
    if same_who (destination who log m) who
    then option_map (λ c. record { side = m.side; number = suc k; header = sent_header who m; content = c }) (slice_get (numbered log s) k)
    else None

-- the message of the side with this number, where its partner is on the same instance
abbrev pub carried : Who → List Entry → SideId → ℕ → Option Data
carried who log s zero = None
carried who log s (suc k) = option_and_then (carried_for who log s k) (made log s)

-- what a message makes where its side isn't there yet
abbrev pub new_made : List Entry → Data → Handle → Handle → Option NewSide
new_made log d handle group =
    if makes_side log d then Some (record { handle = handle; group = group; header = d.header }) else None

-- the message is answered by the table of acceptance, and the instance is left as its row says
abbrev pub Accepts : Part → Data → Verdict → Part → Type 0
Accepts before d v after =
    (v ≡ verdict before.who before.log d) × IsDone (accept_data Works before before d v) (verdict_told v) after

abbrev pub HandsOver : Part → Option Data → Verdict → Part → Type 0
HandsOver before None v after = ⊥
HandsOver before (Some d) v after = Accepts before d v after

-- the instance after it took a message in
abbrev pub taken_in : Part → Data → Verdict → Part
taken_in p d New = record p { log = p.log ++ data_entry p d ∷ []; next_handle = (p.next_handle + 2) % 2 ^ 64 }
taken_in p d Next = record p { log = p.log ++ data_entry p d ∷ [] }
taken_in p d v = p
