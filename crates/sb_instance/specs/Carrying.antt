-- What is known of a side while its messages are handed over one after the other.
use Rattle.std.specs.Prelude.{◌≡◌, suc, Bool, true, if◌then◌else◌, List, Some, drop}
use Rattle.sb_log.specs.declared.entries.Entry.{Entry}
use Rattle.sb_log.specs.declared.identifiers.Who.{Who}
use Rattle.sb_log.specs.declared.messages.Content.{Content}
use Rattle.sb_log.specs.declared.messages.Data.{Data}
use Rattle.sb_log.specs.declared.steps.Verdict.{Verdict}
use Rattle.sb_log.specs.declared.steps.Verdict.TheVariants.{Next, NotHere}
use Rattle.sb_model.specs.Sides.{Making, has_side, made, partner, same_who}
use Rattle.sb_model.specs.Messages.{numbered}
use Rattle.sb_model.specs.Frames.{destination, sent_header}
use Rattle.sb_model.specs.Acceptance.{is_type_refused, verdict}
use Rattle.sb_instance.specs.declared.carrying.Carrying.{Carrying}

-- what is noted of a message's side: its contract and its messages behind this one
pub record IsBehind (log : List Entry) (d : Data) (c : Carrying) : Type 0 where
  pub side : c.side ≡ d.side
  pub number : c.number ≡ d.number
  pub contract : c.contract ≡ d.header.contract
  pub rest : c.rest.items ≡ drop d.number (numbered log d.side)

-- a message as its side sends it next
abbrev pub next_message : Who → Making → Carrying → Content → Data
next_message who m c content = record { side = c.side; number = suc c.number; header = sent_header who m; content = content }

-- Next, unless its type is refused
abbrev pub next_unless : Bool → Verdict
next_unless refused = if refused then NotHere 6 else Next

-- what is noted of a side is so: its partner is there on the same instance, and takes the next message in unless its type is refused
pub record IsCarried (who : Who) (log : List Entry) (c : Carrying) : Type 0 where
  pub making : Making
  pub from : made log c.side ≡ Some making
  pub here : same_who (destination who log making) who ≡ true
  pub contract : c.contract ≡ (sent_header who making).contract
  pub rest : c.rest.items ≡ drop c.number (numbered log c.side)
  pub there : has_side log (partner c.side) ≡ true
  pub next : (content : Content) → verdict who log (next_message who making c content) ≡ next_unless (is_type_refused log c.side c.contract content)
