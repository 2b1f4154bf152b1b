-- Messages and acknowledgements are answered by the log and by the facts of one side alike.
use Rattle.std.proofs.Common.{◌≡◌, ℕ, ◌+◌, Bool, true, false, List, refl, ap, length, ◌∙◌}
use Rattle.std.specs.Prelude.{not, ◌&&◌, ◌||◌, ◌==◌, nat_le, nat_lt, if◌then◌else◌, is_none}
use Rattle.sb_log.specs.declared.entries.Entry.{Entry}
use Rattle.sb_log.specs.declared.identifiers.Who.{Who}
use Rattle.sb_log.specs.declared.messages.Ack.{Ack}
use Rattle.sb_log.specs.declared.messages.Data.{Data}
use Rattle.sb_log.specs.declared.steps.Verdict.{Verdict}
use Rattle.sb_log.specs.declared.steps.Verdict.TheVariants.{New, Next, Repeat, Early, Gone, NotHere, AckNew, AckOld}
use Rattle.sb_model.specs.Sides.{has_side, same_id}
use Rattle.sb_model.specs.Catalog.{find_contract, find_service}
use Rattle.sb_model.specs.Messages.{acked, accepted, is_closed, is_closed_by_ack, numbered}
use Rattle.sb_model.specs.Acceptance.{ack_verdict, instance_id, is_for_other, is_type_refused, makes_side, offers, receiver, verdict}
use Rattle.sb_endpoint.specs.Acceptance.{ack_verdict_on, is_queue_on, missing_here, verdict_on}
use Rattle.sb_endpoint.specs.Endpoints.{endpoint_of}
use Rattle.sb_endpoint.specs.States.{is_made}
use Rattle.sb_endpoint.proofs.Judged.{made_by_facts, numbered_by_facts}

-- the end of the table, by what is missing
by_missing : (unserved on uncontracted untyped : Bool) (last : Verdict)
    → (if unserved then NotHere 3 else (if not on then NotHere 4 else (if uncontracted then NotHere 5 else (if untyped then NotHere 6 else last))))
    ≡ (let missing = if unserved then 3 else (if uncontracted then 5 else (if untyped then 6 else 0)) in
    if missing == 3 then NotHere 3 else (if not on then NotHere 4 else (if nat_lt 0 missing then NotHere missing else last)))
by_missing true on uncontracted untyped last = refl
by_missing false on true untyped last = refl
by_missing false on false true last = refl
by_missing false on false false last = refl

module _ (who : Who) (log : List Entry) (d : Data) where
  -- the rows before those of what is missing
  abbrev early_rows : Bool → Verdict → Verdict
  early_rows made rest =
      if is_for_other who d then NotHere 1
      else (if not made && (receiver d).initiator then NotHere 2
      else (if is_closed log (receiver d) then Gone
      else (if nat_le d.number (accepted log (receiver d)) then Repeat
      else (if nat_lt (accepted log (receiver d) + 1) d.number then Early else rest))))

  abbrev late_rows : Bool → Verdict
  late_rows made =
      if missing_here log d == 3 then NotHere 3
      else (if not (is_queue_on log d) then NotHere 4
      else (if nat_lt 0 (missing_here log d) then NotHere (missing_here log d)
      else (if not made then New else Next)))

  pub data_by_facts : verdict who log d ≡ verdict_on who d (endpoint_of log (receiver d)) (missing_here log d) (is_queue_on log d)
  data_by_facts =
      ap (early_rows (has_side log (receiver d)))
      (by_missing (makes_side log d && is_none (find_service log d.header.to_service)) (is_queue_on log d)
      (is_none (find_contract log d.header.contract) || (makes_side log d && not (offers log d)))
      (is_type_refused log d.side d.header.contract d.content) (if makes_side log d then New else Next))
      ∙ ap (λ made. early_rows made (late_rows made)) (made_by_facts log (receiver d))

module _ (who : Who) (log : List Entry) (k : Ack) where
  abbrev ack_rows : Bool → ℕ → Verdict
  ack_rows made count =
      if not (same_id k.to (instance_id who)) then NotHere 1
      else (if not made then NotHere 2
      else (if nat_lt count k.upto && not k.closed then NotHere 7
      else (if nat_lt (acked log k.side) k.upto || (k.closed && not (is_closed_by_ack log k.side)) then AckNew
      else AckOld)))

  pub ack_by_facts : ack_verdict who log k ≡ ack_verdict_on who k (endpoint_of log k.side)
  ack_by_facts =
      ap (λ made. ack_rows made (length (numbered log k.side))) (made_by_facts log k.side)
      ∙ ap (ack_rows (is_made (endpoint_of log k.side))) (numbered_by_facts log k.side)
