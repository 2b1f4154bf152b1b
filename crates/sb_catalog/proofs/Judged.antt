-- What is known of a log answers as the log does.
use Rattle.std.proofs.Common.{◌≡◌, ◌+◌, Bool, true, false, List, refl, ap}
use Rattle.std.specs.Prelude.{IsTrue, not, ◌&&◌, ◌||◌, ◌==◌, nat_le, nat_lt, if◌then◌else◌, Option, Some, None, is_some, is_none}
use Rattle.sb_log.specs.declared.definitions.Ddl.{Ddl}
use Rattle.sb_log.specs.declared.definitions.Ddl.TheVariants.{MessageType, Contract, Queue, Service, Route, Priority, Table, Procedure}
use Rattle.sb_log.specs.declared.entries.Entry.{Entry}
use Rattle.sb_log.specs.declared.identifiers.Who.{Who}
use Rattle.sb_log.specs.declared.messages.Data.{Data}
use Rattle.sb_log.specs.declared.refusals.Refusal.{Refusal}
use Rattle.sb_log.specs.declared.refusals.Refusal.TheVariants as refusal
use Rattle.sb_log.specs.declared.steps.Verdict.{Verdict}
use Rattle.sb_log.specs.declared.steps.Verdict.TheVariants.{New, Next, Repeat, Early, Gone, NotHere}
use Rattle.sb_model.specs.Sides.{Bytes}
use Rattle.sb_model.specs.Catalog.{find_contract, find_service}
use Rattle.sb_model.specs.Definitions.{define_refusal, is_system_type, taken_if}
use Rattle.sb_model.specs.Refusals.{or_else, when}
use Rattle.sb_model.specs.Messages.{is_closed, accepted}
use Rattle.sb_model.specs.Acceptance.{verdict, is_for_other, makes_side, offers, is_type_refused, receiver}
use Rattle.sb_catalog.specs.Here.{here, is_receiving_on, verdict_by}
use Rattle.sb_catalog.specs.Known.{is_new}

-- a name that isn't refused as taken is new
not_taken : {A : Type 0} (found : Option A) (name : Bytes) (rest : Option Refusal) → or_else (taken_if found name) rest ≡ None → IsTrue (is_none found)
not_taken None name rest h = refl
not_taken (Some x) name rest h = absurd (some_none h)
  where
    some_none : Some (refusal.NameTaken name) ≡ None → ⊥
    some_none e = cc

not_either : {A : Type 0} (found : Option A) (b : Bool) (name : Bytes) (rest : Option Refusal) → or_else (when (is_some found || b) (refusal.NameTaken name)) rest ≡ None → IsTrue (is_none found)
not_either None b name rest h = refl
not_either (Some x) b name rest h = absurd (some_none h)
  where
    some_none : Some (refusal.NameTaken name) ≡ None → ⊥
    some_none e = cc

pub accepted_is_new : (log : List Entry) (ddl : Ddl) → define_refusal log ddl ≡ None → IsTrue (is_new log ddl)
accepted_is_new log (MessageType d) h = not_either _ (is_system_type d.name) d.name _ h
accepted_is_new log (Contract d) h = not_taken _ d.name _ h
accepted_is_new log (Queue d) h = not_taken _ d.name _ h
accepted_is_new log (Service d) h = not_taken _ d.name _ h
accepted_is_new log (Route d) h = not_taken _ d.name _ h
accepted_is_new log (Priority d) h = not_taken _ d.name _ h
accepted_is_new log (Table d) h = not_taken _ d.name _ h
accepted_is_new log (Procedure d) h = not_taken _ d.name _ h

-- the end of the table, by what is missing
by_missing : (unserved on uncontracted untyped : Bool) (last : Verdict)
    → (if unserved then NotHere 3 else (if not on then NotHere 4 else (if uncontracted then NotHere 5 else (if untyped then NotHere 6 else last))))
    ≡ (let missing = if unserved then 3 else (if uncontracted then 5 else (if untyped then 6 else 0)) in
    if missing == 3 then NotHere 3 else (if not on then NotHere 4 else (if nat_lt 0 missing then NotHere missing else last)))
by_missing true on uncontracted untyped last = refl
by_missing false on true untyped last = refl
by_missing false on false true last = refl
by_missing false on false false last = refl

pub verdict_by_missing : (who : Who) (log : List Entry) (d : Data) → verdict who log d ≡ verdict_by who log d (here log d (makes_side log d)) (is_receiving_on log d)
verdict_by_missing who log d =
    ap (λ rest.
    if is_for_other who d then NotHere 1
    else (if makes_side log d && (receiver d).initiator then NotHere 2
    else (if is_closed log (receiver d) then Gone
    else (if nat_le d.number (accepted log (receiver d)) then Repeat
    else (if nat_lt (accepted log (receiver d) + 1) d.number then Early else rest)))))
    (by_missing (makes_side log d && is_none (find_service log d.header.to_service)) (is_receiving_on log d)
    (is_none (find_contract log d.header.contract) || (makes_side log d && not (offers log d)))
    (is_type_refused log d.side d.header.contract d.content) (if makes_side log d then New else Next))
