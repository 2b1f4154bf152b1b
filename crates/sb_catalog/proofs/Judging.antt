-- The refusals of a contract and of a service, from what was asked of the catalog.
use Rattle.std.proofs.Common.{◌≡◌, Bool, true, false, List, [], refl, ap, sym, ◌∙◌}
use Rattle.std.specs.Prelude.{not, map, Option, Some, None, is_some, is_none}
use Rattle.sb_log.specs.declared.definitions.Ddl.TheVariants.{Contract, Service}
use Rattle.sb_log.specs.declared.definitions.ContractDef.{ContractDef}
use Rattle.sb_log.specs.declared.definitions.SentBy.{SentBy}
use Rattle.sb_log.specs.declared.definitions.ServiceDef.{ServiceDef}
use Rattle.sb_log.specs.declared.entries.Entry.{Entry}
use Rattle.sb_log.specs.declared.refusals.Refusal.{Refusal}
use Rattle.sb_log.specs.declared.refusals.Refusal.TheVariants as refusal
use Rattle.sb_model.specs.Sides.{Bytes}
use Rattle.sb_model.specs.Catalog.{find_contract, find_message_type, find_queue, find_service}
use Rattle.sb_model.specs.Definitions.{first_refusal, from_initiator, listed, own_refusal}
use Rattle.sb_model.specs.Refusals.{or_else, when}
use Rattle.sb_catalog.proofs.Listing.{not_none}

-- a test that fails leaves the rest of the chain
pub passed : (t : Bool) (why : Refusal) (rest : Option Refusal) → t ≡ false → rest ≡ or_else (when t why) rest
passed t why rest e = sym (ap (λ (b : Bool). or_else (when b why) rest) e)

ends : (r : Option Refusal) → r ≡ or_else r None
ends None = refl
ends (Some why) = refl

module _ (log : List Entry) (d : ContractDef) where
  abbrev faults : List SentBy → Option Refusal
  faults types = listed (find_message_type log) refusal.NoMessageType [] (map (λ sent. sent.kind) types)

  abbrev one_sided : Option Refusal
  one_sided = or_else (when (not (from_initiator d)) (refusal.NothingFromInitiator d.name)) None

  past_name : (r : Option Refusal) → is_some (find_contract log d.name) ≡ false → r ≡ or_else (faults d.types) one_sided → r ≡ first_refusal (own_refusal log (Contract d))
  past_name r free e = e ∙ passed (is_some (find_contract log d.name)) (refusal.NameTaken d.name) (or_else (faults d.types) one_sided) free

  pub contract_listed : (types : List SentBy) (why : Refusal) → types ≡ d.types → is_some (find_contract log d.name) ≡ false → Some why ≡ faults types → Some why ≡ first_refusal (own_refusal log (Contract d))
  contract_listed types why same free found = past_name (Some why) free (ap (λ (f : Option Refusal). or_else f one_sided) (found ∙ ap faults same))

  pub contract_sides : (types : List SentBy) (t : Bool) → types ≡ d.types → is_some (find_contract log d.name) ≡ false → None ≡ faults types → t ≡ from_initiator d
      → or_else (when (not t) (refusal.NothingFromInitiator d.name)) None ≡ first_refusal (own_refusal log (Contract d))
  contract_sides types t same free found from =
      past_name _ free
      (ap (λ (b : Bool). or_else (when (not b) (refusal.NothingFromInitiator d.name)) None) from
      ∙ ap (λ (f : Option Refusal). or_else f one_sided) (found ∙ ap faults same))

pub service_judged : (log : List Entry) (d : ServiceDef) (names : List Bytes) (r : Option Refusal) → names ≡ d.contracts
    → is_some (find_service log d.name) ≡ false → is_some (find_queue log d.queue) ≡ true
    → r ≡ listed (find_contract log) refusal.NoContract [] names
    → r ≡ first_refusal (own_refusal log (Service d))
service_judged log d names r same free there found =
    let faults : Option Refusal = listed (find_contract log) refusal.NoContract [] d.contracts in
    found
    ∙ ap (λ (ns : List Bytes). listed (find_contract log) refusal.NoContract [] ns) same
    ∙ ends faults
    ∙ passed (is_none (find_queue log d.queue)) (refusal.NoQueue d.queue) (or_else faults None) (not_none (find_queue log d.queue) there)
    ∙ passed (is_some (find_service log d.name)) (refusal.NameTaken d.name) (or_else (when (is_none (find_queue log d.queue)) (refusal.NoQueue d.queue)) (or_else faults None)) free
