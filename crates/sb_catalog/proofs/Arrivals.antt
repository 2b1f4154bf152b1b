-- What a message lacks, of what is known of a log, is what the log lacks.
use Rattle.std.proofs.Common.{◌≡◌, Bool, false, List, refl, ap, ◌∙◌}
use Rattle.std.specs.Prelude.{◌&&◌, ◌||◌, not, if◌then◌else◌, Some, is_none}
use Rattle.std.specs.Option.{option_map_or}
use Rattle.std.specs.List.{list_any}
use Rattle.sb_log.specs.declared.definitions.ContractDef.{ContractDef}
use Rattle.sb_log.specs.declared.entries.Entry.{Entry}
use Rattle.sb_log.specs.declared.identifiers.SideId.{SideId}
use Rattle.sb_log.specs.declared.messages.Content.{Content}
use Rattle.sb_log.specs.declared.messages.Content.TheVariants.{App, EndDialog, Error}
use Rattle.sb_log.specs.declared.messages.Data.{Data}
use Rattle.sb_model.specs.Sides.{Bytes, same_name}
use Rattle.sb_model.specs.Catalog.{find_contract, find_service, sender_of, may_be_sent_by}
use Rattle.sb_model.specs.Acceptance.{has_body, is_empty_type, is_type_refused, offers}
use Rattle.sb_catalog.specs.Here.{here, refuses_type}
use Rattle.sb_catalog.specs.Known.{Known, log_of}
use Rattle.sb_catalog.specs.Of.{IsOf}
use Rattle.sb_catalog.proofs.Known.{type_of_log, contract_of_log, service_of_log}

module _ (log : List Entry) (k : Known) (h : IsOf log k) where
  type_refused_of_log : (from : SideId) (contract : Bytes) (content : Content) → is_type_refused (log_of k) from contract content ≡ is_type_refused log from contract content
  type_refused_of_log from contract (App kind body) =
      ap (λ o. not (option_map_or (λ def. option_map_or (λ by. may_be_sent_by by from.initiator) (sender_of def kind) false) o false) || (is_empty_type (log_of k) kind && has_body body)) (contract_of_log log k h contract)
      ∙ ap (λ o. not (option_map_or (λ def. option_map_or (λ by. may_be_sent_by by from.initiator) (sender_of def kind) false) (find_contract log contract) false) || (option_map_or (λ def. def.empty) o false && has_body body)) (type_of_log log k h kind)
  type_refused_of_log from contract EndDialog = refl
  type_refused_of_log from contract (Error code text) = refl

  pub here_of_log : (d : Data) (makes : Bool) → here (log_of k) d makes ≡ here log d makes
  here_of_log d makes =
      ap (λ o. if makes && is_none o then 3
      else (if is_none (find_contract (log_of k) d.header.contract) || (makes && not (option_map_or (λ def. list_any (same_name d.header.contract) def.contracts) o false)) then 5
      else (if is_type_refused (log_of k) d.side d.header.contract d.content then 6 else 0)))
      (service_of_log log k h d.header.to_service)
      ∙ ap (λ o. if makes && is_none (find_service log d.header.to_service) then 3
      else (if is_none o || (makes && not (offers log d)) then 5
      else (if is_type_refused (log_of k) d.side d.header.contract d.content then 6 else 0)))
      (contract_of_log log k h d.header.contract)
      ∙ ap (λ t. if makes && is_none (find_service log d.header.to_service) then 3
      else (if is_none (find_contract log d.header.contract) || (makes && not (offers log d)) then 5
      else (if t then 6 else 0)))
      (type_refused_of_log d.side d.header.contract d.content)

-- a type is refused where its contract, if there is one, refuses it
pub refused_by_contract : (log : List Entry) (from : SideId) (contract : Bytes) (def : ContractDef) (content : Content) → find_contract log contract ≡ Some def → is_type_refused log from contract content ≡ refuses_type log def from.initiator content
refused_by_contract log from contract def (App kind body) e =
    ap (λ o. not (option_map_or (λ def. option_map_or (λ by. may_be_sent_by by from.initiator) (sender_of def kind) false) o false) || (is_empty_type log kind && has_body body)) e
refused_by_contract log from contract def EndDialog e = refl
refused_by_contract log from contract def (Error code text) e = refl
